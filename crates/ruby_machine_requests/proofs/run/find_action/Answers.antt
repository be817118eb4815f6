use Rattle.std.proofs.Common.{ap}
use Rattle.std.specs.Prelude.{Some, None}
use Rattle.ruby_types.specs.declared.value.Value.TheVariants as value
use Rattle.program_lookups.specs.Codes.{method_of}
use Rattle.ruby_runs.specs.Doing.{◌>>=◌}
use Rattle.ruby_runs.specs.Runs.{action_call, request_here, run_limits}
use Rattle.ruby_machine_names.specs.Profile.{profile}
use Rattle.ruby_machine_files.specs.Files.{finish}
use Rattle.ruby_machine_requests.specs.Requests.{called_on}
use Rattle.ruby_machine_requests.proofs.Goes.{goes_along}
use Rattle.ruby_machine_requests.proofs.run.find_action.Goals as goal

pub returns-in-Found : goal.returns-in-Found
returns-in-Found g c =
    let i = g.P.Lookups.index c.args.program.now in
    let k = g.P.Lookups.entries c.args.program.now in
    let run = c.args.run in
    let call = action_call i profile run_limits run.request run.path (value.Module c.args.called) in
    goes_along i k (called_on i run c.args.called)
    (call (Some (method_of k c.in-Found.method.now)) run.turns finish) c.call_action.result
    (ap (λ found. (found >>= call) run.turns finish) (c.in-Found.ensures (request_here run_limits)))
    (c.call_action.ensures i k)

pub returns-in-Missing : goal.returns-in-Missing
returns-in-Missing g c =
    let i = g.P.Lookups.index c.args.program.now in
    let k = g.P.Lookups.entries c.args.program.now in
    let run = c.args.run in
    let call = action_call i profile run_limits run.request run.path (value.Module c.args.called) in
    goes_along i k (called_on i run c.args.called) (call None run.turns finish) c.call_action-in-Missing.result
    (ap (λ found. (found >>= call) run.turns finish) (c.in-Missing.ensures (request_here run_limits)))
    (c.call_action-in-Missing.ensures i k)
