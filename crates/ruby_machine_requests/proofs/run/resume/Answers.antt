use Rattle.std.proofs.Common.{ap, sym, ◌∙◌}
use Rattle.std.specs.Option.{option_map}
use Rattle.ruby_types.specs.declared.value.Value.TheVariants as value
use Rattle.program_lookups.specs.Codes.{method_of}
use Rattle.ruby_runs.specs.Runs.{action_call, run_limits}
use Rattle.ruby_machine_names.specs.Profile.{profile}
use Rattle.ruby_machine_files.specs.Files.{finish}
use Rattle.ruby_machine_requests.specs.Requests.{waits, waits_for}
use Rattle.ruby_machine_requests.proofs.Goes.{goes_along}
use Rattle.ruby_machine_requests.proofs.run.resume.Goals as goal

pub returns-in_ok-found-in-Action : goal.returns-in_ok-found-in-Action
returns-in_ok-found-in-Action g c =
    let i = g.P.Lookups.index c.args.program.now in
    let k = g.P.Lookups.entries c.args.program.now in
    let run = c.args.wait.run in
    let call = action_call i profile run_limits run.request run.path (value.Module c.in-Action.called) in
    goes_along i k (waits i c.args.wait c.args.value)
    (call (option_map (λ m. method_of k m.now) c.in_ok-found-in-Action.found) run.turns finish) c.call_action.result
    (ap (λ a. waits_for i run a c.args.value) c.in-Action.is
    ∙ ap (λ found. call found run.turns finish) (sym c.in_ok-found-in-Action.ensures)) (c.call_action.ensures i k)
