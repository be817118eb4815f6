use Rattle.ruby_types.specs.declared.value.Value.{out-Value}
use Rattle.ruby_runs.specs.Runs.{action_of, run_limits}
use Rattle.ruby_machine_names.specs.Profile.{profile}
use Rattle.ruby_machine_files.specs.Files.{finish}
use Rattle.ruby_machine_requests.specs.Requests.{referred}
use Rattle.ruby_machine_requests.proofs.Goes.{goes_along}
use Rattle.ruby_machine_requests.proofs.run.refer_controller.Goals as goal

pub returns-in-Gives : goal.returns-in-Gives
returns-in-Gives g c =
    let i = g.P.Lookups.index c.args.program.now in
    let k = g.P.Lookups.entries c.args.program.now in
    let request = c.args.request.now in
    let found = c.in-Gives.found in
    let step = rw c.in-Gives.is at c.in_ok-next.ensures in
    goes_along i k (referred i request c.args.path)
    (action_of i profile run_limits request c.args.path found.value (out-Value found.value) c.refer.new.turns finish)
    c.control.result
    (rw (c.request_here.ensures, c.in_ok-copy.ensures) at
    (step.0 (λ f n. action_of i profile run_limits request c.args.path f.value (out-Value f.value) n finish)))
    (rw c.in_ok-copy_request.ensures at c.control.ensures)

pub returns-in-Asks : goal.returns-in-Asks
returns-in-Asks g c =
    let i = g.P.Lookups.index c.args.program.now in
    let request = c.args.request.now in
    let step = rw c.in-Asks.is at c.in_ok-next.ensures in
    rw (c.new.ensures, c.in_ok-copy_request.ensures)
    (rw (c.request_here.ensures, c.in_ok-copy.ensures) at
    (step.0 (λ f n. action_of i profile run_limits request c.args.path f.value (out-Value f.value) n finish)))
