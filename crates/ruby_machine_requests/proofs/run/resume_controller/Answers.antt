use Rattle.ruby_types.specs.declared.value.Value.{out-Value}
use Rattle.ruby_runs.specs.Runs.{action_of, run_limits}
use Rattle.ruby_machine_names.specs.Profile.{profile}
use Rattle.ruby_machine_files.specs.Files.{finish}
use Rattle.ruby_machine_requests.specs.Requests.{waits_for}
use Rattle.ruby_machine_requests.specs.declared.run.RequestAwaits.TheVariants as awaits
use Rattle.ruby_machine_requests.proofs.Goes.{goes_along}
use Rattle.ruby_machine_requests.proofs.run.resume_controller.Goals as goal

pub returns-in-Found : goal.returns-in-Found
returns-in-Found g c =
    let i = g.P.Lookups.index c.args.program.now in
    let k = g.P.Lookups.entries c.args.program.now in
    let run = c.args.run in
    let found = c.in-Found.found in
    let step = rw c.in-Found.is at c.in_ok-found.ensures in
    goes_along i k (waits_for i run (awaits.Controller c.args.wait) c.args.value)
    (action_of i profile run_limits run.request run.path found.value (out-Value found.value) c.resume.new.turns finish)
    c.control.result
    (rw c.request_here-here.ensures at
    (step.0 (λ f n. action_of i profile run_limits run.request run.path f.value (out-Value f.value) n finish)))
    c.control.ensures

pub returns : goal.returns
returns g c =
    let i = g.P.Lookups.index c.args.program.now in
    let run = c.args.run in
    let step = rw c.in-Asks.is at c.in_ok-found.ensures in
    rw c.request_here-here.ensures at
    (step.0 (λ f n. action_of i profile run_limits run.request run.path f.value (out-Value f.value) n finish))
