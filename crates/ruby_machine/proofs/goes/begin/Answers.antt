use Rattle.std.proofs.Common.{ap}
use Rattle.ruby_runs.specs.Runs.{meaning, routed, run_limits}
use Rattle.ruby_types.specs.declared.request.Task.TheVariants as task
use Rattle.ruby_machine_names.specs.Profile.{profile}
use Rattle.ruby_machine_files.specs.Files.{finish}
use Rattle.ruby_machine_requests.specs.Requests.{RequestGoes}
use Rattle.ruby_machine.proofs.Stops.{reaches_along}
use Rattle.ruby_machine.proofs.goes.begin.Goals as goal

pub returns-in-File : goal.returns-in-File
returns-in-File g c =
    let i = g.P.Lookups.index c.args.program.now in
    let k = g.P.Lookups.entries c.args.program.now in
    let before = meaning i profile run_limits (task.File c.in-File.file) in
    reaches_along i k (meaning i profile run_limits c.args.task.now) before c.of_file.result
    (ap (meaning i profile run_limits) c.in-File.is) (c.of_file.ensures i k before c.begin.ensures)

pub returns-in-Ancestors : goal.returns-in-Ancestors
returns-in-Ancestors g c =
    let i = g.P.Lookups.index c.args.program.now in
    let k = g.P.Lookups.entries c.args.program.now in
    let before = meaning i profile run_limits (task.Ancestors c.in-Ancestors.path) in
    reaches_along i k (meaning i profile run_limits c.args.task.now) before c.of_ancestors.result
    (ap (meaning i profile run_limits) c.in-Ancestors.is)
    (c.of_ancestors.ensures i k before c.begin-in-Ancestors.ensures)

pub returns-in-Request : goal.returns-in-Request
returns-in-Request g c =
    let i = g.P.Lookups.index c.args.program.now in
    let k = g.P.Lookups.entries c.args.program.now in
    let request = c.in-Request.request in
    let before = routed i profile run_limits request request.controller run_limits.request_turns finish in
    let goes : RequestGoes i k before c.begin-step.result = c.begin-step.ensures in
    reaches_along i k (meaning i profile run_limits c.args.task.now) before c.of_request.result
    (ap (meaning i profile run_limits) c.in-Request.is) (c.of_request.ensures before goes)
