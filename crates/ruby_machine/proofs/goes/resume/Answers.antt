use Rattle.std.proofs.Common.{ap, suc, arith}
use Rattle.ruby_machine_files.specs.Files as files
use Rattle.ruby_machine_ancestors.specs.Ancestors as ancestors
use Rattle.ruby_machine_requests.specs.Requests as requests
use Rattle.ruby_machine_frames.specs.Rest as rest
use Rattle.ruby_machine_frames.specs.declared.frames.Control.TheVariants as control
use Rattle.ruby_machine.specs.Machines.{waits}
use Rattle.ruby_machine.proofs.Stops.{reaches_along}
use Rattle.ruby_machine.proofs.goes.resume.Goals as goal

pub returns-in-File : goal.returns-in-File
returns-in-File g c =
    let i = g.P.Lookups.index c.args.program.now in
    let k = g.P.Lookups.entries c.args.program.now in
    let before = files.waits i c.in-File.wait c.args.value in
    reaches_along i k (waits i k c.args.wait c.args.value) before c.of_file.result
    (ap (λ w. waits i k w c.args.value) c.in-File.is) (c.of_file.ensures i k before c.resume.ensures)

pub returns-in-Ancestors : goal.returns-in-Ancestors
returns-in-Ancestors g c =
    let i = g.P.Lookups.index c.args.program.now in
    let k = g.P.Lookups.entries c.args.program.now in
    let before = ancestors.waits i c.in-Ancestors.wait c.args.value in
    reaches_along i k (waits i k c.args.wait c.args.value) before c.of_ancestors.result
    (ap (λ w. waits i k w c.args.value) c.in-Ancestors.is)
    (c.of_ancestors.ensures i k before c.resume-in-Ancestors.ensures)

pub returns-in-Request : goal.returns-in-Request
returns-in-Request g c =
    let i = g.P.Lookups.index c.args.program.now in
    let k = g.P.Lookups.entries c.args.program.now in
    let before = requests.waits i c.in-Request.wait c.args.value in
    let goes : requests.RequestGoes i k before c.resume-step.result = c.resume-step.ensures in
    reaches_along i k (waits i k c.args.wait c.args.value) before c.of_request.result
    (ap (λ w. waits i k w c.args.value) c.in-Request.is) (c.of_request.ensures before goes)

pub returns-in-Code : goal.returns-in-Code
returns-in-Code g c =
    let i = g.P.Lookups.index c.args.program.now in
    let k = g.P.Lookups.entries c.args.program.now in
    let now = control.Gives c.args.value in
    let before = rest.meaning i k c.in-Code.core now in
    reaches_along i k (waits i k c.args.wait c.args.value) before c.run_on.result
    (ap (λ w. waits i k w c.args.value) c.in-Code.is)
    (c.run_on.ensures before (suc (rest.work c.in-Code.core now)) ((λ j. before), omega arith))
