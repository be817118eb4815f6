use Rattle.std.proofs.Common.{refl}
use Rattle.ruby_runs.specs.Bodies.{Returns}
use Rattle.ruby_machine_state.specs.States.{state_of}
use Rattle.ruby_machine_frames.specs.declared.frames.Frame.TheVariants as frame
use Rattle.ruby_machine_frames.proofs.Steps.{resumed}
use Rattle.ruby_machine_steps.proofs.Popping.{passes}
use Rattle.ruby_machine_steps.proofs.frames.pass.Goals as goal

pub returns-in-Leave : goal.returns-in-Leave
returns-in-Leave g c =
    let i = g.P.Lookups.index c.args.program.now in
    let k = g.P.Lookups.entries c.args.program.now in
    let m = c.args.core.now in
    let flow = Returns (state_of m.state) c.args.value in
    resumed i k m c.leave.new.core c.leave.result c.args.frame (frame.Leave c.in-Leave.caller) flow c.in-Leave.is
    (c.leave.ensures i k flow refl)

pub returns-in-LeaveNew : goal.returns-in-LeaveNew
returns-in-LeaveNew g c =
    let i = g.P.Lookups.index c.args.program.now in
    let k = g.P.Lookups.entries c.args.program.now in
    let m = c.args.core.now in
    let flow = Returns (state_of m.state) c.args.value in
    resumed i k m c.leave_new.new.core c.leave_new.result c.args.frame (frame.LeaveNew c.in-LeaveNew.caller) flow
    c.in-LeaveNew.is
    (c.leave_new.ensures i k flow refl)

pub returns : goal.returns
returns g c =
    passes (g.P.Lookups.index c.args.program.now) (g.P.Lookups.entries c.args.program.now) c.args.core.now c.args.frame
    c.args.value c.in_default.not-Leave c.in_default.not-LeaveNew
