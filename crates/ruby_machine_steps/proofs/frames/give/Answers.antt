use Rattle.std.proofs.Common.{◌+◌, refl, subst, arith}
use Rattle.std.specs.Prelude.{Ok, Err}
use Rattle.ruby_runs.specs.Bodies.{GoesOn}
use Rattle.ruby_machine_state.specs.States.{state_of}
use Rattle.ruby_machine_frames.specs.declared.frames.Control.TheVariants as control
use Rattle.ruby_machine_frames.specs.declared.frames.Frame.TheVariants as frame
use Rattle.ruby_machine_frames.specs.Rest.{KeptFrom, frame_meaning, load}
use Rattle.ruby_machine_frames.proofs.Steps.{resumed}
use Rattle.ruby_machine_steps.proofs.frames.give.Goals as goal

pub returns-in-Not : goal.returns-in-Not
returns-in-Not g c =
    let i = g.P.Lookups.index c.args.program.now in
    let k = g.P.Lookups.entries c.args.program.now in
    let m = c.args.core.now in
    let flow = GoesOn (state_of m.state) c.args.value in
    resumed i k m m (Ok c.give_not.result) c.args.frame frame.Not flow c.in-Not.is
    (c.give_not.ensures i k m)

pub returns-in-And : goal.returns-in-And
returns-in-And g c =
    let i = g.P.Lookups.index c.args.program.now in
    let k = g.P.Lookups.entries c.args.program.now in
    let m = c.args.core.now in
    let flow = GoesOn (state_of m.state) c.args.value in
    resumed i k m m (Ok c.give_and.result) c.args.frame (frame.And c.in-And.right) flow c.in-And.is
    (c.give_and.ensures i k m)

pub returns-in-Or : goal.returns-in-Or
returns-in-Or g c =
    let i = g.P.Lookups.index c.args.program.now in
    let k = g.P.Lookups.entries c.args.program.now in
    let m = c.args.core.now in
    let flow = GoesOn (state_of m.state) c.args.value in
    resumed i k m m (Ok c.give_or.result) c.args.frame (frame.Or c.in-Or.right) flow c.in-Or.is
    (c.give_or.ensures i k m)

pub returns-in-Choose : goal.returns-in-Choose
returns-in-Choose g c =
    let i = g.P.Lookups.index c.args.program.now in
    let k = g.P.Lookups.entries c.args.program.now in
    let m = c.args.core.now in
    let flow = GoesOn (state_of m.state) c.args.value in
    resumed i k m m (Ok c.give_choose.result) c.args.frame (frame.Choose c.in-Choose.taken c.in-Choose.other) flow
    c.in-Choose.is
    (c.give_choose.ensures i k m)

pub returns-in-Items : goal.returns-in-Items
returns-in-Items g c =
    let i = g.P.Lookups.index c.args.program.now in
    let k = g.P.Lookups.entries c.args.program.now in
    let m = c.args.core.now in
    let flow = GoesOn (state_of m.state) c.args.value in
    resumed i k m c.give_item.new.core c.give_item.result c.args.frame (frame.Items c.in-Items.more c.in-Items.done)
    flow c.in-Items.is
    (subst (λ x. KeptFrom i x (frame_meaning i x m (frame.Items c.in-Items.more c.in-Items.done) flow) (load m + 9)
    c.give_item.result c.give_item.new.core) c.nodes.ensures (c.give_item.ensures i))

pub returns-in-Pair : goal.returns-in-Pair
returns-in-Pair g c =
    let i = g.P.Lookups.index c.args.program.now in
    let k = g.P.Lookups.entries c.args.program.now in
    let m = c.args.core.now in
    let flow = GoesOn (state_of m.state) c.args.value in
    resumed i k m c.give_pair.new.core c.give_pair.result c.args.frame (frame.Pair c.in-Pair.key c.in-Pair.more
    c.in-Pair.done) flow c.in-Pair.is
    (subst (λ x. KeptFrom i x (frame_meaning i x m (frame.Pair c.in-Pair.key c.in-Pair.more c.in-Pair.done) flow)
    (load m + 9)
    c.give_pair.result c.give_pair.new.core) c.nodes-in-Pair.ensures (c.give_pair.ensures i))

pub returns-in-Inside : goal.returns-in-Inside
returns-in-Inside g c =
    let i = g.P.Lookups.index c.args.program.now in
    let k = g.P.Lookups.entries c.args.program.now in
    let m = c.args.core.now in
    let flow = GoesOn (state_of m.state) c.args.value in
    resumed i k m c.give_inside.new.core c.give_inside.result c.args.frame (frame.Inside c.in-Inside.more
    c.in-Inside.bytes) flow c.in-Inside.is
    (subst (λ x. KeptFrom i x (frame_meaning i x m (frame.Inside c.in-Inside.more c.in-Inside.bytes) flow) (load m + 9)
    c.give_inside.result c.give_inside.new.core) c.nodes-in-Inside.ensures (c.give_inside.ensures i))

pub returns-in-Branch : goal.returns-in-Branch
returns-in-Branch g c =
    let i = g.P.Lookups.index c.args.program.now in
    let k = g.P.Lookups.entries c.args.program.now in
    let m = c.args.core.now in
    let flow = GoesOn (state_of m.state) c.args.value in
    resumed i k m c.branched.new.core c.branched.result c.args.frame (frame.Branch c.in-Branch.taken c.in-Branch.arms
    c.in-Branch.other) flow c.in-Branch.is
    (subst (λ x. KeptFrom i x (frame_meaning i x m (frame.Branch c.in-Branch.taken c.in-Branch.arms c.in-Branch.other)
    flow) (load m + 9)
    c.branched.result c.branched.new.core) c.nodes-in-Branch.ensures (c.branched.ensures i))

pub returns-in-Key : goal.returns-in-Key
returns-in-Key g c =
    let i = g.P.Lookups.index c.args.program.now in
    let k = g.P.Lookups.entries c.args.program.now in
    let m = c.args.core.now in
    let flow = GoesOn (state_of m.state) c.args.value in
    resumed i k m c.give_key.new.core c.give_key.result c.args.frame (frame.Key c.in-Key.expr c.in-Key.more
    c.in-Key.done) flow c.in-Key.is
    (c.give_key.ensures i k)

pub returns-in-Receiver : goal.returns-in-Receiver
returns-in-Receiver g c =
    let i = g.P.Lookups.index c.args.program.now in
    let k = g.P.Lookups.entries c.args.program.now in
    let m = c.args.core.now in
    let flow = GoesOn (state_of m.state) c.args.value in
    resumed i k m c.give_receiver.new.core c.give_receiver.result c.args.frame (frame.Receiver c.in-Receiver.name
    c.in-Receiver.first) flow c.in-Receiver.is
    c.give_receiver.ensures

pub returns-in-Args : goal.returns-in-Args
returns-in-Args g c =
    let i = g.P.Lookups.index c.args.program.now in
    let k = g.P.Lookups.entries c.args.program.now in
    let m = c.args.core.now in
    let flow = GoesOn (state_of m.state) c.args.value in
    resumed i k m c.give_argument.new.core c.give_argument.result c.args.frame (frame.Args c.in-Args.on c.in-Args.name
    c.in-Args.more c.in-Args.done) flow c.in-Args.is
    c.give_argument.ensures

pub returns-in-Names : goal.returns-in-Names
returns-in-Names g c =
    let i = g.P.Lookups.index c.args.program.now in
    let k = g.P.Lookups.entries c.args.program.now in
    let m = c.args.core.now in
    let flow = GoesOn (state_of m.state) c.args.value in
    resumed i k m c.give_task.new.core c.give_task.result c.args.frame (frame.Names c.in-Names.wait) flow c.in-Names.is
    c.give_task.ensures

pub returns-in-Singleton : goal.returns-in-Singleton
returns-in-Singleton g c =
    let i = g.P.Lookups.index c.args.program.now in
    let k = g.P.Lookups.entries c.args.program.now in
    let m = c.args.core.now in
    let flow = GoesOn (state_of m.state) c.args.value in
    resumed i k m c.resume_singleton.new.core c.resume_singleton.result c.args.frame (frame.Singleton
    c.in-Singleton.path c.in-Singleton.name c.in-Singleton.args) flow c.in-Singleton.is
    c.resume_singleton.ensures

pub returns-in-Instance : goal.returns-in-Instance
returns-in-Instance g c =
    let i = g.P.Lookups.index c.args.program.now in
    let k = g.P.Lookups.entries c.args.program.now in
    let m = c.args.core.now in
    let flow = GoesOn (state_of m.state) c.args.value in
    resumed i k m c.resume_instance.new.core c.resume_instance.result c.args.frame (frame.Instance c.in-Instance.on
    c.in-Instance.name c.in-Instance.args) flow c.in-Instance.is
    c.resume_instance.ensures

pub returns-in-Initialize : goal.returns-in-Initialize
returns-in-Initialize g c =
    let i = g.P.Lookups.index c.args.program.now in
    let k = g.P.Lookups.entries c.args.program.now in
    let m = c.args.core.now in
    let flow = GoesOn (state_of m.state) c.args.value in
    resumed i k m c.resume_initialize.new.core c.resume_initialize.result c.args.frame (frame.Initialize
    c.in-Initialize.path c.in-Initialize.args) flow c.in-Initialize.is
    c.resume_initialize.ensures

pub returns-in-Set : goal.returns-in-Set
returns-in-Set g c =
    let i = g.P.Lookups.index c.args.program.now in
    let k = g.P.Lookups.entries c.args.program.now in
    let m = c.args.core.now in
    let flow = GoesOn (state_of m.state) c.args.value in
    resumed i k m c.assigned_local.new.core c.assigned_local.result c.args.frame (frame.Set c.in-Set.name
    c.in-Set.next) flow c.in-Set.is
    (c.assigned_local.ensures i k)

pub returns-in-SetIvar : goal.returns-in-SetIvar
returns-in-SetIvar g c =
    let i = g.P.Lookups.index c.args.program.now in
    let k = g.P.Lookups.entries c.args.program.now in
    let m = c.args.core.now in
    let flow = GoesOn (state_of m.state) c.args.value in
    resumed i k m c.assigned_variable.new.core c.assigned_variable.result c.args.frame (frame.SetIvar
    c.in-SetIvar.name c.in-SetIvar.next) flow c.in-SetIvar.is
    (c.assigned_variable.ensures i k)

pub returns-in-Leave : goal.returns-in-Leave
returns-in-Leave g c =
    let i = g.P.Lookups.index c.args.program.now in
    let k = g.P.Lookups.entries c.args.program.now in
    let m = c.args.core.now in
    let flow = GoesOn (state_of m.state) c.args.value in
    resumed i k m c.leave.new.core c.leave.result c.args.frame (frame.Leave c.in-Leave.caller) flow c.in-Leave.is
    (c.leave.ensures i k flow refl)

pub returns-in-LeaveNew : goal.returns-in-LeaveNew
returns-in-LeaveNew g c =
    let i = g.P.Lookups.index c.args.program.now in
    let k = g.P.Lookups.entries c.args.program.now in
    let m = c.args.core.now in
    let flow = GoesOn (state_of m.state) c.args.value in
    resumed i k m c.leave_new.new.core c.leave_new.result c.args.frame (frame.LeaveNew c.in-LeaveNew.caller) flow
    c.in-LeaveNew.is
    (c.leave_new.ensures i k flow refl)

pub returns-in-Then : goal.returns-in-Then
returns-in-Then g c =
    let i = g.P.Lookups.index c.args.program.now in
    let k = g.P.Lookups.entries c.args.program.now in
    let m = c.args.core.now in
    let flow = GoesOn (state_of m.state) c.args.value in
    resumed i k m m (Ok (control.Runs c.in-Then.next c.args.value)) c.args.frame (frame.Then c.in-Then.next) flow
    c.in-Then.is
    (refl, omega arith)

pub returns-in-Return : goal.returns-in-Return
returns-in-Return g c =
    let i = g.P.Lookups.index c.args.program.now in
    let k = g.P.Lookups.entries c.args.program.now in
    let m = c.args.core.now in
    let flow = GoesOn (state_of m.state) c.args.value in
    resumed i k m m (Ok (control.Returns c.args.value)) c.args.frame frame.Return flow c.in-Return.is
    (refl, omega arith)

pub returns-in-Raise : goal.returns-in-Raise
returns-in-Raise g c =
    let i = g.P.Lookups.index c.args.program.now in
    let k = g.P.Lookups.entries c.args.program.now in
    let m = c.args.core.now in
    let flow = GoesOn (state_of m.state) c.args.value in
    resumed i k m m (Err c.raised.result) c.args.frame frame.Raise flow c.in-Raise.is
    (c.raised.ensures i k)
