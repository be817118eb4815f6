use Rattle.std.proofs.Common.{sym, ap, ◌∙◌}
use Rattle.by_need.specs.Asking.{over}
use Rattle.std.proofs.lemmas.Result.{IfOk-weaker}
use Rattle.by_need_loader.proofs.Goes.{enters, stands, says_ring}
use Rattle.by_need_loader.proofs.loader.Loader.enter.Goals as goal

pub returns-in_ok-running-in-Ok-default-true : goal.returns-in_ok-running-in-Ok-default-true
returns-in_ok-running-in-Ok-default-true g c =
    let r = g.Y.Theory.rules c.args.theory.now in
    let m = g.Y.Program.runs c.args.theory.now in
    let laws = g.Y.Theory.laws c.args.theory.now in
    let new = c.in-Ok-default-true.ensures in
    rw (← c.self.view_is)
    (IfOk-weaker c.go_on.result _ _ (λ told f h bound w none le.
    let e = enters r m laws h _ c.args.task w none g.Y.Key.PartialEq.eq
    (g.met.Y.Program.tells_apart c.args.theory.now) c.in_ok-key.key
    c.in_ok-key.ensures _ c.in_ok-running-in-Ok-default-true.running bound
    (sym c.in-Ok-default-true.field-0-1-test ∙ new.added) new.keys
    (λ is L. g.met.Y.Program.follows c.args.theory.now c.args.task L
    ∙ ap (over L) (sym (c.in_ok-running-in-Ok-default-true.ensures is))) le in
    f h bound (record { keyed = e.keyed; running = e.runs }) e.less)
    c.go_on.ensures)

pub returns-in-Ok-default-false : goal.returns-in-Ok-default-false
returns-in-Ok-default-false g c =
    let r = g.Y.Theory.rules c.args.theory.now in
    let m = g.Y.Program.runs c.args.theory.now in
    let laws = g.Y.Theory.laws c.args.theory.now in
    let old = c.in-Ok-default-false.ensures in
    rw (← c.self.view_is)
    (λ h bound w none le.
    let s = stands r m laws h _ c.args.task w none g.Y.Key.PartialEq.eq
    (g.met.Y.Program.tells_apart c.args.theory.now) c.in_ok-key.key
    c.in_ok-key.ensures _ c.in-Ok-default-false.place old.stored.0
    (sym c.in-Ok-default-false.field-0-1-test ∙ old.added) old.keys old.within old.stored.1 old.stored.2 in
    says_ring r m laws h _ c.args.task w none g.Y.Key.PartialEq.eq (g.met.Y.Program.tells_apart c.args.theory.now)
    c.in_ok-key.key c.in_ok-key.ensures c.in-Ok-default-false.place c.ring_from.result.items s
    (rw c.replace-tasks.ensures.value at c.ring_from.ensures))
