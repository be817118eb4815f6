use Rattle.std.proofs.Common.{lt_of_lt_of_le, ◌∙◌}
use Rattle.std.proofs.lemmas.Result.{IfOk-weaker}
use Rattle.by_need_loader.specs.Progress.{Progress}
use Rattle.by_need_loader.proofs.Lists.{empty_when, full_when}
use Rattle.by_need_loader.proofs.Goes.{says_raised, says_otherwise, keys_left, says_last, says_next, asked}
use Rattle.by_need_loader.proofs.loader.Loader.go_on.Goals as goal

pub returns-in-Raised : goal.returns-in-Raised
returns-in-Raised g c =
    λ h bound now le. says_raised (g.Y.Theory.rules c.args.theory.now) (g.Y.Program.runs c.args.theory.now)
    (g.Y.Theory.laws c.args.theory.now) h c.args.self.now c.args.task c.args.running now.keyed now.running
    c.in-Raised.error (rw c.in-Raised.is at c.in_ok-value.ensures)

pub returns-in-Otherwise : goal.returns-in-Otherwise
returns-in-Otherwise g c =
    λ h bound now le. says_otherwise (g.Y.Theory.rules c.args.theory.now) (g.Y.Program.runs c.args.theory.now)
    (g.Y.Theory.laws c.args.theory.now) h c.args.self.now c.args.task c.args.running now.keyed now.running
    c.in-Otherwise.end (rw c.in-Otherwise.is at c.in_ok-value.ensures)

pub returns-then-is_empty : goal.returns-then-is_empty
returns-then-is_empty g c =
    let r = g.Y.Theory.rules c.args.theory.now in
    let m = g.Y.Program.runs c.args.theory.now in
    let laws = g.Y.Theory.laws c.args.theory.now in
    let i = c.self.inside in
    let p : Progress _ _ _ _ = record {
      tasks = i.tasks.items;
      waiting = i.waiting.items;
      keys = i.keys.keys;
      phase = i.phase;
    } in
    rw (c.set_phase.ensures, ← c.self.view_is)
    (λ h bound now le.
    let left = keys_left r m laws h p c.args.task c.args.running now.keyed now.running _ c.len.result
    (c.len.ensures ∙ c.self.inside.tasks.ok.0) c.truncate.ensures.keys in
    says_last r m laws h p c.args.task c.args.running now.keyed now.running c.in-Done.value bound
    (rw c.in-Done.is at c.in_ok-value.ensures) le _ left
    (empty_when _ _ _ c.self.inside.tasks.ok.0 c.is_empty.ensures c.if-is_empty.true))

pub returns-in_ok-asked-in-Done : goal.returns-in_ok-asked-in-Done
returns-in_ok-asked-in-Done g c =
    let r = g.Y.Theory.rules c.args.theory.now in
    let m = g.Y.Program.runs c.args.theory.now in
    let laws = g.Y.Theory.laws c.args.theory.now in
    let i = c.self.inside in
    let p : Progress _ _ _ _ = record {
      tasks = i.tasks.items;
      waiting = i.waiting.items;
      keys = i.keys.keys;
      phase = i.phase;
    } in
    rw (c.set_phase-in-Done.ensures, ← c.self.view_is)
    (λ h bound now le.
    let left = keys_left r m laws h p c.args.task c.args.running now.keyed now.running _ c.len.result
    (c.len.ensures ∙ c.self.inside.tasks.ok.0) c.truncate.ensures.keys in
    says_next r m laws h p c.args.task c.args.running now.keyed now.running c.in-Done.value bound
    (rw c.in-Done.is at c.in_ok-value.ensures) le _ left c.in_ok-asked-in-Done.asked c.in_ok-asked-in-Done.ensures
    (full_when _ _ _ c.self.inside.tasks.ok.0 c.is_empty.ensures c.if-is_empty.false))

pub returns-in_ok-push-in-Asks-2 : goal.returns-in_ok-push-in-Asks-2
returns-in_ok-push-in-Asks-2 g c =
    let r = g.Y.Theory.rules c.args.theory.now in
    let m = g.Y.Program.runs c.args.theory.now in
    let laws = g.Y.Theory.laws c.args.theory.now in
    let i = c.self-in-Asks.inside in
    let p : Progress _ _ _ _ = record {
      tasks = i.tasks.items;
      waiting = i.waiting.items;
      keys = i.keys.keys;
      phase = i.phase;
    } in
    rw (← c.self-in-Asks.view_is)
    (IfOk-weaker c.look.result _ _ (λ told f h bound now le.
    let a = asked r m laws h p c.args.task c.args.running now.keyed now.running c.in-Asks.asked c.in-Asks.waiting _ _
    i.phase
    (rw c.in-Asks.is at c.in_ok-value.ensures) c.in_ok-push-in-Asks.ensures.items
    c.in_ok-push-in-Asks-2.ensures.items in
    f c.args.theory.now h bound a.0 (lt_of_lt_of_le a.1 le)) c.look.ensures)
