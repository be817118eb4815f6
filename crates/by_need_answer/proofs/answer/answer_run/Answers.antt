use Rattle.std.proofs.Common.{refl, sym, ap, ◌∙◌}
use Rattle.by_need.specs.Asking.{over}
use Rattle.by_need.specs.Rounds.{known}
use Rattle.by_need_loader.proofs.Gained.{gains_nothing}
use Rattle.by_need_answer.proofs.Runs.{next_asked, gains_next, goes_on, asks_less, blamed}
use Rattle.by_need_answer.proofs.answer.answer_run.Goals as goal

pub questions-init : goal.questions-init
questions-init g c =
    let r = g.Y.Theory.rules c.args.theory.now in
    let run = (g.Y.Program.runs c.args.theory.now).rest c.args.running in
    record {
      same = refl;
      asked = λ u h. h;
      part = c.requires.part;
      gains = gains_nothing r (over (known r) run).asked (g.B.Table.at c.args.table.now);
    }

pub returns-in_err-value-clause-part : goal.returns-in_err-value-clause-part
returns-in_err-value-clause-part g c = c.questions.invariant.part

pub returns-in_err-value-clause-gains : goal.returns-in_err-value-clause-gains
returns-in_err-value-clause-gains g c = c.questions.invariant.gains

pub returns-in-Done-clause-answers : goal.returns-in-Done-clause-answers
returns-in-Done-clause-answers g c =
    let known = known (g.Y.Theory.rules c.args.theory.now) in
    c.questions.invariant.same ∙ ap (λ left. (over known left).answer) (rw c.in-Done.is at c.in_ok-value.ensures)

pub returns-in-Done-clause-part : goal.returns-in-Done-clause-part
returns-in-Done-clause-part g c = c.questions.invariant.part

pub returns-in-Done-clause-gains : goal.returns-in-Done-clause-gains
returns-in-Done-clause-gains g c = c.questions.invariant.gains

pub returns-in-Raised-clause-answers : goal.returns-in-Raised-clause-answers
returns-in-Raised-clause-answers g c =
    let known = known (g.Y.Theory.rules c.args.theory.now) in
    c.questions.invariant.same ∙ ap (λ left. (over known left).answer) (rw c.in-Raised.is at c.in_ok-value.ensures)

pub returns-in-Raised-clause-part : goal.returns-in-Raised-clause-part
returns-in-Raised-clause-part g c = c.questions.invariant.part

pub returns-in-Raised-clause-gains : goal.returns-in-Raised-clause-gains
returns-in-Raised-clause-gains g c = c.questions.invariant.gains

pub returns-in-Otherwise-clause-answers : goal.returns-in-Otherwise-clause-answers
returns-in-Otherwise-clause-answers g c =
    let known = known (g.Y.Theory.rules c.args.theory.now) in
    c.questions.invariant.same ∙ ap (λ left. (over known left).answer) (rw c.in-Otherwise.is at c.in_ok-value.ensures)

pub returns-in-Otherwise-clause-part : goal.returns-in-Otherwise-clause-part
returns-in-Otherwise-clause-part g c = c.questions.invariant.part

pub returns-in-Otherwise-clause-gains : goal.returns-in-Otherwise-clause-gains
returns-in-Otherwise-clause-gains g c = c.questions.invariant.gains

pub returns-in_err-wanted-in-Asks-clause-part : goal.returns-in_err-wanted-in-Asks-clause-part
returns-in_err-wanted-in-Asks-clause-part g c = c.questions.invariant.part

pub returns-in_err-wanted-in-Asks-clause-gains : goal.returns-in_err-wanted-in-Asks-clause-gains
returns-in_err-wanted-in-Asks-clause-gains g c = c.questions.invariant.gains

pub provide-requires-clause-task : goal.provide-requires-clause-task
provide-requires-clause-task g c =
    let asks = rw c.in-Asks.is at c.in_ok-value.ensures in
    rw c.in_ok-wanted-in-Asks.ensures (c.requires.tasks c.in-Asks.asked (next_asked
    (g.Y.Theory.rules c.args.theory.now) (g.Y.Theory.laws c.args.theory.now) _ _ _ _ c.in-Asks.asked _
    c.questions.invariant asks))

pub provide-requires-clause-part : goal.provide-requires-clause-part
provide-requires-clause-part g c = c.questions.invariant.part

pub returns-in-Some-clause-answers : goal.returns-in-Some-clause-answers
returns-in-Some-clause-answers g c =
    let asks = rw c.in-Asks.is at c.in_ok-value.ensures in
    let why = rw (c.in-Some.is, c.in_ok-wanted-in-Asks.ensures) at c.in_ok-failure-in-Asks.ensures.blamed in
    blamed (g.Y.Theory.rules c.args.theory.now) (g.Y.Theory.laws c.args.theory.now) _ _ _ _ c.in-Asks.asked _
    c.in-Some.failure c.questions.invariant asks why.0 why.1

pub questions-smaller : goal.questions-smaller
questions-smaller g c =
    let asks = rw c.in-Asks.is at c.in_ok-value.ensures in
    let value = c.in-Some-defined.value.now in
    let has = c.in_ok-failure-in-Asks.ensures.part.keeps c.in-Asks.asked value (sym c.in-Some-defined.ensures) in
    rw (c.in_ok-going-in-Some-defined.ensures c.args.theory.now) (asks_less (g.Y.Theory.rules c.args.theory.now)
    (g.Y.Theory.laws c.args.theory.now) _ c.in-Asks.asked _ value asks has)

pub questions-preserved : goal.questions-preserved
questions-preserved g c =
    let asks = rw c.in-Asks.is at c.in_ok-value.ensures in
    let value = c.in-Some-defined.value.now in
    let part = c.in_ok-failure-in-Asks.ensures.part in
    let has = part.keeps c.in-Asks.asked value (sym c.in-Some-defined.ensures) in
    let gained = rw c.in_ok-wanted-in-Asks.ensures at c.in_ok-failure-in-Asks.ensures.gains in
    rw (c.in_ok-going-in-Some-defined.ensures c.args.theory.now) (goes_on (g.Y.Theory.rules c.args.theory.now)
    (g.Y.Theory.laws c.args.theory.now) _ _ _ _ _ c.in-Asks.asked _ value c.questions.invariant asks has part
    gained)

pub returns-in_err-failure-in-Asks-clause-gains : goal.returns-in_err-failure-in-Asks-clause-gains
returns-in_err-failure-in-Asks-clause-gains g c =
    let asks = rw c.in-Asks.is at c.in_ok-value.ensures in
    let gained = rw c.in_ok-wanted-in-Asks.ensures at c.in_err-failure-in-Asks.ensures.gains in
    gains_next (g.Y.Theory.rules c.args.theory.now) (g.Y.Theory.laws c.args.theory.now) _ _ _ _ _ c.in-Asks.asked _
    c.questions.invariant asks gained

pub returns-in-Some-clause-gains : goal.returns-in-Some-clause-gains
returns-in-Some-clause-gains g c =
    let asks = rw c.in-Asks.is at c.in_ok-value.ensures in
    let gained = rw c.in_ok-wanted-in-Asks.ensures at c.in_ok-failure-in-Asks.ensures.gains in
    gains_next (g.Y.Theory.rules c.args.theory.now) (g.Y.Theory.laws c.args.theory.now) _ _ _ _ _ c.in-Asks.asked _
    c.questions.invariant asks gained

pub returns-in_err-going-in-Some-defined-clause-gains : goal.returns-in_err-going-in-Some-defined-clause-gains
returns-in_err-going-in-Some-defined-clause-gains g c =
    let asks = rw c.in-Asks.is at c.in_ok-value.ensures in
    let gained = rw c.in_ok-wanted-in-Asks.ensures at c.in_ok-failure-in-Asks.ensures.gains in
    gains_next (g.Y.Theory.rules c.args.theory.now) (g.Y.Theory.laws c.args.theory.now) _ _ _ _ _ c.in-Asks.asked _
    c.questions.invariant asks gained
