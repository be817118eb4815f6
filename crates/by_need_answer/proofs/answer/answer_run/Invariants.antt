use Rattle.std.proofs.Common.{length}
use Rattle.by_need.specs.Asking.{over}
use Rattle.by_need.specs.Rounds.{known}
use Rattle.by_need_answer.specs.Answers.{GoesOn}
use Rattle.by_need_answer.proofs.answer.answer_run.Given as goal

abbrev pub invariant-questions : goal.invariant-questions
invariant-questions g l = GoesOn (g.Y.Theory.rules l.theory)
    ((g.Y.Program.runs l.theory).rest l.fn.running) ((g.Y.Program.runs l.theory).rest l.going)
    (g.B.Table.at l.initial.table) (g.B.Table.at l.table)

abbrev pub decreases-questions : goal.decreases-questions
decreases-questions g l = length (over (known (g.Y.Theory.rules l.theory))
    ((g.Y.Program.runs l.theory).rest l.going)).asked
