use Rattle.std.proofs.Common.{ap, sym, ◌∙◌}
use Rattle.program_theory.specs.Replies.{blame_error}
use Rattle.load_core.proofs.whole.load_task.Goals as goal

pub returns-in_ok-blame_error-in-Failed-clause-ends : goal.returns-in_ok-blame_error-in-Failed-clause-ends
returns-in_ok-blame_error-in-Failed-clause-ends g c =
    let ends = rw c.in-Failed.is at c.in_ok-load.ensures.ends in
    let of_task = rw c.in_ok-wanted.ensures at ends in
    (of_task.0, c.in_ok-blame_error-in-Failed.ensures ∙ ap blame_error (sym of_task.1))
