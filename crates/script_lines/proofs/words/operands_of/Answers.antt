use Rattle.script_lines.proofs.Splitting.{three_words}
use Rattle.script_lines.proofs.words.operands_of.Goals as goal

pub returns-in-Some-more : goal.returns-in-Some-more
returns-in-Some-more c =
    let one = rw c.in-Some-behind.is at c.cut_at.ensures.parts in
    let two = rw c.in-Some-more.is at c.cut_at-2.ensures.parts in
    rw c.in-Some.is
    (three_words c.in-Some.text.now _ _ c.in-Some-behind.behind.now c.in-Some-more.field-0.now one
    two)
