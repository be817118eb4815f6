use denote.Text.{Utf8}
use denote.Shadow.{shadow}
use Rattle.program_index_cases.proofs.files.tree_of.Given as goal

-- the lines go on, and the path that was begun is text
abbrev pub invariant-loop-line : goal.invariant-loop-line
invariant-loop-line l = (goal.iterator-loop-line).can_next l.line-iterator
    × (goal.iterator-loop-line).is_finite l.line-iterator × shadow (Utf8 l.path)
