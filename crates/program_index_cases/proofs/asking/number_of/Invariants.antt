use Rattle.std.proofs.Common.{◌≡◌, ℕ, ◌-◌, ◌≤◌, length}
use Rattle.program_index_cases.proofs.asking.number_of.Given as goal

-- the place is none past the last
abbrev pub invariant-loop-number : goal.invariant-loop-number
invariant-loop-number l = l.number ≤ length l.files

abbrev pub decreases-loop-number : goal.decreases-loop-number
decreases-loop-number l = length l.files - l.number
