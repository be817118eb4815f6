-- Counts of faults over several calls.
use Rattle.std.specs.Prelude.{ℕ, ◌≤◌, Bool, true, false}
use Rattle.std.proofs.Common.{arith}
use Rattle.outside.specs.Faults.{Rose, Counts}

-- a count that rose in a call rose since any time before the call
pub rose_since : (first before now : ℕ) → first ≤ before → Rose before now → Rose first now
rose_since first before now early rose = record {
  later = omega (arith, early, rose.later);
  counted = omega (arith, early, rose.counted);
}

-- a count is no less after a call
pub counts_later : (first before now : ℕ) (failed : Bool) → first ≤ before → Counts failed before now → first ≤ now
counts_later first before now true early counts = omega (arith, early, counts.later)
counts_later first before now false early counts = omega (arith, early, counts)
