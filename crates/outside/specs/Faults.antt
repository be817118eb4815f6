-- Counts of faults. A count never falls. It is a number of 64 bits, and one at its end stands still.
use Rattle.std.specs.Prelude.{◌≡◌, ℕ, ◌+◌, ◌-◌, ◌^◌, ◌≤◌, min, Bool, true, false}

-- A count rose by at least one, or it stands at its end.
pub record Rose (before now : ℕ) : Type 0 where
  pub later : before ≤ now
  pub counted : min (before + 1) (2 ^ 64 - 1) ≤ now

-- The count after a call: it rose where the call failed, and is as it was at every other answer.
abbrev pub Counts : (failed : Bool) → (before now : ℕ) → Type 0
Counts true before now = Rose before now
Counts false before now = now ≡ before
