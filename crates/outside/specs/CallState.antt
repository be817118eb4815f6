-- The calls of an object in memory.
use Rattle.std.specs.Prelude.{ℕ, ◌-◌, ◌^◌, List}

-- the numbers of the calls that are to fail, counted from 1; how many calls were made; how many of them failed
pub record CallState : Type 0 where
  pub fails : List ℕ
  pub made : ℕ
  pub faults : ℕ

-- the greatest number of 64 bits, at which counts stand still
abbrev pub most : ℕ
most = 2 ^ 64 - 1

-- no call was made yet
abbrev pub uncalled : (fails : List ℕ) → CallState
uncalled fails = record { fails = fails; made = 0; faults = 0 }
