-- A table that grows while tasks are loaded.
use Rattle.std.specs.Prelude.{◌≡◌, Option, Some, false, ◌⊎◌}
use Rattle.by_need.specs.Rounds.{Rules, Part, Needs}

-- L is K with the value of one task more.
pub record Defines {T V E O : Type 0} (r : Rules T V E O) (K : T → Option V) (t : T) (v : V)
    (L : T → Option V) : Type 0 where
  pub new : L t ≡ Some v
  pub old : (u : T) → r.same u t ≡ false → L u ≡ K u

-- L is K with values of tasks that t needs.
pub record Gains {T V E O : Type 0} (r : Rules T V E O) (t : T) (K L : T → Option V) : Type 0 where
  pub keeps : Part K L
  pub needed : (u : T) (v : V) → L u ≡ Some v → (K u ≡ Some v) ⊎ Needs r t u
