-- What a table gains by loads of several tasks.
use Rattle.std.specs.Prelude.{◌≡◌, List, Option, Some, true, ◌⊎◌}
use Rattle.by_need.specs.Rounds.{Rules, Part, Needs, is_in}

-- One of the tasks needs u.
abbrev pub IsNeeded : {T V E O : Type 0} → Rules T V E O → List T → T → Type 0
IsNeeded {T} r ts u = (t : T) × (is_in r t ts ≡ true) × Needs r t u

-- L is K with values of tasks that one of these needs.
pub record GainsFor {T V E O : Type 0} (r : Rules T V E O) (ts : List T) (K L : T → Option V) : Type 0 where
  pub keeps : Part K L
  pub needed : (u : T) (v : V) → L u ≡ Some v → (K u ≡ Some v) ⊎ IsNeeded r ts u
