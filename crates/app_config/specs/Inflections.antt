-- The camelization that a configuration gives a base name.
use Rattle.std.specs.Prelude.{◌≡◌, ◌≢◌, ℕ, List, ◌∷◌, ◌++◌}
use Rattle.std.specs.List.{All}

-- no pair has this base
abbrev pub LacksBase : List (List ℕ × List ℕ) → List ℕ → Type 0
LacksBase pairs base = All (λ pair. pair.0 ≢ base) pairs

-- the constant of the last pair that has this base
pub record IsLastFor (pairs : List (List ℕ × List ℕ)) (base constant : List ℕ) : Type 0 where
  pub earlier : List (List ℕ × List ℕ)
  pub later : List (List ℕ × List ℕ)
  pub stands : pairs ≡ earlier ++ (base, constant) ∷ later
  pub last : LacksBase later base
