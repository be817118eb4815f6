-- Which paths a pattern names.
use Rattle.std.specs.Prelude.{ℕ, List, [], ◌∷◌, ◌++◌}
use Rattle.std.specs.List.{AllZip, Any}
use Rattle.app_config.specs.Paths.{segments}

-- A segment fits one of a pattern: each byte stands for itself, and `*` (42) for any bytes, none among them.
pub data Fits : List ℕ → List ℕ → Type 0 where
  ends : Fits [] []
  byte : (first : ℕ) {pattern segment : List ℕ} → Fits pattern segment → Fits (first ∷ pattern) (first ∷ segment)
  star : (any : List ℕ) {pattern segment : List ℕ} → Fits pattern segment → Fits (42 ∷ pattern) (any ++ segment)

-- A pattern names the paths of as many segments, each of which fits the pattern's segment at its place.
abbrev pub Names : List ℕ → List ℕ → Type 0
Names pattern path = AllZip Fits (segments pattern) (segments path)

-- Some of the patterns names the path.
abbrev pub IsNamed : List (List ℕ) → List ℕ → Type 0
IsNamed patterns path = Any (λ pattern. Names pattern path) patterns
