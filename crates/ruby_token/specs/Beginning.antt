-- Words that begin with a byte.
use Rattle.std.specs.Prelude.{ℕ, List, [], ◌∷◌, if◌then◌else◌, nat_eq}

-- those of these words that begin with this byte, in their order: `end` and `else` of `end`, `if`, `else` with `e`
abbrev pub beginning : ℕ → List (List ℕ) → List (List ℕ)
beginning b [] = []
beginning b ([] ∷ ws) = beginning b ws
beginning b ((c ∷ cs) ∷ ws) = if nat_eq c b then (c ∷ cs) ∷ beginning b ws else beginning b ws
