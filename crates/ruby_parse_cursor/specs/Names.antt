-- Names in the order in which they became variables, and as keys of the library's ordered sets.
use Rattle.std.specs.Prelude.{◌≡◌, ℕ, Bool, List, [], ◌∷◌, ◌++◌}
use Rattle.std.specs.Global.{Vec}
use Rattle.std.specs.BTreeSet as set
use Rattle.std.specs.declared.cmp.Ordering.{Ordering}
use Rattle.std.specs.Ordering.{nat_cmp}
use Rattle.std.specs.Cmp.Lexicographic.{slice_cmp}
use Rattle.ruby_grammar.specs.Terminals.{has}

-- what is held, the latest first
abbrev pub latest_first : {A : Type 0} → (A → List ℕ) → List A → List (List ℕ)
latest_first f [] = []
latest_first f (x ∷ xs) = latest_first f xs ++ f x ∷ []

-- the order of keys is that of their bytes
abbrev pub key_order : Vec ℕ → Vec ℕ → Ordering
key_order a b = slice_cmp nat_cmp a.items b.items

-- the set has this name
abbrev pub has_key : set.BTreeSet (Vec ℕ) → List ℕ → Bool
has_key keys name = set.contains_by (λ key. slice_cmp nat_cmp name key.items) keys

-- the set has these names
abbrev pub IsKnown : set.BTreeSet (Vec ℕ) → List (List ℕ) → Type 0
IsKnown keys names = (name : List ℕ) → has_key keys name ≡ has names name
