-- Constant paths as lists of names: their order, and how many names two of them share.
use Rattle.std.specs.Prelude.{◌≡◌, ℕ, suc, Bool, cond, List, [], ◌∷◌, nat_eq}
use Rattle.std.specs.Cmp.Lexicographic.{slice_cmp, pointwise}
use Rattle.std.specs.declared.cmp.Ordering.{Ordering}
use Rattle.std.specs.declared.cmp.Ordering.TheVariants.{Less}
use Rattle.outside.specs.Order.{order}

-- the order of a dictionary whose letters are names, which are ordered by their bytes
abbrev pub path_order : List (List ℕ) → List (List ℕ) → Ordering
path_order a b = slice_cmp order a b

-- the first path comes before the second: `A` before `A::B`, and that before `Ab`
abbrev pub IsBeforePath : List (List ℕ) → List (List ℕ) → Type 0
IsBeforePath a b = path_order a b ≡ Less

-- both names have the same bytes
abbrev pub name_eq : List ℕ → List ℕ → Bool
name_eq a b = pointwise nat_eq a b

-- how many names the two share from the front on
abbrev pub shared : List (List ℕ) → List (List ℕ) → ℕ
shared [] path = 0
shared (name ∷ names) [] = 0
shared (name ∷ names) (first ∷ path) = cond (name_eq name first) (suc (shared names path)) 0
