-- Paths by number: 0 is the top's, and each name in a numbered path makes one more.
use Rattle.std.specs.Prelude.{◌≡◌, ℕ, suc, ◌≤◌, Bool, false, ◌&&◌, ◌==◌, ◌⊎◌, List, [], ◌∷◌, ◌++◌, length}
use Rattle.std.specs.Prelude.{if◌then◌else◌, bytes_eq}
use Rattle.std.specs.Prelude.{Some, None}
use Rattle.std.specs.List.{list_any}
use Rattle.std.specs.Map.{lookup}
use Rattle.ruby_parse_marks.specs.declared.paths.Inner.{Inner}

-- a list the other way round: what was added last comes first
abbrev pub latest_first : {A : Type 0} → List A → List A
latest_first [] = []
latest_first (x ∷ xs) = latest_first xs ++ x ∷ []

-- the same name in the same path
abbrev pub same_inner : Inner → Inner → Bool
same_inner a b = (a.outer == b.outer) && bytes_eq a.name.items b.name.items

-- the entry is that of this name in this path
abbrev pub is_inner : Inner → Inner × ℕ → Bool
is_inner k e = same_inner k e.0

-- the path of a number, where these were numbered, the latest first
abbrev pub path_at : List (Inner × ℕ) → ℕ → List (List ℕ)
path_at [] n = []
path_at (e ∷ older) n = if n == e.1 then path_at older e.0.outer ++ e.0.name.items ∷ [] else path_at older n

-- each has the next number, is new, and stands in a path that was numbered before
abbrev pub AreNumbered : List (Inner × ℕ) → Type 0
AreNumbered [] = Unit {0}
AreNumbered (e ∷ older) = (e.1 ≡ suc (length older)) × (e.0.outer ≤ length older)
    × (list_any (is_inner e.0) older ≡ false) × AreNumbered older

-- The number of this name in the path of that number: it has one, or gets the next one.
abbrev pub Numbers : List (Inner × ℕ) → ℕ → List ℕ → ℕ → List (Inner × ℕ) → Type 0
Numbers es outer name n fs = (k : Inner) × (k.outer ≡ outer) × (k.name.items ≡ name)
    × (((lookup (same_inner k) es ≡ Some n) × (fs ≡ es))
    ⊎ ((lookup (same_inner k) es ≡ None) × (n ≡ suc (length es)) × (fs ≡ es ++ (k, n) ∷ [])))

-- More names have numbers, and each number that there was keeps its path.
pub record Grown (es fs : List (Inner × ℕ)) : Type 0 where
  pub numbered : AreNumbered (latest_first fs)
  pub grows : length es ≤ length fs
  pub stays : (m : ℕ) → m ≤ length es → path_at (latest_first fs) m ≡ path_at (latest_first es) m

-- It is the number of these names in the path of that number.
pub record IsNumber (es : List (Inner × ℕ)) (outer : ℕ) (names : List (List ℕ)) (n : ℕ) (fs : List (Inner × ℕ)) :
    Type 0 where
  pub grown : Grown es fs
  pub within : n ≤ length fs
  pub path : path_at (latest_first fs) n ≡ path_at (latest_first es) outer ++ names

-- the same, where all was numbered before
abbrev pub Reaches : List (Inner × ℕ) → ℕ → List (List ℕ) → ℕ → List (Inner × ℕ) → Type 0
Reaches es outer names n fs = AreNumbered (latest_first es) → outer ≤ length es → IsNumber es outer names n fs

-- the numbers that there were keep their paths, where all was numbered before: so even where memory ran out
abbrev pub Keeps : List (Inner × ℕ) → ℕ → List (Inner × ℕ) → Type 0
Keeps es outer fs = AreNumbered (latest_first es) → outer ≤ length es → Grown es fs

-- With these names left, it is the number of the others in the path of that number.
pub record Goes (es : List (Inner × ℕ)) (outer : ℕ) (names : List (List ℕ)) (fs : List (Inner × ℕ)) (n : ℕ)
    (left : List (List ℕ)) : Type 0 where
  pub grown : Grown es fs
  pub within : n ≤ length fs
  pub path : path_at (latest_first fs) n ++ left ≡ path_at (latest_first es) outer ++ names

-- the same as `Goes`, where all was numbered before
abbrev pub Advanced : List (Inner × ℕ) → ℕ → List (List ℕ) → List (Inner × ℕ) → ℕ → List (List ℕ) → Type 0
Advanced es outer names fs n left = AreNumbered (latest_first es) → outer ≤ length es → Goes es outer names fs n left
