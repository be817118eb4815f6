-- Paths as the keys of the library's ordered sets and maps.
use Rattle.std.specs.Prelude.{◌≡◌, ◌↔◌, ℕ, List, map, Option, Some, IsTrue, slice_get}
use Rattle.std.specs.Global.{Vec}
use Rattle.std.specs.BTreeSet as set
use Rattle.std.specs.BTreeMap as tree
use Rattle.std.specs.declared.cmp.Ordering.{Ordering}
use Rattle.outside.specs.Order.{order}

-- the order of keys is that of their bytes
abbrev pub key_order : Vec ℕ → Vec ℕ → Ordering
key_order a b = order a.items b.items

-- the set has this path
abbrev pub Has : set.BTreeSet (Vec ℕ) → List ℕ → Type 0
Has paths path = IsTrue (set.contains_by (λ key. order path key.items) paths)

-- the number of this path
abbrev pub number_of : tree.BTreeMap (Vec ℕ) ℕ → List ℕ → Option ℕ
number_of numbers path = tree.get_by (λ key. order path key.items) numbers

-- each of the paths has its place as its number, and no other path has a number
abbrev pub IsNumbering : List (List ℕ) → tree.BTreeMap (Vec ℕ) ℕ → Type 0
IsNumbering paths numbers = (path : List ℕ) (number : ℕ) →
    (number_of numbers path ≡ Some number) ↔ (slice_get paths number ≡ Some path)

-- the paths of a set, in order
abbrev pub key_paths : set.BTreeSet (Vec ℕ) → List (List ℕ)
key_paths paths = map (λ key. key.items) paths.keys
