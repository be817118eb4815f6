-- Which files the program reads and watches.
use Rattle.std.specs.Prelude.{◌≡◌, ◌⊎◌, ℕ, List, ◌++◌, codes, All}
use Rattle.outside.specs.Order.{Rising}

-- the path goes on behind this beginning
abbrev pub BeginsWith : List ℕ → List ℕ → Type 0
BeginsWith first path = (rest : List ℕ) × (path ≡ first ++ rest)

-- some beginning stands before this end of the path
abbrev pub EndsWith : List ℕ → List ℕ → Type 0
EndsWith last path = (front : List ℕ) × (path ≡ front ++ last)

-- The configuration is watched, and below `app/` and `lib/` each file whose path ends in `.rb`.
abbrev pub IsWatched : List ℕ → Type 0
IsWatched path = (path ≡ codes "config/loader.conf")
    ⊎ ((BeginsWith (codes "app/") path ⊎ BeginsWith (codes "lib/") path) × EndsWith (codes ".rb") path)

-- paths of watched files, in order, each one once
pub record ListsWatched (paths : List (List ℕ)) : Type 0 where
  pub watched : All IsWatched paths
  pub rising : Rising paths
