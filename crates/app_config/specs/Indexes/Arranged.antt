-- How the patterns of a list are arranged for looking up.
use Rattle.std.specs.Prelude.{◌≡◌, ◌↔◌, ℕ, ◌==◌, Bool, not, List, map, All, Any, Contains}
use Rattle.std.specs.List.{list_any, filter, count_by}
use Rattle.std.specs.List.Sorted.{IsPermutation, IsSorted, IsNonDecreasingBy}
use Rattle.std.specs.Ordering.{nat_cmp}
use Rattle.std.specs.Cmp.Lexicographic.{slice_cmp}
use Rattle.app_config.specs.Patterns.{Names}
use Rattle.app_config.specs.declared.starred.Starred.{Starred}
use denote.Ref.{Bor}

-- a pattern with a star (42)
abbrev pub has_star : List ℕ → Bool
has_star pattern = list_any (λ byte. byte == 42) pattern

-- how many slashes (47) a path or a pattern has: one less than segments
abbrev pub slashes : List ℕ → ℕ
slashes path = count_by (λ byte. byte == 47) path

-- the texts that references point to
abbrev pub texts : List (Bor (List ℕ)) → List (List ℕ)
texts references = map (λ one. one.now) references

-- texts by their bytes
abbrev pub AreInOrder : List (Bor (List ℕ)) → Type 0
AreInOrder references = IsSorted (λ one other. slice_cmp nat_cmp one.now other.now) references

-- the patterns without a star, by their bytes
pub record ArePlain (patterns : List (List ℕ)) (plain : List (Bor (List ℕ))) : Type 0 where
  pub same : IsPermutation (filter (λ pattern. not (has_star pattern)) patterns) (texts plain)
  pub sorted : AreInOrder plain

-- each with the number of its slashes, and by these numbers
pub record AreByCount (starred : List Starred) : Type 0 where
  pub counted : All (λ one. one.slashes ≡ slashes one.pattern.now) starred
  pub sorted : IsNonDecreasingBy (λ one. one.slashes) starred

-- of some patterns those with this number of slashes
abbrev pub IsGroup : ℕ → List Starred → List Starred → Type 0
IsGroup wanted starred group = (one : Starred) → Contains group one ↔ (Contains starred one × (one.slashes ≡ wanted))

-- some of the patterns names the path
abbrev pub SomeNames : List Starred → List ℕ → Type 0
SomeNames starred path = Any (λ one. Names one.pattern.now path) starred

-- the patterns with a star, by the numbers of their slashes
pub record AreStarred (patterns : List (List ℕ)) (starred : List Starred) : Type 0 where
  pub same : IsPermutation (filter has_star patterns) (map (λ one. one.pattern.now) starred)
  pub by_count : AreByCount starred

-- the patterns, those without a star apart from the others
pub record IsArranged (patterns : List (List ℕ)) (plain : List (Bor (List ℕ))) (starred : List Starred) : Type 0 where
  pub apart : ArePlain patterns plain
  pub others : AreStarred patterns starred
