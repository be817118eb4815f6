-- What tables tell of what stands at constant paths.
use Rattle.std.specs.Prelude.{ℕ, Bool, true, false, List, Option, Some, None, slice_get}
use Rattle.program_places.specs.Paths.{Path}
use Rattle.program_constants.specs.Constants.{has_site_among}
use Rattle.program_owners.specs.declared.owned.Owned.{Owned as OwnedRow}
use Rattle.program_owners.specs.Owned.{owner_in}
use Rattle.program_standing.specs.declared.standing.Standing.{Standing}
use Rattle.program_standing.specs.declared.standing.Standing.TheVariants.{Missing, Implicit, Owned}

-- The constants that files own, those that the files spell, and which files are at fault, by their numbers.
pub record Tables : Type 0 where
  pub owned : List OwnedRow
  pub spelled : List Path
  pub at_fault : List Bool

-- a namespace where the path has a site, and else nothing
abbrev pub unowned : (has_site : Bool) → Standing
unowned true = Implicit
unowned false = Missing

-- what stands at a path with this owner, or with none
abbrev pub standing_by : Option ℕ → (has_site : Bool) → Standing
standing_by (Some file) has_site = Owned file
standing_by None has_site = unowned has_site

-- what stands at a path: what its owner says, or a namespace that no file owns
abbrev pub standing_of : Tables → Path → Standing
standing_of t path = standing_by (owner_in path t.owned) (has_site_among t.spelled path)

-- the mark, if there is one
abbrev pub is_marked : Option Bool → Bool
is_marked None = false
is_marked (Some mark) = mark

-- the file of this number is at fault
abbrev pub is_faulty : Tables → ℕ → Bool
is_faulty t file = is_marked (slice_get t.at_fault file)
