-- Where a constant is first defined.
use Rattle.std.specs.Prelude.{◌≡◌, ℕ, Bool, false, List, Option, Some, None, slice_get}
use Rattle.program_files.specs.Entries.{Entry}
use Rattle.program_files.specs.Faults.{is_definition, kind_of}
use Rattle.program_code.specs.Groups.{first_kind}
use Rattle.program_code.specs.Seen.{placed}

-- the entry defines its constant, if there is one
abbrev pub is_defining : Option Entry → Bool
is_defining None = false
is_defining (Some e) = is_definition e

-- there is an entry at the place that defines its constant
abbrev pub defines_at : List Entry → (place : ℕ) → Bool
defines_at es place = is_defining (slice_get es place)

-- the entry at this place is the first of these that defines a constant
pub record IsFirstAt (es : List Entry) (places : List ℕ) (place : ℕ) : Type 0 where
  pub entry : Entry
  pub at : slice_get es place ≡ Some entry
  pub first : first_kind (placed es places) ≡ kind_of entry
