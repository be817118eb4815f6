-- What the first places of owned constants tell of their owners.
use Rattle.std.proofs.Common.{◌≡◌, ◌∙◌, ℕ, suc, ◌<◌, Bool, true, false, cond, List, [], ◌∷◌, Option, Some, None}
use Rattle.std.proofs.Common.{slice_get, length, refl, sym, ap}
use Rattle.std.specs.Option.{option_map}
use Rattle.std.proofs.lemmas.Option.{none-some, same_Some, slice_get-map, slice_get_within}
use Rattle.program_places.specs.Paths.{Path, same_path}
use Rattle.program_constants.specs.Constants.{first_place}
use Rattle.program_constants.proofs.ListLaws.{first_there}
use Rattle.program_owners.specs.declared.owned.Owned.{Owned}
use Rattle.program_owners.specs.Owned.{owned_paths, owner_in}

-- the file of the row at a place
abbrev file_of : Option Owned → Option ℕ
file_of None = None
file_of (Some o) = Some o.file

-- the row at a place, if there is one
abbrev row_at : Option ℕ → List Owned → Option Owned
row_at None owned = None
row_at (Some k) owned = slice_get owned k

owner_at : (o : Owned) (owned : List Owned) (b : Bool) (first : Option ℕ) (owner : Option ℕ) →
    owner ≡ file_of (row_at first owned) →
    cond b (Some o.file) owner ≡ file_of (row_at (cond b (Some 0) (option_map suc first)) (o ∷ owned))
owner_at o owned true first owner ih = refl
owner_at o owned false None owner ih = ih
owner_at o owned false (Some k) owner ih = ih

-- the owner is the file of the row at the first place
owner_first : (path : Path) (owned : List Owned) →
    owner_in path owned ≡ file_of (row_at (first_place path (owned_paths owned)) owned)
owner_first path [] = refl
owner_first path (o ∷ owned) = owner_at o owned (same_path o.path path) (first_place path (owned_paths owned))
    (owner_in path owned) (owner_first path owned)

-- a constant without a first place has no owner
pub no_owner : (path : Path) (owned : List Owned) → first_place path (owned_paths owned) ≡ None →
    None ≡ owner_in path owned
no_owner path owned e = sym (owner_first path owned ∙ ap (λ o. file_of (row_at o owned)) e)

-- the row at a first place
pub record RowAt (path : Path) (owned : List Owned) (k : ℕ) : Type 0 where
  pub row : Owned
  pub at : slice_get owned k ≡ Some row
  pub same : row.path ≡ path
  pub owner : Some row.file ≡ owner_in path owned

row_there : (path : Path) (owned : List Owned) (k : ℕ) (o : Option Owned) → slice_get owned k ≡ o →
    option_map (λ (r : Owned). r.path) o ≡ Some path → owner_in path owned ≡ file_of (slice_get owned k) →
    RowAt path owned k
row_there path owned k None at there is = absurd (none-some path there)
row_there path owned k (Some r) at there is =
    record { row = r; at = at; same = same_Some r.path path there; owner = sym (is ∙ ap file_of at) }

-- a constant with a first place has the owner that stands there
pub row_first : (path : Path) (owned : List Owned) (k : ℕ) → first_place path (owned_paths owned) ≡ Some k →
    RowAt path owned k
row_first path owned k e =
    row_there path owned k (slice_get owned k) refl
    (sym (slice_get-map (λ (r : Owned). r.path) owned k) ∙ (first_there path (owned_paths owned) k e).here)
    (owner_first path owned ∙ ap (λ o. file_of (row_at o owned)) e)

-- a first place is a place
pub first_within : (path : Path) (owned : List Owned) (k : ℕ) → first_place path (owned_paths owned) ≡ Some k →
    k < length owned
first_within path owned k e = let r = row_first path owned k e in slice_get_within owned k r.row r.at
