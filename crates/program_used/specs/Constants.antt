-- Which files of an application are used: each is the file of a constant that has a name.
use Rattle.std.specs.Prelude.{◌≡◌, ◌≢◌, ℕ, List, [], ◌∷◌, set, Option, Some, None, length, slice_get}
use Rattle.program_places.specs.Paths.{Path}
use Rattle.tree_scan_sites.specs.declared.spelled.Site.{Site}
use Rattle.tree_scan_sites.specs.declared.spelled.Site.TheVariants.{File, Explicit, Namespace}
use Rattle.tree_scan_sites.specs.declared.spelled.SiteRow.{SiteRow}
use Rattle.tree_scan_sites.specs.declared.spelled.Spelled.{Spelled}
use Rattle.tree_scan_sites.specs.Listed.{Lists}
use Rattle.tree_scan_sites.specs.Sites.{IsFileOf}

-- The file of this number is the file of this constant, or of none. A file that is shadowed, or spells nothing, is of
-- none.
abbrev pub IsConstantOf : List Spelled → (number : ℕ) → Option Path → Type 0
IsConstantOf spelled number None = (c : Path) → c ≢ [] → IsFileOf (Lists spelled) c number → ⊥
IsConstantOf spelled number (Some c) = (c ≢ []) × IsFileOf (Lists spelled) c number

-- the constants of so many files, in the order of the files
pub record AreConstants (spelled : List Spelled) (files : ℕ) (constants : List (Option Path)) : Type 0 where
  pub size : length constants ≡ files
  pub each : (number : ℕ) (constant : Option Path) → slice_get constants number ≡ Some constant →
      IsConstantOf spelled number constant

-- the file of a site
abbrev pub file_in : Site → Option ℕ
file_in (File number) = Some number
file_in (Explicit number) = Some number
file_in Namespace = None

-- the constant is put at the file's number, if there is a file
abbrev pub put_at : List (Option Path) → Option ℕ → Path → List (Option Path)
put_at constants None path = constants
put_at constants (Some number) path = set constants number (Some path)

-- the constants of all rows are put at the numbers of their files
abbrev pub put_rows : List (Option Path) → List SiteRow → List (Option Path)
put_rows constants [] = constants
put_rows constants (row ∷ rows) = put_rows (put_at constants (file_in row.site) row.path) rows
