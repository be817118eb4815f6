-- Constants in a list: which stands first, which paths stand above one.
use Rattle.std.specs.Prelude.{ℕ, suc, Bool, true, false, cond, List, [], ◌∷◌, Option, Some, None}
use Rattle.std.specs.List.{list_any}
use Rattle.std.specs.Option.{option_map}
use Rattle.program_places.specs.Paths.{Path, same_path, begins}
use Rattle.program_files.specs.Files.{is_above}
use Rattle.tree_scan_sites.specs.declared.spelled.Spelled.{Spelled}
use Rattle.tree_scan_sites.specs.declared.spelled.Site.{Site}
use Rattle.tree_scan_sites.specs.declared.spelled.Site.TheVariants.{File, Explicit, Namespace}

-- the place in the list of the first constant with this path
abbrev pub first_place : Path → List Path → Option ℕ
first_place path [] = None
first_place path (c ∷ cs) = cond (same_path c path) (Some 0) (option_map suc (first_place path cs))

-- the path is one of the constants or stands above one; Object's path is told of no constant
abbrev pub has_site_among : List Path → Path → Bool
has_site_among cs [] = false
has_site_among cs (name ∷ names) = list_any (begins (name ∷ names)) cs

-- the path stands strictly above one of the constants
abbrev pub is_namespace_among : List Path → Path → Bool
is_namespace_among cs path = list_any (is_above path) cs

-- the constant as a file of this number would spell it
abbrev pub numbered : ℕ → Path → Spelled
numbered number c = record { constant = c; root = 0; file = number }

-- each constant with its place, which is counted from this number on
abbrev pub numbered_from : ℕ → List Path → List Spelled
numbered_from number [] = []
numbered_from number (c ∷ cs) = numbered number c ∷ numbered_from (suc number) cs

-- a constant with this site has something inside it
abbrev pub has_inside : Option Site → Bool
has_inside None = false
has_inside (Some (File file)) = false
has_inside (Some (Explicit file)) = true
has_inside (Some Namespace) = true
