-- How the constants of an application and its shadowed files are listed.
use Rattle.std.specs.Prelude.{◌≡◌, ℕ, List, [], ◌∷◌, ◌++◌, codes, AllPairs}
use Rattle.std.specs.List.{flat_map}
use Rattle.std.specs.List.Sorted.{IsPermutation}
use Rattle.outside.specs.Order.{IsBefore}
use Rattle.ruby_types.specs.Paths.{path_text}
use Rattle.tree_report.specs.declared.listing.ListedSite.{ListedSite}
use Rattle.tree_report.specs.declared.listing.Place.{Place}
use Rattle.tree_report.specs.declared.listing.Place.TheVariants.{File, Explicit, Namespace}

-- a constant's path, as it is printed, with the place of its definition
abbrev pub site_of : List (List ℕ) → Place → ListedSite
site_of constant place = record { constant = path_text constant; place = place }

-- what stands behind the constant in its line
abbrev pub place_text : Place → List ℕ
place_text (File path) = codes " file " ++ path
place_text (Explicit path) = codes " explicit " ++ path
place_text Namespace = codes " namespace"

-- `User file app/models/user.rb`, `Admin namespace`
abbrev pub site_line : ListedSite → List ℕ
site_line site = site.constant ++ place_text site.place ++ 10 ∷ []

-- `shadowed app/services/geo.rb`
abbrev pub shadowed_line : List ℕ → List ℕ
shadowed_line path = codes "shadowed " ++ path ++ 10 ∷ []

-- The same sites, in the order of their printed paths by bytes: none stands behind one that it comes before.
pub record IsInOrder (sites listed : List ListedSite) : Type 0 where
  pub same : IsPermutation sites listed
  pub ordered : AllPairs (λ site later. ¬ (IsBefore later.constant site.constant)) listed

-- a line for each site in order, then a line for each shadowed file
abbrev pub IsListing : (sites : List ListedSite) → (shadowed : List (List ℕ)) → List ℕ → Type 0
IsListing sites shadowed bytes = (listed : List ListedSite) × IsInOrder sites listed
    × (bytes ≡ flat_map site_line listed ++ flat_map shadowed_line shadowed)
