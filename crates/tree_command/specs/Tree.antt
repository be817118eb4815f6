-- What the command `tree` says of an application's files.
use Rattle.std.specs.Prelude.{ℕ, List, map, All, AllPairs, Contains, ⊤}
use Rattle.outside.specs.declared.files.FileEntry.{FileEntry}
use Rattle.app_config.specs.declared.config.Config.{Config}
use Rattle.tree_scan_sites.specs.declared.spelled.Site.{Site}
use Rattle.tree_scan_sites.specs.declared.spelled.Site.TheVariants as site
use Rattle.tree_scan_sites.specs.declared.spelled.SiteRow.{SiteRow}
use Rattle.tree_scan_sites.specs.Listed.{Lists}
use Rattle.tree_scan_sites.specs.Paths.{IsBeforePath}
use Rattle.tree_scan_sites.specs.Rows.{paths_of_rows}
use Rattle.tree_scan_sites.specs.Sites.{IsSite}
use Rattle.tree_scan.specs.Scanned.{Scanned}
use Rattle.tree_scan.specs.Sites.{AreSites, IsFault, path_at}
use Rattle.tree_scan.specs.declared.fault.ScanFault.TheVariants as scan
use Rattle.tree_report.specs.Limits.{IsWithinLimits, IsExceeded}
use Rattle.tree_report.specs.Configurations.{IsConfiguration, IsConfigurationFault}
use Rattle.tree_report.specs.Listing.{site_of, IsListing}
use Rattle.tree_report.specs.declared.listing.ListedSite.{ListedSite}
use Rattle.tree_report.specs.declared.listing.Place.{Place}
use Rattle.tree_report.specs.declared.listing.Place.TheVariants.{File, Explicit, Namespace}
use Rattle.tree_report.specs.declared.refusal.Refusal.{Refusal}
use Rattle.tree_report.specs.declared.refusal.Refusal.TheVariants.{Limit, Configuration, BadName, TwoRoots}
use Rattle.tree_command.specs.declared.fault.ListingFault.{ListingFault}
use Rattle.tree_command.specs.declared.fault.ListingFault.TheVariants.{Refused, Memory}

-- a site, with its file's path in place of the file's number
abbrev pub place_of : List FileEntry → Site → Place
place_of files (site.File number) = File (path_at files number)
place_of files (site.Explicit number) = Explicit (path_at files number)
place_of files site.Namespace = Namespace

-- a constant and its site, as they are listed
abbrev pub listed : List FileEntry → SiteRow → ListedSite
listed files row = site_of row.path (place_of files row.site)

-- The rows are those of the constants that have a site by these spellings, each constant once.
pub record AreRows (scanned : Scanned) (rows : List SiteRow) : Type 0 where
  pub sites : All (λ row. IsSite (Lists scanned.spelled) row.path row.site) rows
  pub complete : (path : List (List ℕ)) (found : Site) → IsSite (Lists scanned.spelled) path found →
      Contains (paths_of_rows rows) path
  pub once : AllPairs (λ row later. IsBeforePath row.path later.path) rows

-- a line for each constant with a site, and one for each shadowed file
pub record IsSiteListing (files : List FileEntry) (scanned : Scanned) (bytes : List ℕ) : Type 0 where
  pub rows : List SiteRow
  pub are_rows : AreRows scanned rows
  pub listing : IsListing (map (listed files) rows) scanned.shadowed bytes

-- The listing of an application that is within the limits and whose configuration has no fault: that of its sites.
pub record IsTreeListing (files : List FileEntry) (bytes : List ℕ) : Type 0 where
  pub within : IsWithinLimits files
  pub config : Config
  pub configured : IsConfiguration files config
  pub scanned : Scanned
  pub are_sites : AreSites files config scanned
  pub listing : IsSiteListing files scanned bytes

-- within the limits, and the scan by the configuration has this fault
abbrev pub HasScanFault : List FileEntry → (Config → Type 0) → Type 0
HasScanFault files Has = IsWithinLimits files × ((config : Config) × IsConfiguration files config × Has config)

-- Why an application is refused: a limit, else its configuration, else the names of its files and roots.
abbrev pub IsRefused : List FileEntry → Refusal → Type 0
IsRefused files (Limit exceeded) = IsExceeded files exceeded.limit exceeded.number
IsRefused files (Configuration fault) = IsWithinLimits files × IsConfigurationFault files fault
IsRefused files (BadName path) = HasScanFault files (λ config. IsFault files config (scan.BadName path))
IsRefused files (TwoRoots path) = HasScanFault files (λ config. IsFault files config (scan.TwoRoots path))

-- the application is refused for this, or memory ran out
abbrev pub IsTreeFault : List FileEntry → ListingFault → Type 0
IsTreeFault files (Refused refusal) = IsRefused files refusal
IsTreeFault files Memory = ⊤
