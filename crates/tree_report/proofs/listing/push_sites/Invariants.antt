use Rattle.std.proofs.Common.{◌≡◌, ◌++◌, take}
use Rattle.std.specs.List.{flat_map}
use Rattle.tree_report.specs.Listing.{site_line}
use Rattle.tree_report.proofs.listing.push_sites.Given as goal

abbrev pub invariant-sites : goal.invariant-sites
invariant-sites l = l.bytes.items ≡ l.initial.bytes.items ++ flat_map site_line (take l.site-index l.sites)
