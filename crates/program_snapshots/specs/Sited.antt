-- What is told of a snapshot before its Ruby is read.
use Rattle.std.specs.Prelude.{◌≡◌, List, length}
use Rattle.outside.specs.declared.files.FileEntry.{FileEntry}
use Rattle.tree_scan.specs.Sites.{AreSites}
use Rattle.tree_report.specs.Limits.{IsWithinLimits}
use Rattle.tree_report.specs.Configurations.{IsConfiguration}
use Rattle.program_used.specs.Constants.{AreConstants}
use Rattle.program_snapshots.specs.declared.sited.Sited.{Sited}

-- The sites of these files: within the limits, with what the configuration says, and the constant of each file.
pub record IsSited (files : List FileEntry) (s : Sited) : Type 0 where
  pub same : s.snapshot.files ≡ files
  pub within : IsWithinLimits files
  pub configured : IsConfiguration files s.config
  pub sited : AreSites files s.config s.sites
  pub are_constants : AreConstants s.sites.spelled (length files) s.constants.items
