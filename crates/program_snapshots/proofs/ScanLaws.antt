-- A fault of the scan refuses an application.
use Rattle.std.proofs.Common.{List}
use Rattle.outside.specs.declared.files.FileEntry.{FileEntry}
use Rattle.app_config.specs.declared.config.Config.{Config}
use Rattle.tree_scan.specs.Sites.{IsFault}
use Rattle.tree_scan.specs.declared.fault.ScanFault.{ScanFault}
use Rattle.tree_scan.specs.declared.fault.ScanFault.TheVariants.{BadName, TwoRoots, Memory}
use Rattle.tree_report.specs.Limits.{IsWithinLimits}
use Rattle.tree_report.specs.Configurations.{IsConfiguration}
use Rattle.program_snapshots.specs.Faults.{of_scan}
use Rattle.program_snapshots.specs.Refusals.{IsRefusal}

-- a fault of the scan refuses the application
pub scan_refused : (files : List FileEntry) (config : Config) (fault : ScanFault) → IsWithinLimits files →
    IsConfiguration files config → IsFault files config fault → IsRefusal files (of_scan fault)
scan_refused files config (BadName path) within configured is = (within, (config, configured, is))
scan_refused files config (TwoRoots path) within configured is = (within, (config, configured, is))
scan_refused files config Memory within configured is = tt
