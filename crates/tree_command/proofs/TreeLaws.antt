-- A fault of the scan refuses the application.
use Rattle.std.proofs.Common.{List}
use Rattle.outside.specs.declared.files.FileEntry.{FileEntry}
use Rattle.app_config.specs.declared.config.Config.{Config}
use Rattle.tree_scan.specs.Sites.{IsFault}
use Rattle.tree_scan.specs.declared.fault.ScanFault.{ScanFault}
use Rattle.tree_scan.specs.declared.fault.ScanFault.TheVariants.{BadName, TwoRoots, Memory}
use Rattle.tree_report.specs.Limits.{IsWithinLimits}
use Rattle.tree_report.specs.Configurations.{IsConfiguration}
use Rattle.tree_command.specs.Faults.{of_scan}
use Rattle.tree_command.specs.Tree.{IsTreeFault}

-- a fault of the scan is why the listing is refused
pub fault_told : (files : List FileEntry) (config : Config) (fault : ScanFault) → IsWithinLimits files →
    IsConfiguration files config → IsFault files config fault → IsTreeFault files (of_scan fault)
fault_told files config (BadName path) within configured is = (within, (config, configured, is))
fault_told files config (TwoRoots path) within configured is = (within, (config, configured, is))
fault_told files config Memory within configured is = tt
