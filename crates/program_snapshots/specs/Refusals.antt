-- Why an application has no program.
use Rattle.std.specs.Prelude.{List, ⊤}
use Rattle.outside.specs.declared.files.FileEntry.{FileEntry}
use Rattle.app_config.specs.declared.config.Config.{Config as Configuration}
use Rattle.tree_scan.specs.Sites.{IsFault}
use Rattle.tree_scan.specs.declared.fault.ScanFault.{ScanFault}
use Rattle.tree_scan.specs.declared.fault.ScanFault.TheVariants as scan
use Rattle.tree_report.specs.Limits.{IsWithinLimits, IsExceeded}
use Rattle.tree_report.specs.Configurations.{IsConfiguration, IsConfigurationFault}
use Rattle.program_snapshots.specs.declared.fault.ProgramFault.{ProgramFault}
use Rattle.program_snapshots.specs.declared.fault.ProgramFault.TheVariants.{Limit, Config, Scan, Memory}

-- within the limits, and by its configuration the scan has this fault
abbrev pub HasScanFault : List FileEntry → ScanFault → Type 0
HasScanFault files fault = IsWithinLimits files
    × ((config : Configuration) × IsConfiguration files config × IsFault files config fault)

-- a fault of the scan refuses; want of memory is none of its faults
abbrev pub IsScanRefusal : List FileEntry → ScanFault → Type 0
IsScanRefusal files (scan.TwoRoots path) = HasScanFault files (scan.TwoRoots path)
IsScanRefusal files (scan.BadName path) = HasScanFault files (scan.BadName path)
IsScanRefusal files scan.Memory = ⊥

-- The first of these: a limit is exceeded, the configuration has a fault, two root lines name one path, a name is bad.
-- Memory may want at any time.
abbrev pub IsRefusal : List FileEntry → ProgramFault → Type 0
IsRefusal files (Limit limit number) = IsExceeded files limit number
IsRefusal files (Config fault) = IsWithinLimits files × IsConfigurationFault files fault
IsRefusal files (Scan fault) = IsScanRefusal files fault
IsRefusal files Memory = ⊤
