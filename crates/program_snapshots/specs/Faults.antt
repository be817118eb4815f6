-- The faults of the layers below, as faults of a program.
use Rattle.app_config.specs.declared.config.ConfigFault.{ConfigFault}
use Rattle.app_config.specs.declared.config.ConfigKind.{ConfigKind}
use Rattle.app_config.specs.declared.config.ConfigKind.TheVariants as kind
use Rattle.tree_scan.specs.declared.fault.ScanFault.{ScanFault}
use Rattle.tree_scan.specs.declared.fault.ScanFault.TheVariants as scan
use Rattle.program_snapshots.specs.declared.fault.ProgramFault.{ProgramFault}
use Rattle.program_snapshots.specs.declared.fault.ProgramFault.TheVariants.{Config, Scan, Memory}

-- a fault of the configuration, unless its kind is want of memory
abbrev pub told : ConfigKind → ConfigFault → ProgramFault
told kind.Memory fault = Memory
told _ fault = Config fault

-- a fault of the configuration, told by its own kind
abbrev pub of_configuration : ConfigFault → ProgramFault
of_configuration fault = told fault.kind fault

-- a fault of the scan, unless it is want of memory
abbrev pub of_scan : ScanFault → ProgramFault
of_scan scan.Memory = Memory
of_scan (scan.TwoRoots path) = Scan (scan.TwoRoots path)
of_scan (scan.BadName path) = Scan (scan.BadName path)
