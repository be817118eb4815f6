-- Faults of files, which hold no want of memory.
use Rattle.app_config.specs.declared.config.ConfigKind.{ConfigKind}
use Rattle.app_config.specs.declared.config.ConfigKind.TheVariants as kind
use Rattle.tree_scan.specs.declared.fault.ScanFault.{ScanFault}
use Rattle.tree_scan.specs.declared.fault.ScanFault.TheVariants as scan
use Rattle.program_snapshots.specs.declared.fault.ProgramFault.{ProgramFault}
use Rattle.program_snapshots.specs.declared.fault.ProgramFault.TheVariants.{Limit, Config, Scan, Memory}

-- a fault of a line of the configuration
abbrev pub IsLineFault : ConfigKind → Type 0
IsLineFault kind.UnknownWord = Unit {0}
IsLineFault kind.WordCount = Unit {0}
IsLineFault kind.BadPath = Unit {0}
IsLineFault kind.BadName = Unit {0}
IsLineFault kind.NotUtf8 = Unit {0}
IsLineFault kind.Memory = ⊥

-- a fault of the names of files
abbrev pub IsNameFault : ScanFault → Type 0
IsNameFault (scan.TwoRoots path) = Unit {0}
IsNameFault (scan.BadName path) = Unit {0}
IsNameFault scan.Memory = ⊥

-- The fault of files that have no program: a limit, a line of the configuration, or a name.
abbrev pub IsFaultOfFiles : ProgramFault → Type 0
IsFaultOfFiles (Limit limit number) = Unit {0}
IsFaultOfFiles (Config fault) = IsLineFault fault.kind
IsFaultOfFiles (Scan fault) = IsNameFault fault
IsFaultOfFiles Memory = ⊥
