-- The refusal by a fault of an application's files.
use Rattle.std.specs.Prelude.{Option, Some, None}
use Rattle.tree_report.specs.declared.refusal.Refusal.{Refusal}
use Rattle.tree_report.specs.declared.refusal.Refusal.TheVariants as refusal
use Rattle.tree_scan.specs.declared.fault.ScanFault.{ScanFault}
use Rattle.tree_scan.specs.declared.fault.ScanFault.TheVariants as scan
use Rattle.program_snapshots.specs.declared.fault.ProgramFault.{ProgramFault}
use Rattle.program_snapshots.specs.declared.fault.ProgramFault.TheVariants.{Limit, Config, Scan, Memory}

-- a fault of names
abbrev pub named_by : ScanFault → Option Refusal
named_by (scan.TwoRoots path) = Some (refusal.TwoRoots path)
named_by (scan.BadName path) = Some (refusal.BadName path)
named_by scan.Memory = None

-- The refusal by a fault: none for want of memory, which refuses nothing.
abbrev pub refusal_of : ProgramFault → Option Refusal
refusal_of (Limit limit number) = Some (refusal.Limit (record { limit = limit; number = number }))
refusal_of (Config fault) = Some (refusal.Configuration fault)
refusal_of (Scan fault) = named_by fault
refusal_of Memory = None
