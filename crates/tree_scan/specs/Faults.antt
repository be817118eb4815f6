-- The faults of a scan.
use Rattle.tree_scan_roots.specs.declared.roots.RootsFault.{RootsFault}
use Rattle.tree_scan_roots.specs.declared.roots.RootsFault.TheVariants as r
use Rattle.tree_scan.specs.declared.fault.ScanFault.{ScanFault}
use Rattle.tree_scan.specs.declared.fault.ScanFault.TheVariants.{TwoRoots, Memory}

-- a fault of the roots is one of the scan
abbrev pub of_roots : RootsFault → ScanFault
of_roots (r.TwoRoots path) = TwoRoots path
of_roots r.Memory = Memory
