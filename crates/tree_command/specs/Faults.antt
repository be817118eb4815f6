-- The faults of the layers below, as faults of a listing.
use Rattle.app_config.specs.declared.config.ConfigFault.{ConfigFault}
use Rattle.app_config.specs.declared.config.ConfigKind.{ConfigKind}
use Rattle.app_config.specs.declared.config.ConfigKind.TheVariants as kind
use Rattle.tree_scan.specs.declared.fault.ScanFault.{ScanFault}
use Rattle.tree_scan.specs.declared.fault.ScanFault.TheVariants as scan
use Rattle.tree_report.specs.declared.refusal.Refusal.TheVariants.{Configuration, BadName, TwoRoots}
use Rattle.tree_command.specs.declared.fault.ListingFault.{ListingFault}
use Rattle.tree_command.specs.declared.fault.ListingFault.TheVariants.{Refused, Memory}

-- a configuration's fault refuses the application, unless its kind is want of memory
abbrev pub told : ConfigKind → ConfigFault → ListingFault
told kind.Memory fault = Memory
told _ fault = Refused (Configuration fault)

-- a configuration's fault, told by its own kind
abbrev pub of_configuration : ConfigFault → ListingFault
of_configuration fault = told fault.kind fault

-- a scan's fault: two roots of one path and a bad name refuse the application, want of memory doesn't
abbrev pub of_scan : ScanFault → ListingFault
of_scan (scan.TwoRoots path) = Refused (TwoRoots path)
of_scan (scan.BadName path) = Refused (BadName path)
of_scan scan.Memory = Memory
