use Rattle.std.proofs.Common.{◌≡◌, ◌++◌, take}
use Rattle.std.specs.List.{flat_map}
use Rattle.eager_report.specs.Report.{line_of}
use Rattle.eager_report.proofs.report.push_lines.Given as goal

abbrev pub invariant-texts : goal.invariant-texts
invariant-texts l = l.bytes.items ≡ l.initial.bytes.items ++ flat_map line_of (take l.text-index l.texts)
