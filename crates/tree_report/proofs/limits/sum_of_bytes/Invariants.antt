use Rattle.std.proofs.Common.{◌≡◌, take, min, ◌-◌, ◌^◌}
use Rattle.tree_report.specs.Limits.{total_bytes}
use Rattle.tree_report.proofs.limits.sum_of_bytes.Given as goal

abbrev pub invariant-files : goal.invariant-files
invariant-files l = l.total ≡ min (total_bytes (take l.file-index l.files)) (2 ^ 64 - 1)
