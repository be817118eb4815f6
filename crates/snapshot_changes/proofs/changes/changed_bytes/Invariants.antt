use Rattle.std.proofs.Common.{◌≡◌, ◌^◌, ◌-◌, min, take}
use Rattle.std.specs.Prelude.{sum_by}
use Rattle.snapshot_changes.specs.Changes.{changed_by}
use Rattle.snapshot_changes.proofs.changes.changed_bytes.Given as goal

abbrev pub invariant-files : goal.invariant-files
invariant-files l = l.total ≡ min (sum_by (changed_by l.before) (take l.file-index l.after)) (2 ^ 64 - 1)
