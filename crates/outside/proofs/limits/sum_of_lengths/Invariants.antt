use Rattle.std.proofs.Common.{◌≡◌, ◌-◌, ◌^◌, min, take}
use Rattle.outside.specs.Limits.{bytes_in_all}
use Rattle.outside.proofs.limits.sum_of_lengths.Given as goal

abbrev pub invariant-files : goal.invariant-files
invariant-files l = l.total ≡ min (bytes_in_all (take l.file-index l.stamps)) (2 ^ 64 - 1)
