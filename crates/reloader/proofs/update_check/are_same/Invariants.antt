use Rattle.std.proofs.Common.{◌≡◌, take}
use Rattle.reloader.proofs.update_check.are_same.Given as goal

abbrev pub invariant-files : goal.invariant-files
invariant-files l = take l.i l.a ≡ take l.i l.b
