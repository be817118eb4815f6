use Rattle.std.proofs.Common.{◌≡◌, take}
use Rattle.ruby_types.proofs.identical.identical_paths.Given as goal

abbrev pub invariant-names : goal.invariant-names
invariant-names l = take l.i l.a ≡ take l.i l.b
