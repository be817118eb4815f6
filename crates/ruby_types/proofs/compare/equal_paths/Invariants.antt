use Rattle.std.proofs.Common.{◌≡◌, drop}
use Rattle.std.specs.Str.{bytes_eq}
use Rattle.ruby_types.specs.Same.{same_each}
use Rattle.ruby_types.proofs.compare.equal_paths.Given as goal

abbrev pub invariant-names : goal.invariant-names
invariant-names l = same_each bytes_eq (drop l.i l.a) (drop l.i l.b) ≡ same_each bytes_eq l.a l.b
