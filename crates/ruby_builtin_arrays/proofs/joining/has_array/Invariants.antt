use Rattle.std.proofs.Common.{◌≡◌, drop}
use Rattle.std.specs.List.{list_any}
use Rattle.ruby_builtin_arrays.specs.Members as spec
use Rattle.ruby_builtin_arrays.proofs.joining.has_array.Given as goal

abbrev pub invariant-loop-member : goal.invariant-loop-member
invariant-loop-member l = list_any spec.is_array (drop l.member-index l.members) ≡ list_any spec.is_array l.members
