use Rattle.std.proofs.Common.{◌≡◌, take}
use Rattle.std.specs.List.{filter}
use Rattle.ruby_builtin_arrays.specs.Members as spec
use Rattle.ruby_builtin_arrays.proofs.members.present.Given as goal

abbrev pub invariant-loop-member : goal.invariant-loop-member
invariant-loop-member l = l.kept.items ≡ filter spec.is_present (take l.member-index l.members)
