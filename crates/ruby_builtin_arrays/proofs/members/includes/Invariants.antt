use Rattle.std.proofs.Common.{◌≡◌, drop}
use Rattle.std.specs.List.{list_any}
use Rattle.ruby_types.specs.Same.{same}
use Rattle.ruby_builtin_arrays.proofs.members.includes.Given as goal

abbrev pub invariant-loop-member : goal.invariant-loop-member
invariant-loop-member l = list_any (λ m. same m l.value) (drop l.member-index l.members)
    ≡ list_any (λ m. same m l.value) l.members
