use Rattle.std.proofs.Common.{◌≡◌, drop}
use Rattle.ruby_builtin_keys.specs.Digest as spec
use Rattle.ruby_builtin_keys.proofs.digests.mixed_names.Given as goal

abbrev pub invariant-loop-name : goal.invariant-loop-name
invariant-loop-name l = spec.mixed_names l.so_far (drop l.name-index l.name-items)
    ≡ spec.mixed_names l.start l.name-items
