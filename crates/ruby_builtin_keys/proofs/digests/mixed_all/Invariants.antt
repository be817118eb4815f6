use Rattle.std.proofs.Common.{◌≡◌, drop}
use Rattle.ruby_builtin_keys.specs.Digest as spec
use Rattle.ruby_builtin_keys.proofs.digests.mixed_all.Given as goal

abbrev pub invariant-loop-byte : goal.invariant-loop-byte
invariant-loop-byte l = spec.mixed_all l.so_far (drop l.byte-index l.bytes) ≡ spec.mixed_all l.start l.bytes
