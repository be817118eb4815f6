use Rattle.std.proofs.Common.{◌≡◌, ◌≤◌, ◌+◌, drop}
use Rattle.ruby_builtin_base.specs.Characters.{beginnings}
use Rattle.ruby_builtin_base.proofs.characters.beginnings.Given as goal

abbrev pub invariant-loop-byte : goal.invariant-loop-byte
invariant-loop-byte l = record {
  few : l.count ≤ l.byte-index;
  so_far : l.count + beginnings (drop l.byte-index l.bytes) ≡ beginnings l.bytes;
}
