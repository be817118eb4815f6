use Rattle.std.proofs.Common.{◌≡◌, ◌+◌, drop}
use Rattle.std.specs.List.{prefix_len}
use Rattle.ruby_builtin_base.specs.Characters.{is_inner}
use Rattle.ruby_builtin_texts.proofs.characters.inner_len.Given as goal

abbrev pub invariant-loop-place : goal.invariant-loop-place
invariant-loop-place l = l.place + prefix_len is_inner (drop l.place l.bytes) ≡ prefix_len is_inner l.bytes
