use Rattle.std.proofs.Common.{◌≡◌, drop}
use Rattle.ruby_builtin_keys.specs.Places.{first_of}
use Rattle.ruby_builtin_keys.proofs.indexed.first_place.Given as goal

abbrev pub invariant-loop-place : goal.invariant-loop-place
invariant-loop-place l = first_of l.pairs l.key (drop l.place-index l.places) ≡ first_of l.pairs l.key l.places
