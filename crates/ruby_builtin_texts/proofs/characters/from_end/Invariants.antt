use Rattle.std.proofs.Common.{◌≡◌, length, reverse}
use Rattle.std.specs.List.{slice_get}
use Rattle.ruby_builtin_base.specs.Characters.{characters}
use Rattle.ruby_builtin_texts.proofs.characters.from_end.Given as goal

abbrev pub invariant-characters : goal.invariant-characters
invariant-characters l =
    slice_get (reverse (characters l.rest)) l.left ≡ slice_get (reverse (characters l.text)) l.place

abbrev pub decreases-characters : goal.decreases-characters
decreases-characters l = length l.rest
