use Rattle.std.proofs.Common.{◌≡◌, ◌++◌, length, reverse}
use Rattle.std.specs.List.{concat}
use Rattle.ruby_builtin_base.specs.Characters.{characters}
use Rattle.ruby_builtin_texts.proofs.characters.reversed.Given as goal

abbrev pub invariant-characters : goal.invariant-characters
invariant-characters l =
    l.bytes.items ++ concat (reverse (characters l.rest)) ≡ concat (reverse (characters l.text))

abbrev pub decreases-characters : goal.decreases-characters
decreases-characters l = length l.rest
