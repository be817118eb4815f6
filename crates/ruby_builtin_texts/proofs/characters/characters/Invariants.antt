use Rattle.std.proofs.Common.{◌≡◌, ◌++◌, length, map}
use Rattle.ruby_types.specs.declared.value.Value.TheVariants.{Str}
use Rattle.ruby_builtin_base.specs.Characters.{characters}
use Rattle.ruby_builtin_texts.proofs.characters.characters.Given as goal

abbrev pub invariant-characters : goal.invariant-characters
invariant-characters l = l.items.items ++ map Str (characters l.rest) ≡ map Str (characters l.text)

abbrev pub decreases-characters : goal.decreases-characters
decreases-characters l = length l.rest
