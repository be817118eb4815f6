use Rattle.std.proofs.Common.{◌≡◌, ◌<◌, [], ◌∷◌, length, drop}
use Rattle.ruby_builtin_base.specs.Characters.{characters}
use Rattle.ruby_builtin_texts.proofs.characters.split_last.Given as goal

abbrev pub invariant-inner : goal.invariant-inner
invariant-inner l = (l.start < length l.text) × (characters (drop l.start l.text) ≡ drop l.start l.text ∷ [])

abbrev pub decreases-inner : goal.decreases-inner
decreases-inner l = l.start
