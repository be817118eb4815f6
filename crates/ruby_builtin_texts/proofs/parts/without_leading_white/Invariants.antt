use Rattle.std.proofs.Common.{◌≡◌, length}
use Rattle.ruby_builtin_texts.specs.Parts.{without_leading_white}
use Rattle.ruby_builtin_texts.proofs.parts.without_leading_white.Given as goal

abbrev pub invariant-white : goal.invariant-white
invariant-white l = without_leading_white l.rest ≡ without_leading_white l.text

abbrev pub decreases-white : goal.decreases-white
decreases-white l = length l.rest
