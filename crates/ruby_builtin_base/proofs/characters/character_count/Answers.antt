use Rattle.std.proofs.Common.{◌+◌, length, ap, sym, ◌∙◌}
use Rattle.ruby_builtin_base.specs.Characters.{characters}
use Rattle.ruby_builtin_base.proofs.CharacterLaws.{length-characters}
use Rattle.ruby_builtin_base.proofs.characters.character_count.Goals as goal

pub returns-in-Some : goal.returns-in-Some
returns-in-Some c =
    ap (λ n. n + 1) c.beginnings.ensures.value
    ∙ sym (ap (λ text. length (characters text)) c.in-Some.ensures.cases.0
    ∙ length-characters c.in-Some.field-0-0.now c.in-Some.rest.now)
