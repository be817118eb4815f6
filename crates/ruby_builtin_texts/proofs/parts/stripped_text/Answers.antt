use Rattle.std.proofs.Common.{◌≡◌, length, ap, ◌∙◌, arith}
use Rattle.ruby_builtin_texts.specs.Parts.{stripped}
use Rattle.ruby_builtin_texts.proofs.PartLaws.{whole_is_stripped}
use Rattle.ruby_builtin_texts.proofs.parts.stripped_text.Goals as goal

pub returns-else-part-len : goal.returns-else-part-len
returns-else-part-len c =
    let part_is : c.stripped-part.result.now ≡ stripped c.args.text.now =
    c.stripped-part.ensures ∙ ap stripped c.as_bytes.ensures in
    let whole : c.args.text.now ≡ stripped c.args.text.now =
    whole_is_stripped c.args.text.now (omega (arith, ap length part_is)) in
    rw (← whole) c.copy.ensures
