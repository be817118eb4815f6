use Rattle.std.proofs.Common.{◌∙◌}
use Rattle.ruby_builtin_texts.proofs.SearchLaws.{found_is_part}
use Rattle.ruby_builtin_texts.proofs.parts.has_part.Goals as goal

pub returns : goal.returns
returns c = c.is_some.ensures ∙ found_is_part c.args.text.now c.args.part.now c.find.result c.find.ensures
