use Rattle.std.proofs.Common.{sym, ◌∙◌}
use Rattle.ruby_words.proofs.Shaped.{none_empty, none_begun}
use Rattle.ruby_words.proofs.code_of.Goals as goal

pub returns-in-empty-clause-none : goal.returns-in-empty-clause-none
returns-in-empty-clause-none c = none_empty c.args.words.now c.args.name.now c.requires c.in-empty.len_below

pub returns-else-is_shape-clause-none : goal.returns-else-is_shape-clause-none
returns-else-is_shape-clause-none c =
    none_begun c.args.words.now c.args.name.now c.requires c.in-len1-up.len_at_least
    (sym c.is_shape.ensures ∙ c.if-is_shape.false)
