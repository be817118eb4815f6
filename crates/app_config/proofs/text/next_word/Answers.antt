use Rattle.std.proofs.Common.{sym, ◌∙◌}
use Rattle.app_config.proofs.WordLaws.{words-spaces, words-line}
use Rattle.app_config.proofs.text.next_word.Goals as goal

pub returns-then-is_empty-clause-none : goal.returns-then-is_empty-clause-none
returns-then-is_empty-clause-none c = words-spaces c.args.text.now _ c.skip_spaces-text.ensures
    (sym c.is_empty.ensures ∙ c.if-is_empty.true)

pub returns-in-Some-clause-word : goal.returns-in-Some-clause-word
returns-in-Some-clause-word c =
    let parts = rw c.in-Some.is at c.cut_at.ensures.parts in
    words-line c.args.text.now _ _ _ c.skip_spaces-text.ensures (sym c.is_empty.ensures ∙ c.if-is_empty.false) parts

pub returns-in-None-clause-word : goal.returns-in-None-clause-word
returns-in-None-clause-word c =
    let parts = rw c.in-None.is at c.cut_at.ensures.parts in
    words-line c.args.text.now _ _ _ c.skip_spaces-text.ensures (sym c.is_empty.ensures ∙ c.if-is_empty.false) parts
