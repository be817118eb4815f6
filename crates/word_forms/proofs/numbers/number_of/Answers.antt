use Rattle.word_forms.proofs.Digits.{digits_are_printed}
use Rattle.std.proofs.Common.{sym, ◌∙◌, rules}
use Rattle.word_forms.proofs.numbers.number_of.Goals as goal

pub returns-in-Some-clause-printed : goal.returns-in-Some-clause-printed
returns-in-Some-clause-printed c = λ n is. digits_are_printed c.args.most c.in-Some.number n c.args.word.now
    c.in-Some.ensures.0 c.in-Some.ensures.1 (sym c.begins_with_zero.ensures ∙ c.if-begins_with_zero.false)
    (search rules) (search rules)
    (sym c.value_within.ensures ∙ is)
