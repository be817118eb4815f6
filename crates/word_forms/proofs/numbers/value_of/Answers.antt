use Rattle.word_forms.proofs.Digits.{digits_are_utf8, not_parsed_is_large}
use Rattle.word_forms.proofs.numbers.value_of.Goals as goal

pub returns-in-Err-parse : goal.returns-in-Err-parse
returns-in-Err-parse c = not_parsed_is_large c.args.digits.now c.in-Ok.text.now c.requires.digits c.requires.some
    c.in-Ok.ensures.cases.0 c.in-Err-parse.ensures.value.0

pub returns-in-Err : goal.returns-in-Err
returns-in-Err c = absurd (c.in-Err.ensures.cases.0 (digits_are_utf8 c.args.digits.now c.requires.digits))
