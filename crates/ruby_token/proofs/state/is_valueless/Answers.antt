use Rattle.ruby_token.proofs.Valueless.{empty_has_value, by_beginning}
use Rattle.ruby_token.proofs.state.is_valueless.Goals as goal

pub returns-in-empty : goal.returns-in-empty
returns-in-empty c = empty_has_value c.args.text.now c.in-empty.len_below

pub returns-in-len1-up : goal.returns-in-len1-up
returns-in-len1-up c = rw (c.is_one_of.ensures, c.valueless_beginning.ensures)
    (by_beginning c.args.text.now c.in-len1-up.len_at_least)
