use Rattle.std.proofs.Common.{◌∙◌, sym, refl}
use Rattle.ruby_parse_cursor.proofs.CodeLaws.{sees_code, other_code}
use Rattle.ruby_parse_statement.specs.Places.{around_view}
use Rattle.ruby_parse_statement.specs.Answers.{known_as}
use Rattle.ruby_parse_statement.proofs.SimpleLaws.{simple_return, simple_raise}
use Rattle.ruby_parse_statement.proofs.simple.simple_statement.Goals as goal

pub returns-in-Some-eq10-cases-clause-reads : goal.returns-in-Some-eq10-cases-clause-reads
returns-in-Some-eq10-cases-clause-reads c =
    simple_return (around_view c.args.body c.args.locals.now) c.args.cursor.now c.returned.new.cursor
    (known_as c.args.locals.now c.returned.result) (sees_code c.args.cursor.now 10 (sym c.peek_code.ensures ∙ (cc)))
    c.returned.ensures.reads

pub returns-in-Some-eq15-cases-clause-reads : goal.returns-in-Some-eq15-cases-clause-reads
returns-in-Some-eq15-cases-clause-reads c =
    simple_raise (around_view c.args.body c.args.locals.now) c.args.cursor.now c.raised.new.cursor
    (known_as c.args.locals.now c.raised.result)
    (other_code c.args.cursor.now 15 10 (sym c.peek_code.ensures ∙ (cc)) refl)
    (sees_code c.args.cursor.now 15 (sym c.peek_code.ensures ∙ (cc))) c.raised.ensures.reads
