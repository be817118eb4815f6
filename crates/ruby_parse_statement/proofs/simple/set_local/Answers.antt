use Rattle.std.proofs.lemmas.Result.{err_from_is_err_and}
use Rattle.ruby_parse_cursor.specs.Views.{word_view}
use Rattle.ruby_parse_statement.specs.Places.{around_view}
use Rattle.ruby_parse_statement.proofs.SimpleLaws.{set_reads, set_breaks, set_lacks_assign, no_variable}
use Rattle.ruby_parse_statement.proofs.simple.set_local.Goals as goal

pub returns-in_err-word-clause-reads : goal.returns-in_err-word-clause-reads
returns-in_err-word-clause-reads c =
    let p = err_from_is_err_and c.from_residual.result c.from_residual.ensures.1 in
    rw (p.1, p.2) (no_variable (around_view c.args.body c.args.locals.now) _ c.args.cursor.now
    c.take_variable.new.cursor
    c.in_err-word.ensures.stays c.in_err-word.ensures.other c.in_err-word.ensures.fault)

pub returns-in_err-take-clause-reads : goal.returns-in_err-take-clause-reads
returns-in_err-take-clause-reads c =
    let p = err_from_is_err_and c.from_residual-in_err-take.result c.from_residual-in_err-take.ensures.1 in
    rw (p.1, p.2) (set_lacks_assign (around_view c.args.body c.args.locals.now)
    (word_view c.in_ok-word.word) _ c.args.cursor.now c.take_variable.new.cursor c.take.new.self
    c.in_ok-word.ensures.ok c.in_ok-word.ensures.variable c.in_err-take.ensures.stays c.in_err-take.ensures.other
    c.in_err-take.ensures.fault)

pub returns-in_err-value-clause-reads : goal.returns-in_err-value-clause-reads
returns-in_err-value-clause-reads c =
    let p = err_from_is_err_and c.from_residual-in_err-value.result c.from_residual-in_err-value.ensures.1 in
    rw (p.1, p.2) (set_breaks (around_view c.args.body c.args.locals.now)
    (word_view c.in_ok-word.word) _ c.insert.new.self c.args.cursor.now c.take_variable.new.cursor c.take.new.self
    c.expression.new.cursor c.in_ok-word.ensures.ok c.in_ok-word.ensures.variable c.in_ok-take.ensures.ok
    c.in_ok-take.ensures.passed c.in_ok-insert.ensures c.in_err-value.ensures.reads)

pub returns-clause-reads : goal.returns-clause-reads
returns-clause-reads c =
    rw c.in_ok-name.ensures (set_reads (around_view c.args.body c.args.locals.now)
    (word_view c.in_ok-word.word) _ c.insert.new.self c.args.cursor.now c.take_variable.new.cursor c.take.new.self
    c.expression.new.cursor c.in_ok-word.ensures.ok c.in_ok-word.ensures.variable c.in_ok-take.ensures.ok
    c.in_ok-take.ensures.passed c.in_ok-insert.ensures c.in_ok-value.ensures.reads)
