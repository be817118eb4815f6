use Rattle.std.proofs.lemmas.Result.{err_from_is_err_and}
use Rattle.ruby_parse_statement.specs.Places.{around_view}
use Rattle.ruby_parse_statement.proofs.SimpleLaws.{raise_reads, raise_breaks, no_raise}
use Rattle.ruby_parse_statement.proofs.simple.raised.Goals as goal

pub returns-in_err-take-clause-reads : goal.returns-in_err-take-clause-reads
returns-in_err-take-clause-reads c =
    let p = err_from_is_err_and c.from_residual.result c.from_residual.ensures.1 in
    rw (p.1, p.2) (no_raise (around_view c.args.body c.args.locals.now) _ c.args.cursor.now c.take.new.self
    c.in_err-take.ensures.stays c.in_err-take.ensures.other c.in_err-take.ensures.fault)

pub returns-in_err-expression-clause-reads : goal.returns-in_err-expression-clause-reads
returns-in_err-expression-clause-reads c =
    let p = err_from_is_err_and c.from_residual-in_err-expression.result c.from_residual-in_err-expression.ensures.1 in
    rw (p.1, p.2) (raise_breaks (around_view c.args.body c.args.locals.now) _ c.args.cursor.now c.take.new.self
    c.expression.new.cursor c.in_ok-take.ensures.ok c.in_ok-take.ensures.passed c.in_err-expression.ensures.reads)

pub returns-clause-reads : goal.returns-clause-reads
returns-clause-reads c =
    raise_reads (around_view c.args.body c.args.locals.now) _ c.args.cursor.now c.take.new.self
    c.expression.new.cursor c.in_ok-take.ensures.ok c.in_ok-take.ensures.passed c.in_ok-expression.ensures.reads
