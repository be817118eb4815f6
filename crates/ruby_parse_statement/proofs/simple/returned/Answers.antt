use Rattle.std.proofs.lemmas.Result.{err_from_is_err_and}
use Rattle.ruby_parse_statement.specs.Places.{around_view}
use Rattle.ruby_parse_statement.proofs.SimpleLaws.{return_reads, return_breaks, no_return}
use Rattle.ruby_parse_statement.proofs.simple.returned.Goals as goal

pub returns-in_err-take-clause-reads : goal.returns-in_err-take-clause-reads
returns-in_err-take-clause-reads c =
    let p = err_from_is_err_and c.from_residual.result c.from_residual.ensures.1 in
    rw (p.1, p.2) (no_return (around_view c.args.body c.args.locals.now) _ c.args.cursor.now c.take.new.self
    c.in_err-take.ensures.stays c.in_err-take.ensures.other c.in_err-take.ensures.fault)

pub returns-in_err-perhaps_expression-clause-reads : goal.returns-in_err-perhaps_expression-clause-reads
returns-in_err-perhaps_expression-clause-reads c =
    let p = err_from_is_err_and c.from_residual-in_err-perhaps_expression.result
    c.from_residual-in_err-perhaps_expression.ensures.1 in
    rw (p.1, p.2) (return_breaks (around_view c.args.body c.args.locals.now) _ c.args.cursor.now c.take.new.self
    c.perhaps_expression.new.cursor c.in_ok-take.ensures.ok c.in_ok-take.ensures.passed
    c.in_err-perhaps_expression.ensures.reads)

pub returns-clause-reads : goal.returns-clause-reads
returns-clause-reads c =
    return_reads (around_view c.args.body c.args.locals.now) _ c.args.cursor.now c.take.new.self
    c.perhaps_expression.new.cursor c.in_ok-take.ensures.ok c.in_ok-take.ensures.passed
    c.in_ok-perhaps_expression.ensures.reads
