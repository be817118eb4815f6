use Rattle.std.proofs.lemmas.Result.{err_from_is_err_and}
use Rattle.ruby_parse_statement.specs.Places.{around_view}
use Rattle.ruby_parse_statement.proofs.SimpleLaws.{evaluation_reads, evaluation_breaks}
use Rattle.ruby_parse_statement.proofs.simple.evaluated.Goals as goal

pub returns-in_err-expression-clause-reads : goal.returns-in_err-expression-clause-reads
returns-in_err-expression-clause-reads c =
    let p = err_from_is_err_and c.from_residual.result c.from_residual.ensures.1 in
    rw (p.1, p.2) (evaluation_breaks (around_view c.args.body c.args.locals.now) _ c.args.cursor.now
    c.expression.new.cursor c.in_err-expression.ensures.reads)

pub returns-clause-reads : goal.returns-clause-reads
returns-clause-reads c = evaluation_reads (around_view c.args.body c.args.locals.now) _ c.args.cursor.now
    c.expression.new.cursor c.in_ok-expression.ensures.reads
