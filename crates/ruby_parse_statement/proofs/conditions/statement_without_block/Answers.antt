use Rattle.std.proofs.Common.{Err}
use Rattle.std.proofs.lemmas.Result.{err_from_is_err_and}
use Rattle.ruby_parse_statement.specs.Places.{around_view}
use Rattle.ruby_parse_statement.proofs.StatementLaws.{simple_reads, simple_breaks, conditioned_reads}
use Rattle.ruby_parse_statement.proofs.conditions.statement_without_block.Goals as goal

pub returns-in_err-statement-clause-reads : goal.returns-in_err-statement-clause-reads
returns-in_err-statement-clause-reads c =
    let p = err_from_is_err_and c.from_residual.result c.from_residual.ensures.1 in
    rw (p.1, p.2) (simple_breaks (around_view c.args.body c.args.locals.now) _ c.args.cursor.now
    c.simple_statement.new.cursor
    c.requires c.in_err-statement.ensures.reads)

pub returns-in_err-condition-clause-reads : goal.returns-in_err-condition-clause-reads
returns-in_err-condition-clause-reads c =
    let p = err_from_is_err_and c.from_residual-in_err-condition.result c.from_residual-in_err-condition.ensures.1 in
    rw (p.1, p.2) (simple_reads (around_view c.args.body c.args.locals.now) c.in_ok-statement.statement
    c.simple_statement.new.locals c.args.cursor.now c.simple_statement.new.cursor c.perhaps_condition.new.cursor
    (Err _) c.requires c.in_ok-statement.ensures.reads
    (c.in_err-condition.ensures.reads c.in_ok-statement.statement))

pub returns-clause-reads : goal.returns-clause-reads
returns-clause-reads c =
    conditioned_reads (around_view c.args.body c.args.locals.now) c.in_ok-statement.statement
    c.in_ok-condition.condition c.simple_statement.new.locals c.with_condition.result c.args.cursor.now
    c.simple_statement.new.cursor c.perhaps_condition.new.cursor c.requires c.in_ok-statement.ensures.reads
    c.in_ok-condition.ensures.reads c.with_condition.ensures.ok c.with_condition.ensures.fault
