use Rattle.std.proofs.lemmas.Result.{err_from_is_err_and}
use Rattle.ruby_parse_statement.proofs.ConditionLaws.{if_reads, if_breaks, unless_reads, unless_breaks, no_condition}
use Rattle.ruby_parse_statement.proofs.conditions.perhaps_condition.Goals as goal

pub returns-in_err-expression-clause-reads : goal.returns-in_err-expression-clause-reads
returns-in_err-expression-clause-reads c =
    let p = err_from_is_err_and c.from_residual.result c.from_residual.ensures.1 in
    rw (p.1, p.2) (if_breaks c.args.body.levels c.args.locals.now _ c.args.cursor.now c.skip.new.self
    c.expression.new.cursor (cc) c.skip.ensures c.in_err-expression.ensures.reads)

pub returns-in_ok-expression-clause-reads : goal.returns-in_ok-expression-clause-reads
returns-in_ok-expression-clause-reads c =
    if_reads c.args.body.levels c.args.locals.now _ c.args.cursor.now c.skip.new.self c.expression.new.cursor
    (cc) c.skip.ensures c.in_ok-expression.ensures.reads

pub returns-in_err-test-clause-reads : goal.returns-in_err-test-clause-reads
returns-in_err-test-clause-reads c =
    let p = err_from_is_err_and c.from_residual-in_err-test.result c.from_residual-in_err-test.ensures.1 in
    rw (p.1, p.2) (unless_breaks c.args.body.levels c.args.locals.now _ c.args.cursor.now c.skip-then-sees-2.new.self
    c.expression-then-sees-2.new.cursor (cc) (cc) c.skip-then-sees-2.ensures c.in_err-test.ensures.reads)

pub returns-in_ok-negated-clause-reads : goal.returns-in_ok-negated-clause-reads
returns-in_ok-negated-clause-reads c =
    unless_reads c.args.body.levels c.args.locals.now c.in_ok-test.test _ c.args.cursor.now
    c.skip-then-sees-2.new.self c.expression-then-sees-2.new.cursor (cc)
    (cc) c.skip-then-sees-2.ensures c.in_ok-negated.ensures c.in_ok-test.ensures.reads

pub returns-else-sees-2-clause-reads : goal.returns-else-sees-2-clause-reads
returns-else-sees-2-clause-reads c = no_condition c.args.body.levels c.args.locals.now c.args.cursor.now (cc) (cc)
