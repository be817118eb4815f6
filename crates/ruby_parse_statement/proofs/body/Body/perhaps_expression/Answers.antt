use Rattle.std.proofs.lemmas.Result.{err_from_is_err_and}
use Rattle.ruby_grammar.specs.Statements.{scope}
use Rattle.ruby_parse_statement.proofs.SimpleLaws.{some_expression, some_expression_fails, no_expression}
use Rattle.ruby_parse_statement.proofs.body.Body.perhaps_expression.Goals as goal

pub returns-in_err-expression-clause-reads : goal.returns-in_err-expression-clause-reads
returns-in_err-expression-clause-reads c =
    let p = err_from_is_err_and c.from_residual.result c.from_residual.ensures.1 in
    rw (p.1, p.2) (some_expression_fails (scope c.args.self.levels c.args.locals.now) _ c.args.cursor.now
    c.expression.new.cursor (cc) c.in_err-expression.ensures.reads)

pub returns-in_ok-expression-clause-reads : goal.returns-in_ok-expression-clause-reads
returns-in_ok-expression-clause-reads c =
    some_expression (scope c.args.self.levels c.args.locals.now) _ c.args.cursor.now c.expression.new.cursor
    (cc) c.in_ok-expression.ensures.reads

pub returns-else-starts_expression-clause-reads : goal.returns-else-starts_expression-clause-reads
returns-else-starts_expression-clause-reads c =
    no_expression (scope c.args.self.levels c.args.locals.now) c.args.cursor.now (cc)
