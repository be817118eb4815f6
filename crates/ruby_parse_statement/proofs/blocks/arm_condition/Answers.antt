use Rattle.std.proofs.lemmas.Result.{err_from_is_err_and}
use Rattle.ruby_grammar.specs.Statements.{scope}
use Rattle.ruby_parse_statement.proofs.BlockLaws.{test_reads, test_breaks, test_lacks_line}
use Rattle.ruby_parse_statement.proofs.blocks.arm_condition.Goals as goal

pub returns-in_err-test-clause-reads : goal.returns-in_err-test-clause-reads
returns-in_err-test-clause-reads c =
    let p = err_from_is_err_and c.from_residual.result c.from_residual.ensures.1 in
    rw (p.1, p.2) (test_breaks (scope c.args.body.levels c.args.locals.now) c.args.is_unless _ c.args.cursor.now
    c.expression.new.cursor c.in_err-test.ensures.reads)

pub returns-in_err-then_or_line-clause-reads : goal.returns-in_err-then_or_line-clause-reads
returns-in_err-then_or_line-clause-reads c =
    let p = err_from_is_err_and c.from_residual-in_err-then_or_line.result
    c.from_residual-in_err-then_or_line.ensures.1 in
    rw (p.1, p.2) (test_lacks_line (scope c.args.body.levels c.args.locals.now) c.args.is_unless c.in_ok-test.test _
    c.args.cursor.now c.expression.new.cursor c.then_or_line.new.cursor c.in_ok-test.ensures.reads
    c.in_err-then_or_line.ensures.reads)

pub returns-clause-reads : goal.returns-clause-reads
returns-clause-reads c =
    test_reads (scope c.args.body.levels c.args.locals.now) c.args.is_unless c.in_ok-test.test c.in_ok-test-2.test
    c.args.cursor.now c.expression.new.cursor c.then_or_line.new.cursor c.in_ok-test.ensures.reads
    c.in_ok-test-2.ensures c.in_ok-then_or_line.ensures.reads
