use Rattle.std.proofs.Common.{true, false, ◌∙◌, ◌<◌, ◌≤◌, [], Ok, Err, refl, sym, subst, length, arith}
use Rattle.std.proofs.lemmas.Grind.{common_steps}
use Rattle.std.proofs.lemmas.Result.{err_from_is_err_and}
use Rattle.ruby_grammar.specs.Terminals.{is_line}
use Rattle.ruby_grammar.specs.Rules as rules
use Rattle.ruby_grammar.specs.Statements.{known, block}
use Rattle.ruby_types.specs.declared.tree.Stmt.TheVariants as stmt
use Rattle.ruby_parse_steps.specs.Gives.{GivesRule}
use Rattle.ruby_parse_steps.proofs.WordLaws.{skip_falls, drop_shorter}
use Rattle.ruby_parse_statement.specs.Answers.{known_as}
use Rattle.ruby_parse_statement.specs.Places.{around_view}
use Rattle.ruby_parse_statement.proofs.StatementLaws.{block_deep, block_opens, statements_end, statements_break}
use Rattle.ruby_parse_statement.proofs.StatementLaws.{statement_and_line, statement_without_line}
use Rattle.ruby_parse_statement.proofs.BlockLaws.{begun, further_arm, rest_is_else, rest_is_elsif, rest_is_nothing}
use Rattle.ruby_parse_statement.proofs.BlockLaws.{rest_ends, arm_reads, arm_lacks_test, arm_breaks, no_else}
use Rattle.ruby_parse_statement.proofs.BlockLaws.{else_breaks, else_lacks_end, else_reads}
use Rattle.ruby_parse_statement.proofs.statement.+statement.Goals as goal

pub statement-returns-in_err-inner-clause-reads : goal.statement-returns-in_err-inner-clause-reads
statement-returns-in_err-inner-clause-reads t c =
    let p = err_from_is_err_and c.from_residual.result c.from_residual.ensures.1 in
    rw (p.1, p.2) (block_deep (around_view c.args.body c.args.locals.now) _ c.args.cursor.now c.args.cursor.now
    (sym c.begins_block.ensures ∙ c.if-begins_block.true) c.in_err-inner.ensures.none c.in_err-inner.ensures.fault)

pub statement-returns-in_ok-inner-clause-reads : goal.statement-returns-in_ok-inner-clause-reads
statement-returns-in_ok-inner-clause-reads t c =
    block_opens (around_view c.args.body c.args.locals.now) (around_view c.in_ok-inner.inner c.args.locals.now)
    c.sees-is_unless.result c.args.cursor.now c.skip.new.self c.branches.new.cursor
    (known_as c.branches.new.locals c.branches.result)
    (sym c.begins_block.ensures ∙ c.if-begins_block.true) c.sees-is_unless.ensures c.in_ok-inner.ensures.left
    c.in_ok-inner.ensures.same refl c.skip.ensures c.branches.ensures.reads

pub arm-returns-in_err-test-clause-reads : goal.arm-returns-in_err-test-clause-reads
arm-returns-in_err-test-clause-reads t c =
    let p = err_from_is_err_and c.from_residual.result c.from_residual.ensures.1 in
    rw (p.1, p.2) (arm_lacks_test (around_view c.args.body c.args.locals.now) c.args.is_unless c.args.list.now _
    c.args.list.now c.args.locals.now c.args.cursor.now c.arm_condition.new.cursor c.in_err-test.ensures.reads)

pub arm-returns-in_err-block-clause-reads : goal.arm-returns-in_err-block-clause-reads
arm-returns-in_err-block-clause-reads t c =
    let p = err_from_is_err_and c.from_residual-in_err-block.result c.from_residual-in_err-block.ensures.1 in
    rw (p.1, p.2) (arm_breaks (around_view c.args.body c.args.locals.now) c.args.is_unless c.args.list.now
    c.in_ok-test.test _ c.args.list.now c.statements.new.locals c.args.cursor.now c.arm_condition.new.cursor
    c.statements.new.cursor c.in_ok-test.ensures.reads c.in_err-block.ensures.reads)

pub arm-returns-clause-reads : goal.arm-returns-clause-reads
arm-returns-clause-reads t c =
    arm_reads (around_view c.args.body c.args.locals.now) c.args.is_unless c.args.list.now c.in_ok-test.test
    c.in_ok-block.block c.statements.new.locals c.add_arm.new.arms c.args.cursor.now c.arm_condition.new.cursor
    c.statements.new.cursor c.in_ok-test.ensures.reads c.in_ok-block.ensures.reads c.in_ok-add_arm.ensures

pub otherwise-returns-in_err-take-clause-reads : goal.otherwise-returns-in_err-take-clause-reads
otherwise-returns-in_err-take-clause-reads t c =
    let p = err_from_is_err_and c.from_residual.result c.from_residual.ensures.1 in
    rw (p.1, p.2) (no_else (around_view c.args.body c.args.locals.now) _ c.args.locals.now c.args.cursor.now
    c.take.new.self c.in_err-take.ensures.stays c.in_err-take.ensures.other c.in_err-take.ensures.fault)

pub otherwise-returns-in_err-block-clause-reads : goal.otherwise-returns-in_err-block-clause-reads
otherwise-returns-in_err-block-clause-reads t c =
    let p = err_from_is_err_and c.from_residual-in_err-block.result c.from_residual-in_err-block.ensures.1 in
    rw (p.1, p.2) (else_breaks (around_view c.args.body c.args.locals.now) c.args.cursor.now c.take.new.self
    c.perhaps_line.new.cursor c.in_ok-take.ensures.ok c.in_ok-take.ensures.passed c.perhaps_line.ensures.reads _
    c.statements.new.locals c.statements.new.cursor c.in_err-block.ensures.reads)

pub otherwise-returns-in_err-take-2-clause-reads : goal.otherwise-returns-in_err-take-2-clause-reads
otherwise-returns-in_err-take-2-clause-reads t c =
    let p = err_from_is_err_and c.from_residual-in_err-take-2.result c.from_residual-in_err-take-2.ensures.1 in
    rw (p.1, p.2) (else_lacks_end (around_view c.args.body c.args.locals.now) c.args.cursor.now c.take.new.self
    c.perhaps_line.new.cursor c.in_ok-take.ensures.ok c.in_ok-take.ensures.passed c.perhaps_line.ensures.reads
    c.in_ok-block.block _ c.statements.new.locals c.statements.new.cursor c.take-2.new.self
    c.in_ok-block.ensures.reads c.in_err-take-2.ensures.stays c.in_err-take-2.ensures.other
    c.in_err-take-2.ensures.fault)

pub otherwise-returns-clause-reads : goal.otherwise-returns-clause-reads
otherwise-returns-clause-reads t c =
    else_reads (around_view c.args.body c.args.locals.now) c.args.cursor.now c.take.new.self
    c.perhaps_line.new.cursor c.in_ok-take.ensures.ok c.in_ok-take.ensures.passed c.perhaps_line.ensures.reads
    c.in_ok-block.block c.statements.new.locals c.statements.new.cursor c.take-2.new.self
    c.in_ok-block.ensures.reads c.in_ok-take-2.ensures.ok c.in_ok-take-2.ensures.passed

pub statements-lines-init : goal.statements-lines-init
statements-lines-init t c = record {
  goes_on = λ r end h. subst
      (λ l. GivesRule (rules.statements (around_view c.args.body c.args.locals.now) l) c.args.cursor.now r end)
      c.new-statements.ensures h;
  shorter = omega arith;
}

pub statements-returns-in_err-statement-clause-reads : goal.statements-returns-in_err-statement-clause-reads
statements-returns-in_err-statement-clause-reads t c =
    let p = err_from_is_err_and c.from_residual.result c.from_residual.ensures.1 in
    rw (p.1, p.2) (c.lines.invariant.goes_on (Err _) c.statement.new.cursor
    (statements_break (around_view c.args.body c.lines.locals) c.lines.statements _ c.lines.cursor
    c.statement.new.cursor (cc) c.in_err-statement.ensures.reads))

pub statements-returns-then-not-sees-clause-reads : goal.statements-returns-then-not-sees-clause-reads
statements-returns-then-not-sees-clause-reads t c =
    c.lines.invariant.goes_on (Ok (block c.push.new.self c.statement.new.locals false)) c.statement.new.cursor
    (statement_without_line (around_view c.args.body c.lines.locals) c.lines.statements _ c.statement.new.locals
    c.push.new.self c.lines.cursor c.statement.new.cursor (cc) c.in_ok-statement.ensures.reads
    c.in_ok-push.ensures.ok (cc))

pub statements-lines-preserved : goal.statements-lines-preserved
statements-lines-preserved t c = record {
  goes_on = λ r end h. c.lines.invariant.goes_on r end
      (statement_and_line (around_view c.args.body c.lines.locals) c.lines.statements _ c.statement.new.locals
      c.push.new.self c.lines.cursor c.statement.new.cursor c.skip.new.self end r
      (cc) c.in_ok-statement.ensures.reads c.in_ok-push.ensures.ok (cc) c.skip.ensures h);
  shorter = let a : length c.skip.new.self < length c.statement.new.cursor =
      skip_falls is_line c.statement.new.cursor c.skip.new.self (cc) c.skip.ensures in
      omega (arith, a, c.in_ok-statement.ensures.shorter, c.lines.invariant.shorter);
}

pub statements-lines-smaller : goal.statements-lines-smaller
statements-lines-smaller t c =
    let a : length c.skip.new.self < length c.statement.new.cursor =
    skip_falls is_line c.statement.new.cursor c.skip.new.self (cc) c.skip.ensures in
    omega (arith, a, c.in_ok-statement.ensures.shorter)

pub statements-returns-clause-reads : goal.statements-returns-clause-reads
statements-returns-clause-reads t c = c.lines.invariant.goes_on (Ok (block c.lines.statements c.lines.locals true))
    c.lines.cursor (statements_end (around_view c.args.body c.lines.locals) c.lines.statements c.lines.cursor (cc))

pub arms-returns-in_err-closed-clause-reads : goal.arms-returns-in_err-closed-clause-reads
arms-returns-in_err-closed-clause-reads t c =
    let p = err_from_is_err_and c.from_residual.result c.from_residual.ensures.1 in
    rw (p.1, p.2) c.in_err-closed.ensures.reads

pub arms-further-init : goal.arms-further-init
arms-further-init t c = record {
  goes_on = λ r end h. c.in_ok-closed.ensures.reads r end h;
  shorter =
      c.in_ok-closed.ensures.shorter;
}

pub arms-returns-in_err-closed-2-clause-reads : goal.arms-returns-in_err-closed-2-clause-reads
arms-returns-in_err-closed-2-clause-reads t c =
    let p = err_from_is_err_and c.from_residual-in_err-closed-2.result c.from_residual-in_err-closed-2.ensures.1 in
    rw (p.1, p.2) (c.further.invariant.goes_on (Err _) c.arm-in-further.new.cursor
    (rest_is_elsif (around_view c.args.body c.further.locals) c.further.list c.args.is_unless c.further.closed
    c.further.cursor c.skip.new.self c.arm-in-further.new.cursor (Err _)
    (cc) c.skip.ensures c.in_err-closed-2.ensures.reads))

pub arms-further-preserved : goal.arms-further-preserved
arms-further-preserved t c = record {
  goes_on = λ r end h. c.further.invariant.goes_on r end
      (further_arm (around_view c.args.body c.further.locals) c.args.is_unless c.further.closed c.further.list
      c.further.cursor c.skip.new.self c.arm-in-further.new.cursor end c.in_ok-closed-2.closed
      c.arm-in-further.new.list c.arm-in-further.new.locals r (cc) c.skip.ensures c.in_ok-closed-2.ensures.reads h);
  shorter = grind (arith, common_steps);
}

pub arms-returns-clause-reads : goal.arms-returns-clause-reads
arms-returns-clause-reads t c = λ r end h. c.further.invariant.goes_on r end h

pub branches-returns-in_err-closed-clause-reads : goal.branches-returns-in_err-closed-clause-reads
branches-returns-in_err-closed-clause-reads t c =
    let p = err_from_is_err_and c.from_residual.result c.from_residual.ensures.1 in
    rw (p.1, p.2) (begun (around_view c.args.body c.args.locals.now) c.args.is_unless c.new-list.result
    c.args.cursor.now c.arms.new.cursor (Err _) c.new-list.ensures c.in_err-closed.ensures.reads)

pub branches-returns-in_err-other-clause-reads : goal.branches-returns-in_err-other-clause-reads
branches-returns-in_err-other-clause-reads t c =
    let p = err_from_is_err_and c.from_residual-in_err-other.result c.from_residual-in_err-other.ensures.1 in
    rw (p.1, p.2) (begun (around_view c.args.body c.args.locals.now) c.args.is_unless c.new-list.result
    c.args.cursor.now c.otherwise.new.cursor (Err _) c.new-list.ensures
    (c.in_ok-closed.ensures.reads (Err _) c.otherwise.new.cursor
    (rest_is_else (around_view c.args.body c.arms.new.locals) c.arms.new.list c.args.is_unless
    c.in_ok-closed.closed c.arms.new.cursor c.otherwise.new.cursor (Err _) (cc)
    (c.in_err-other.ensures.reads c.arms.new.list))))

pub branches-returns-then-has_else-clause-reads : goal.branches-returns-then-has_else-clause-reads
branches-returns-then-has_else-clause-reads t c =
    begun (around_view c.args.body c.args.locals.now) c.args.is_unless c.new-list.result c.args.cursor.now
    c.otherwise.new.cursor (Ok
    (known (stmt.If c.arms.new.list c.in_ok-other.other false) c.otherwise.new.locals)) c.new-list.ensures
    (c.in_ok-closed.ensures.reads
    (Ok (known (stmt.If c.arms.new.list c.in_ok-other.other false) c.otherwise.new.locals))
    c.otherwise.new.cursor (rest_is_else (around_view c.args.body c.arms.new.locals) c.arms.new.list
    c.args.is_unless c.in_ok-closed.closed c.arms.new.cursor c.otherwise.new.cursor
    (Ok (known (stmt.If c.arms.new.list c.in_ok-other.other false) c.otherwise.new.locals)) (cc)
    (c.in_ok-other.ensures.reads c.arms.new.list)))

pub branches-returns-in_err-take-clause-reads : goal.branches-returns-in_err-take-clause-reads
branches-returns-in_err-take-clause-reads t c =
    let p = err_from_is_err_and c.from_residual-in_err-take.result c.from_residual-in_err-take.ensures.1 in
    rw (p.1, p.2) (begun (around_view c.args.body c.args.locals.now) c.args.is_unless c.new-list.result
    c.args.cursor.now c.take.new.self (Err _) c.new-list.ensures
    (c.in_ok-closed.ensures.reads (Err _) c.take.new.self
    (rest_is_nothing (around_view c.args.body c.arms.new.locals) c.arms.new.list c.args.is_unless
    c.in_ok-closed.closed _ c.arms.new.cursor c.take.new.self c.in_ok-closed.ensures.last
    (cc) c.in_err-take.ensures.stays c.in_err-take.ensures.other c.in_err-take.ensures.fault)))

pub branches-returns-clause-reads : goal.branches-returns-clause-reads
branches-returns-clause-reads t c =
    rw c.new.ensures (begun (around_view c.args.body c.args.locals.now) c.args.is_unless c.new-list.result
    c.args.cursor.now c.take.new.self (Ok (known (stmt.If c.arms.new.list [] false) c.arms.new.locals))
    c.new-list.ensures
    (c.in_ok-closed.ensures.reads (Ok (known (stmt.If c.arms.new.list [] false) c.arms.new.locals)) c.take.new.self
    (rest_ends (around_view c.args.body c.arms.new.locals) c.arms.new.list c.args.is_unless c.in_ok-closed.closed
    c.arms.new.cursor c.take.new.self c.in_ok-take.ensures.ok c.in_ok-take.ensures.passed)))

pub otherwise-returns-clause-shorter : goal.otherwise-returns-clause-shorter
otherwise-returns-clause-shorter t c =
    let a : length c.take.new.self ≤ length c.args.cursor.now =
    drop_shorter c.args.cursor.now c.take.new.self c.in_ok-take.ensures.passed in
    let b : length c.take-2.new.self ≤ length c.statements.new.cursor =
    drop_shorter c.statements.new.cursor c.take-2.new.self c.in_ok-take-2.ensures.passed in
    omega (arith, a, c.perhaps_line.ensures.shorter, c.in_ok-block.ensures.shorter, b)
