use Rattle.std.proofs.Common.{◌++◌, map, ap, ◌∙◌, arith}
use Rattle.std.proofs.lemmas.Grind.{common_steps}
use Rattle.ruby_print.specs.Statements.{inside, statement}
use Rattle.ruby_print.proofs.StatementLaws.{statements_inside, print-behind, print-If, print-Set, print-SetIvar}
use Rattle.ruby_print.proofs.StatementLaws.{print-Raise, arms-more}
use Rattle.ruby_print.proofs.statement.+statement.Goals as goal

pub push_arms-arms-preserved : goal.push_arms-arms-preserved
push_arms-arms-preserved t c =
    arms-more _ _ _ c.arms-item.result _ _ _ _ _ _ (omega arith) c.arms-item.is c.arms.invariant
    c.in_ok-push_word.ensures c.in_ok-push_expression.ensures
    (c.in_ok-push_inside.ensures
    ∙ ap (λ body. c.push_expression.new.written.items ++ inside c.args.indent.now (map statement body))
    c.as_slice.ensures)

pub push_inside-returns : goal.push_inside-returns
push_inside-returns t c = let e = statements_inside c.args.indent.now c.args.statements.now in
    grind (arith, common_steps)

pub push_statement-returns-in_ok-extend_from_slice-in-Set : goal.push_statement-returns-in_ok-extend_from_slice-in-Set
push_statement-returns-in_ok-extend_from_slice-in-Set t c = let e =
    print-Set c.in-Set.name c.in-Set.value c.args.indent.now in grind (arith, common_steps)

pub push_statement-returns-in_ok-push_ivar-in-SetIvar : goal.push_statement-returns-in_ok-push_ivar-in-SetIvar
push_statement-returns-in_ok-push_ivar-in-SetIvar t c = let e =
    print-SetIvar c.in-SetIvar.name c.in-SetIvar.value c.args.indent.now in grind (arith, common_steps)

pub push_statement-returns-in_ok-extend_from_slice-in-Raise :
    goal.push_statement-returns-in_ok-extend_from_slice-in-Raise
push_statement-returns-in_ok-extend_from_slice-in-Raise t c = let e =
    print-Raise c.in-Raise.text c.args.indent.now in grind (arith, common_steps)

pub push_statement-returns-then-after : goal.push_statement-returns-then-after
push_statement-returns-then-after t c = let e = print-behind c.in-If.arms c.in-If.other c.args.indent.now in
    grind (arith, common_steps)

pub push_statement-returns-in_ok-push_otherwise-in-If : goal.push_statement-returns-in_ok-push_otherwise-in-If
push_statement-returns-in_ok-push_otherwise-in-If t c = let e =
    print-If c.in-If.arms c.in-If.other c.args.indent.now in grind (arith, common_steps)
