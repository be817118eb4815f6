use Rattle.std.proofs.Common.{◌≡◌, ◌++◌, ◌*◌, ◌+◌, take, codes}
use Rattle.std.specs.List.{flat_map}
use Rattle.ruby_types.specs.declared.tree.Stmt.{size-Stmt}
use Rattle.ruby_types.specs.declared.tree.Stmt.TheViews.{weight-Stmt-If-0, weight-Stmt-If-1}
use Rattle.ruby_print.specs.Statements.{statement, statement_lines, statement_arms, statements_behind}
use Rattle.ruby_print.proofs.Joins.{is_nil}
use Rattle.ruby_print.proofs.statement.+statement.Given as goal

abbrev pub invariant-push_statements-statements : goal.invariant-push_statements-statements
invariant-push_statements-statements l = l.written.items ≡ l.initial.written.items ++ statement_lines l.indent
    (take l.statement-index l.statements)

abbrev pub invariant-push_in_row-statements : goal.invariant-push_in_row-statements
invariant-push_in_row-statements l = l.written.items ≡ l.initial.written.items ++ flat_map
    (λ x. statement x l.indent) (take l.statement-index l.statements)

abbrev pub invariant-push_behind-arms : goal.invariant-push_behind-arms
invariant-push_behind-arms l = l.written.items ≡ l.initial.written.items ++ flat_map (statements_behind l.indent)
    (take l.condition-index l.arms)

abbrev pub invariant-push_arms-arms : goal.invariant-push_arms-arms
invariant-push_arms-arms l = (l.first ≡ is_nil (take l.condition-index l.arms))
    × (l.written.items ≡ l.initial.written.items ++ statement_arms l.indent (codes "if ")
    (take l.condition-index l.arms))

abbrev pub decreases-push_statement : goal.decreases-push_statement
decreases-push_statement l = 8 * size-Stmt l.statement.now

abbrev pub decreases-push_statements : goal.decreases-push_statements
decreases-push_statements l = 8 * weight-Stmt-If-1 l.statements.now + 1

abbrev pub decreases-push_in_row : goal.decreases-push_in_row
decreases-push_in_row l = 8 * weight-Stmt-If-1 l.statements.now + 1

abbrev pub decreases-push_inside : goal.decreases-push_inside
decreases-push_inside l = 8 * weight-Stmt-If-1 l.statements.now + 2

abbrev pub decreases-push_otherwise : goal.decreases-push_otherwise
decreases-push_otherwise l = 8 * weight-Stmt-If-1 l.statements.now + 3

abbrev pub decreases-push_arms : goal.decreases-push_arms
decreases-push_arms l = 8 * weight-Stmt-If-0 l.arms.now + 4

abbrev pub decreases-push_behind : goal.decreases-push_behind
decreases-push_behind l = 8 * weight-Stmt-If-0 l.arms.now + 4
