use Rattle.std.proofs.Common.{◌*◌, ◌+◌}
use Rattle.ruby_types.specs.declared.tree.Stmt.{size-Stmt}
use Rattle.ruby_types.specs.declared.tree.Stmt.TheViews.{weight-Stmt-If-0, weight-Stmt-If-1}
use Rattle.ruby_parse_cases.proofs.shown.+statement.Given as goal

abbrev pub decreases-show_statement : goal.decreases-show_statement
decreases-show_statement l = 8 * size-Stmt l.statement.now

abbrev pub decreases-show_statements : goal.decreases-show_statements
decreases-show_statements l = 8 * weight-Stmt-If-1 l.statements.now + 1

abbrev pub decreases-show_in_row : goal.decreases-show_in_row
decreases-show_in_row l = 8 * weight-Stmt-If-1 l.statements.now + 1

abbrev pub decreases-show_other : goal.decreases-show_other
decreases-show_other l = 8 * weight-Stmt-If-1 l.statements.now + 2

abbrev pub decreases-show_arms : goal.decreases-show_arms
decreases-show_arms l = 8 * weight-Stmt-If-0 l.arms.now + 2

abbrev pub decreases-show_behind : goal.decreases-show_behind
decreases-show_behind l = 8 * weight-Stmt-If-0 l.arms.now + 2
