use Rattle.std.proofs.Common.{◌+◌, ◌*◌, drop, max}
use Rattle.ruby_types.specs.declared.tree.Stmt.{size-Stmt}
use Rattle.ruby_types.specs.declared.tree.Stmt.TheViews.{weight-Stmt-If-0, weight-Stmt-If-1}
use Rattle.ruby_nodes.specs.Entries.{Extends, Stands, arms_entry, body_entry}
use Rattle.ruby_nodes.proofs.statement.+push_body.Given as goal

abbrev pub invariant-push_body-loop-place : goal.invariant-push_body-loop-place
invariant-push_body-loop-place l = record {
  extends : Extends l.fn.table l.table;
  stands : Stands l.table l.next (body_entry (drop l.place l.stmts));
}

abbrev pub invariant-push_arms-loop-place : goal.invariant-push_arms-loop-place
invariant-push_arms-loop-place l = record {
  extends : Extends l.fn.table l.table;
  stands : Stands l.table l.next (arms_entry (drop l.place l.arms));
}

abbrev pub decreases-push_stmt : goal.decreases-push_stmt
decreases-push_stmt l = 8 * size-Stmt l.stmt.now

abbrev pub decreases-push_body : goal.decreases-push_body
decreases-push_body l = 8 * weight-Stmt-If-1 l.stmts.now + 1

abbrev pub decreases-push_arm : goal.decreases-push_arm
decreases-push_arm l = 8 * weight-Stmt-If-1 l.body.now + 2

abbrev pub decreases-push_arms : goal.decreases-push_arms
decreases-push_arms l = 8 * weight-Stmt-If-0 l.arms.now + 3

abbrev pub decreases-push_if : goal.decreases-push_if
decreases-push_if l = 8 * max (weight-Stmt-If-0 l.arms.now) (weight-Stmt-If-1 l.other.now) + 4
