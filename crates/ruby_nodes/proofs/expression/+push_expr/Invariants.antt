use Rattle.std.proofs.Common.{◌+◌, ◌*◌, drop, max}
use Rattle.ruby_types.specs.declared.tree.Expr.{size-Expr}
use Rattle.ruby_types.specs.declared.tree.Part.{size-Part}
use Rattle.ruby_types.specs.declared.tree.Expr.TheViews.{weight-Expr-Str-0, weight-Expr-Array-0, weight-Expr-Hash-0}
use Rattle.ruby_nodes.specs.Entries.{Extends, Stands, items_entry, pairs_entry, parts_entry}
use Rattle.ruby_nodes.proofs.expression.+push_expr.Given as goal

abbrev pub invariant-push_items-loop-place : goal.invariant-push_items-loop-place
invariant-push_items-loop-place l = record {
  extends : Extends l.fn.table l.table;
  stands : Stands l.table l.next (items_entry (drop l.place l.items));
}

abbrev pub invariant-push_pairs-loop-place : goal.invariant-push_pairs-loop-place
invariant-push_pairs-loop-place l = record {
  extends : Extends l.fn.table l.table;
  stands : Stands l.table l.next (pairs_entry (drop l.place l.pairs));
}

abbrev pub invariant-push_parts-loop-place : goal.invariant-push_parts-loop-place
invariant-push_parts-loop-place l = record {
  extends : Extends l.fn.table l.table;
  stands : Stands l.table l.next (parts_entry (drop l.place l.parts));
}

abbrev pub decreases-push_expr : goal.decreases-push_expr
decreases-push_expr l = 8 * size-Expr l.expr.now

abbrev pub decreases-push_two : goal.decreases-push_two
decreases-push_two l = 8 * max (size-Expr l.left.now) (size-Expr l.right.now) + 1

abbrev pub decreases-push_three : goal.decreases-push_three
decreases-push_three l = 8 * max (size-Expr l.test.now) (max (size-Expr l.taken.now) (size-Expr l.other.now)) + 2

abbrev pub decreases-push_items : goal.decreases-push_items
decreases-push_items l = 8 * weight-Expr-Array-0 l.items.now + 1

abbrev pub decreases-push_call : goal.decreases-push_call
decreases-push_call l = 8 * max (size-Expr l.on.now) (weight-Expr-Array-0 l.args.now) + 2

abbrev pub decreases-push_pairs : goal.decreases-push_pairs
decreases-push_pairs l = 8 * weight-Expr-Hash-0 l.pairs.now + 2

abbrev pub decreases-push_parts : goal.decreases-push_parts
decreases-push_parts l = 8 * weight-Expr-Str-0 l.parts.now + 2

abbrev pub decreases-push_part : goal.decreases-push_part
decreases-push_part l = 8 * size-Part l.part.now + 1
