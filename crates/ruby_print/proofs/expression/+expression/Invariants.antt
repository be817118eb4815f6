use Rattle.std.proofs.Common.{◌≡◌, ◌≤◌, ◌+◌, ◌*◌, ◌++◌, take, map}
use Rattle.std.specs.List.{flat_map}
use Rattle.ruby_types.specs.declared.tree.Expr.{size-Expr}
use Rattle.ruby_types.specs.declared.tree.Part.{size-Part}
use Rattle.ruby_types.specs.declared.tree.Expr.TheViews.{weight-Expr-Str-0, weight-Expr-Array-0, weight-Expr-Hash-0}
use Rattle.ruby_print.specs.Pieces.{joined}
use Rattle.ruby_print.specs.Expressions.{expression, inner, inner_pair, part}
use Rattle.ruby_print.specs.Pending.{pending_text, depth, piece_depth, steps}
use Rattle.ruby_print.proofs.Joins.{is_nil}
use Rattle.ruby_print.proofs.expression.+expression.Given as goal

abbrev pub invariant-push_expression-pieces : goal.invariant-push_expression-pieces
invariant-push_expression-pieces l =
    (l.written.items ++ pending_text l.pending.items ≡ l.fn.written.items ++ expression l.fn.expr l.fn.inside)
    × (depth l.pending.items ≤ size-Expr l.fn.expr)

abbrev pub decreases-push_expression-pieces : goal.decreases-push_expression-pieces
decreases-push_expression-pieces l = steps l.pending.items

abbrev pub invariant-push_members-members : goal.invariant-push_members-members
invariant-push_members-members l = (l.first ≡ is_nil (take l.item-index l.items))
    × (l.written.items ≡ l.initial.written.items ++ joined (map inner (take l.item-index l.items)))

abbrev pub invariant-push_pairs-pairs : goal.invariant-push_pairs-pairs
invariant-push_pairs-pairs l = (l.first ≡ is_nil (take l.key-index l.pairs))
    × (l.written.items ≡ l.initial.written.items ++ joined (map inner_pair (take l.key-index l.pairs)))

abbrev pub invariant-push_parts-parts : goal.invariant-push_parts-parts
invariant-push_parts-parts l = l.written.items ≡ l.initial.written.items ++ flat_map part (take l.part-index l.parts)

abbrev pub decreases-push_expression : goal.decreases-push_expression
decreases-push_expression l = 8 * size-Expr l.expr.now + 2

abbrev pub decreases-push_piece : goal.decreases-push_piece
decreases-push_piece l = 8 * piece_depth l.piece + 1

abbrev pub decreases-push_beginning : goal.decreases-push_beginning
decreases-push_beginning l = 8 * size-Expr l.expr.now

abbrev pub decreases-push_members : goal.decreases-push_members
decreases-push_members l = 8 * weight-Expr-Array-0 l.items.now + 3

abbrev pub decreases-push_grouped : goal.decreases-push_grouped
decreases-push_grouped l = 8 * weight-Expr-Array-0 l.args.now + 4

abbrev pub decreases-push_bracketed : goal.decreases-push_bracketed
decreases-push_bracketed l = 8 * weight-Expr-Array-0 l.args.now + 4

abbrev pub decreases-push_own : goal.decreases-push_own
decreases-push_own l = 8 * weight-Expr-Array-0 l.args.now + 5

abbrev pub decreases-push_operand : goal.decreases-push_operand
decreases-push_operand l = 8 * weight-Expr-Array-0 l.args.now + 5

abbrev pub decreases-push_arguments : goal.decreases-push_arguments
decreases-push_arguments l = 8 * weight-Expr-Array-0 l.args.now + 5

abbrev pub decreases-push_method : goal.decreases-push_method
decreases-push_method l = 8 * weight-Expr-Array-0 l.args.now + 6

abbrev pub decreases-push_behind : goal.decreases-push_behind
decreases-push_behind l = 8 * weight-Expr-Array-0 l.args.now + 7

abbrev pub decreases-push_pairs : goal.decreases-push_pairs
decreases-push_pairs l = 8 * weight-Expr-Hash-0 l.pairs.now + 3

abbrev pub decreases-push_hash : goal.decreases-push_hash
decreases-push_hash l = 8 * weight-Expr-Hash-0 l.pairs.now + 4

abbrev pub decreases-push_parts : goal.decreases-push_parts
decreases-push_parts l = 8 * weight-Expr-Str-0 l.parts.now + 4

abbrev pub decreases-push_text : goal.decreases-push_text
decreases-push_text l = 8 * weight-Expr-Str-0 l.parts.now + 5

abbrev pub decreases-push_part : goal.decreases-push_part
decreases-push_part l = 8 * size-Part l.part.now + 3
