use Rattle.std.proofs.Common.{◌∙◌, Some, ap, sym, arith}
use Rattle.std.proofs.lemmas.Grind.{common_steps}
use Rattle.ruby_print.specs.Expressions.{expression, inner, inner_pair}
use Rattle.ruby_print.proofs.Joins.{joined-more}
use Rattle.ruby_print.proofs.ExpressionLaws.{print-Array, print-Str, print-Hash, print-Sym, print-Local, print-Ivar}
use Rattle.ruby_print.proofs.ExpressionLaws.{print-Const, members_of, pair_steps}
use Rattle.ruby_print.proofs.PendingLaws.{fits-pop, text-pop, depth-pop, steps-pop}
use Rattle.ruby_print.proofs.BeginningLaws.{all-written, begun-operator, whole-own, begun-call, begun-Not, begun-And}
use Rattle.ruby_print.proofs.BeginningLaws.{begun-Or, begun-Choose}
use Rattle.ruby_print.proofs.expression.+expression.Goals as goal

pub push_members-members-preserved : goal.push_members-members-preserved
push_members-members-preserved t c =
    joined-more inner _ _ c.item-item.result _ _ c.push_comma.new.written.items _ _
    (omega arith) c.item-item.is c.members.invariant c.in_ok-push_comma.ensures c.in_ok-push_expression.ensures

pub push_pairs-pairs-preserved : goal.push_pairs-pairs-preserved
push_pairs-pairs-preserved t c =
    joined-more inner_pair _ _ c.pairs-item.result _ _ c.push_comma.new.written.items _ _
    (omega arith) c.pairs-item.is c.pairs.invariant c.in_ok-push_comma.ensures
    (pair_steps _ _ _ _ _ _ c.in_ok-push_expression.ensures c.in_ok-extend_from_slice.ensures.items
    c.in_ok-push_expression-2.ensures)

pub push_grouped-returns : goal.push_grouped-returns
push_grouped-returns t c = let e = members_of c.args.args.now in grind (arith, common_steps)

pub push_bracketed-returns : goal.push_bracketed-returns
push_bracketed-returns t c = let e = members_of c.args.args.now in grind (arith, common_steps)

pub push_operand-returns : goal.push_operand-returns
push_operand-returns t c = let e = members_of c.args.args.now in grind (arith, common_steps)

pub push_beginning-returns-in-Str-clause-text : goal.push_beginning-returns-in-Str-clause-text
push_beginning-returns-in-Str-clause-text t c = all-written c.push_text.result _ _ _ _ _
    (let e = print-Str c.in-Str.parts c.args.inside in cc) c.push_text.ensures

pub push_beginning-returns-in-Array-clause-text : goal.push_beginning-returns-in-Array-clause-text
push_beginning-returns-in-Array-clause-text t c = all-written c.push_bracketed.result _ _ _ _ _
    (let e = print-Array c.in-Array.items c.args.inside in cc) c.push_bracketed.ensures

pub push_beginning-returns-in-Hash-clause-text : goal.push_beginning-returns-in-Hash-clause-text
push_beginning-returns-in-Hash-clause-text t c = all-written c.push_hash.result _ _ _ _ _
    (let e = print-Hash c.in-Hash.pairs c.args.inside in cc) c.push_hash.ensures

pub push_beginning-returns-in-Sym-clause-text : goal.push_beginning-returns-in-Sym-clause-text
push_beginning-returns-in-Sym-clause-text t c = all-written c.push_symbol.result _ _ _ _ _
    (let e = print-Sym c.in-Sym.name c.args.inside in cc) c.push_symbol.ensures

pub push_beginning-returns-in-Local-clause-text : goal.push_beginning-returns-in-Local-clause-text
push_beginning-returns-in-Local-clause-text t c = let e = print-Local c.in-Local.name c.args.inside in
    grind (arith, common_steps)

pub push_beginning-returns-in-Ivar-clause-text : goal.push_beginning-returns-in-Ivar-clause-text
push_beginning-returns-in-Ivar-clause-text t c = all-written c.push_ivar.result _ _ _ _ _
    (let e = print-Ivar c.in-Ivar.name c.args.inside in cc) c.push_ivar.ensures

pub push_beginning-returns-in-Const-clause-text : goal.push_beginning-returns-in-Const-clause-text
push_beginning-returns-in-Const-clause-text t c = all-written c.push_constant.result _ _ _ _ _
    (let e = print-Const c.in-Const.constant c.args.inside in cc) c.push_constant.ensures

pub push_beginning-returns-in-None-clause-text : goal.push_beginning-returns-in-None-clause-text
push_beginning-returns-in-None-clause-text t c =
    whole-own c.push_own.result _ _ _ _ _ _ _ _ _ c.in-Call.is c.in-None.is c.as_slice-in-None.ensures
    c.push_own.ensures

pub push_beginning-returns-in-Some-clause-text : goal.push_beginning-returns-in-Some-clause-text
push_beginning-returns-in-Some-clause-text t c =
    begun-call c.begin_call.result _ _ _ _ _ _ _ _ _ _ _ c.in-Call.is (c.in-Some.is ∙ ap Some (sym c.get.ensures))
    c.as_slice-in-Some.ensures c.begin_call.ensures.written c.begin_call.ensures.text

pub push_beginning-returns-in-Not-clause-text : goal.push_beginning-returns-in-Not-clause-text
push_beginning-returns-in-Not-clause-text t c =
    begun-Not c.begin_last.result _ _ _ _ _ _ _ _ c.in-Not.is c.get-in-Not.ensures c.begin_last.ensures.written
    c.begin_last.ensures.text

pub push_beginning-returns-in-And-clause-text : goal.push_beginning-returns-in-And-clause-text
push_beginning-returns-in-And-clause-text t c =
    begun-And c.begin_both.result _ _ _ _ _ _ _ _ _ _ c.in-And.is c.get-in-And.ensures c.get-in-And-2.ensures
    c.begin_both.ensures.written c.begin_both.ensures.text

pub push_beginning-returns-in-Or-clause-text : goal.push_beginning-returns-in-Or-clause-text
push_beginning-returns-in-Or-clause-text t c =
    begun-Or c.begin_both-in-Or.result _ _ _ _ _ _ _ _ _ _ c.in-Or.is c.get-in-Or.ensures c.get-in-Or-2.ensures
    c.begin_both-in-Or.ensures.written c.begin_both-in-Or.ensures.text

pub push_beginning-returns-in-Choose-clause-text : goal.push_beginning-returns-in-Choose-clause-text
push_beginning-returns-in-Choose-clause-text t c =
    begun-Choose c.begin_choice.result _ _ _ _ _ _ _ _ _ _ _ _ c.in-Choose.is c.get-in-Choose.ensures
    c.get-in-Choose-2.ensures c.get-in-Choose-3.ensures c.begin_choice.ensures.written c.begin_choice.ensures.text

pub push_expression-push_piece-requires : goal.push_expression-push_piece-requires
push_expression-push_piece-requires t c = let f = fits-pop _ _ _ _ c.in-Some.ensures.items c.pieces.invariant.1 in
    (omega (arith, f, c.decreases), tt)

pub push_expression-pieces-smaller : goal.push_expression-pieces-smaller
push_expression-pieces-smaller t c = steps-pop _ _ _ _ c.in-Some.ensures.items c.in_ok-push_piece.ensures.steps

pub push_expression-pieces-preserved : goal.push_expression-pieces-preserved
push_expression-pieces-preserved t c = (
  text-pop c.args.written.now.items (expression c.args.expr.now c.args.inside) c.pieces.written.items
      c.push_piece.new.written.items _ _ c.push_piece.new.pending.items _ c.in-Some.ensures.items
      c.pieces.invariant.0 c.in_ok-push_piece.ensures.text,
  depth-pop _ _ _ _ _ c.in-Some.ensures.items c.pieces.invariant.1 c.in_ok-push_piece.ensures.depth,
)

pub push_piece-returns-in-Operator-clause-text : goal.push_piece-returns-in-Operator-clause-text
push_piece-returns-in-Operator-clause-text t c =
    begun-operator c.push_operator.result _ _ _ _ _ _ _ _ c.in-Operator.is c.push_operator.ensures.written
    c.push_operator.ensures.text
