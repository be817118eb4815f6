-- What an expression or statement of a kind does, by what stands in it.
use Rattle.std.proofs.Common.{◌≡◌, ap, ◌∙◌}
use Rattle.ruby_types.specs.declared.tree.ConstRef.{ConstRef}
use Rattle.ruby_types.specs.declared.tree.Expr.{Expr, fold_out-Expr, map-Expr}
use Rattle.ruby_types.specs.declared.tree.Expr.TheVariants as expr
use Rattle.ruby_types.specs.declared.tree.Expr.TheOpen as e
use Rattle.ruby_types.specs.declared.tree.Part.{Part, fold-Part}
use Rattle.ruby_types.specs.declared.tree.Stmt.{Stmt, fold_out-Stmt, map-Stmt}
use Rattle.ruby_types.specs.declared.tree.Stmt.TheVariants as stmt
use Rattle.ruby_types.specs.declared.tree.Stmt.TheOpen as s
use Rattle.program_places.specs.Places.{Index}
use Rattle.ruby_runs.specs.Doing.{Here}
use Rattle.ruby_runs.specs.BuiltIns.{BuiltIns}
use Rattle.ruby_runs.specs.Bodies.{Call, Eval, Exec, PartEval, expr_layer, part_layer, eval, stmt_layer, exec}

module _ (index : Index) (rows : BuiltIns) (call : Call) (here : Here) where
  abbrev part : Part → PartEval
  part = fold-Part Eval PartEval (expr_layer index rows call here) (part_layer index rows)

  -- a constant as it is written
  pub eval_of_const : (ref : ConstRef) →
      eval index rows call here (expr.Const ref) ≡ expr_layer index rows call here (e.Const ref)
  eval_of_const ref =
      fold_out-Expr Eval PartEval (expr_layer index rows call here) (part_layer index rows) (expr.Const ref)
      ∙ ap (λ x. expr_layer index rows call here (map-Expr Expr Part Eval PartEval (eval index rows call here) part x))
      (expr.outs-Const ref)

  -- a statement that is an expression
  pub exec_of_expr : (x : Expr) →
      exec index rows call here (stmt.Expr x) ≡ stmt_layer index rows call here (s.Expr x)
  exec_of_expr x = fold_out-Stmt Exec (stmt_layer index rows call here) (stmt.Expr x)
      ∙ ap (λ y. stmt_layer index rows call here (map-Stmt Stmt Exec (exec index rows call here) y)) (stmt.outs-Expr x)
