-- The nodes of the table as levels of what code means.
use Rattle.std.specs.Prelude.{ℤ}
use Rattle.ruby_types.specs.declared.tree.ConstRef.{ConstRef}
use Rattle.std.proofs.Common.{◌≡◌, ℕ, Bool, List, [], ◌∷◌, map, Option, Some, None, refl, sym, ap, ◌∙◌}
use Rattle.ruby_types.specs.declared.tree.Expr.{Expr, out-Expr, fold_out-Expr, map-Expr}
use Rattle.ruby_types.specs.declared.tree.Expr.TheVariants as expr
use Rattle.ruby_types.specs.declared.tree.Expr.TheOpen as e
use Rattle.ruby_types.specs.declared.tree.Part.{Part, out-Part, fold_out-Part, map-Part}
use Rattle.ruby_types.specs.declared.tree.Part.TheVariants as part
use Rattle.ruby_types.specs.declared.tree.Stmt.{Stmt, out-Stmt, fold_out-Stmt, map-Stmt}
use Rattle.ruby_types.specs.declared.tree.Stmt.TheVariants as stmt
use Rattle.ruby_types.specs.declared.tree.Stmt.TheOpen as s
use Rattle.program_places.specs.Places.{Index}
use Rattle.ruby_runs.specs.Doing.{Here}
use Rattle.ruby_runs.specs.Bodies.{Eval, Exec, PartEval, expr_layer, part_layer, eval, exec, stmt_layer}
use Rattle.ruby_nodes.specs.Entries.{Entry, entry_at, entry_of}
use Rattle.ruby_nodes.specs.declared.table.Node.{Node}
use Rattle.ruby_nodes.specs.declared.table.Node.TheVariants as nd
use Rattle.ruby_machine_names.specs.Profile.{profile}
use Rattle.ruby_machine_frames.specs.Rest.{calls, eval_of, evals, part_of, execs, arms_at, pairs_at}

module _ (index : Index) (known : List Entry) (left : ℕ) (here : Here) where
  abbrev of_expr : Expr → Eval
  of_expr = eval_of index known left here

  abbrev ev : ℕ → Eval
  ev i = evals index known left here i

  abbrev one_level : e.Expr-F Eval PartEval → Eval
  one_level = expr_layer index profile (calls index known left) here

  abbrev level : e.Expr-F Expr Part → Eval
  level x = one_level (map-Expr Expr Part Eval PartEval of_expr (part_of index known left here) x)

  out : (x : Expr) → of_expr x ≡ level (out-Expr x)
  out x = fold_out-Expr Eval PartEval (expr_layer index profile (calls index known left) here) (part_layer index
      profile) x

  -- what a node does as an expression, by what its children do
  abbrev pub layer_of : Node → Eval
  layer_of nd.True = one_level e.True
  layer_of nd.False = one_level e.False
  layer_of nd.SelfRef = one_level e.SelfRef
  layer_of (nd.Int n) = one_level (e.Int n)
  layer_of (nd.Str first) = one_level (e.Str (map (part_of index known left here) (entry_at known first).parts))
  layer_of (nd.Sym name) = one_level (e.Sym name)
  layer_of (nd.Local name) = one_level (e.Local name)
  layer_of (nd.Ivar name) = one_level (e.Ivar name)
  layer_of (nd.Const constant) = one_level (e.Const constant)
  layer_of (nd.Array first) = one_level (e.Array (map of_expr (entry_at known first).items))
  layer_of (nd.Hash first) = one_level (e.Hash (pairs_at index known left here first))
  layer_of (nd.OwnCall name first) = one_level (e.Call None name (map of_expr (entry_at known first).items))
  layer_of (nd.Call on name first) = one_level (e.Call (Some (ev on)) name (map of_expr (entry_at known first).items))
  layer_of (nd.Not a) = one_level (e.Not (ev a))
  layer_of (nd.And a b) = one_level (e.And (ev a) (ev b))
  layer_of (nd.Or a b) = one_level (e.Or (ev a) (ev b))
  layer_of (nd.Choose a b c) = one_level (e.Choose (ev a) (ev b) (ev c))
  layer_of _ = one_level e.Nil

  nil : of_expr expr.Nil ≡ one_level e.Nil
  nil = out _ ∙ ap level expr.outs-Nil

  -- a node does what its level does
  pub eval_of_node : (n : Node) → of_expr (entry_of known n).expr ≡ layer_of n
  eval_of_node nd.Nil = nil
  eval_of_node nd.True = out _ ∙ ap level expr.outs-True
  eval_of_node nd.False = out _ ∙ ap level expr.outs-False
  eval_of_node nd.SelfRef = out _ ∙ ap level expr.outs-SelfRef
  eval_of_node (nd.Int n) = out _ ∙ ap level (expr.outs-Int n)
  eval_of_node (nd.Str first) = out _ ∙ ap level (expr.outs-Str (entry_at known first).parts)
  eval_of_node (nd.Sym name) = out _ ∙ ap level (expr.outs-Sym name)
  eval_of_node (nd.Local name) = out _ ∙ ap level (expr.outs-Local name)
  eval_of_node (nd.Ivar name) = out _ ∙ ap level (expr.outs-Ivar name)
  eval_of_node (nd.Const constant) = out _ ∙ ap level (expr.outs-Const constant)
  eval_of_node (nd.Array first) = out _ ∙ ap level (expr.outs-Array (entry_at known first).items)
  eval_of_node (nd.Hash first) = out _ ∙ ap level (expr.outs-Hash (entry_at known first).pairs)
  eval_of_node (nd.OwnCall name first) = out _ ∙ ap level (expr.outs-Call None name (entry_at known first).items)
  eval_of_node (nd.Call on name first) =
      out _ ∙ ap level (expr.outs-Call (Some (entry_at known on).expr) name (entry_at known first).items)
  eval_of_node (nd.Not a) = out _ ∙ ap level (expr.outs-Not (entry_at known a).expr)
  eval_of_node (nd.And a b) = out _ ∙ ap level (expr.outs-And (entry_at known a).expr (entry_at known b).expr)
  eval_of_node (nd.Or a b) = out _ ∙ ap level (expr.outs-Or (entry_at known a).expr (entry_at known b).expr)
  eval_of_node (nd.Choose a b c) =
      out _ ∙ ap level (expr.outs-Choose (entry_at known a).expr (entry_at known b).expr (entry_at known c).expr)
  eval_of_node (nd.Item x y) = nil
  eval_of_node (nd.Pair x y z) = nil
  eval_of_node (nd.Plain bytes x) = nil
  eval_of_node (nd.Inside x y) = nil
  eval_of_node (nd.Expr x y) = nil
  eval_of_node (nd.Set name x y) = nil
  eval_of_node (nd.SetIvar name x y) = nil
  eval_of_node (nd.Return x y) = nil
  eval_of_node (nd.ReturnNil x) = nil
  eval_of_node (nd.Raise x y) = nil
  eval_of_node (nd.If x y a z) = nil
  eval_of_node (nd.Arm x y z) = nil
  eval_of_node nd.End = nil

  -- what the expression of a number does
  pub evals_are : (at : ℕ) (n l : Node) → entry_at known at ≡ entry_of known n → n ≡ l → ev at ≡ layer_of l
  evals_are at n l stands is = ap (λ x. of_expr x.expr) stands ∙ (eval_of_node n ∙ ap layer_of is)

  -- what is no node is nil
  pub evals_none : (at : ℕ) → (entry_at known at).expr ≡ expr.Nil → ev at ≡ one_level e.Nil
  evals_none at is = ap of_expr is ∙ nil

  abbrev of_stmt : Stmt → Exec
  of_stmt = exec index profile (calls index known left) here

  abbrev one_stmt : s.Stmt-F Exec → Exec
  one_stmt = stmt_layer index profile (calls index known left) here

  abbrev stmt_level : s.Stmt-F Stmt → Exec
  stmt_level x = one_stmt (map-Stmt Stmt Exec of_stmt x)

  stmt_out : (x : Stmt) → of_stmt x ≡ stmt_level (out-Stmt x)
  stmt_out x = fold_out-Stmt Exec (stmt_layer index profile (calls index known left) here) x

  -- the statements from a node on, by what its children do
  abbrev pub steps_of : Node → List Exec
  steps_of (nd.Expr x next) = one_stmt (s.Expr (entry_at known x).expr) ∷ execs index known left here next
  steps_of (nd.Set name x next) = one_stmt (s.Set name (entry_at known x).expr) ∷ execs index known left here next
  steps_of (nd.SetIvar name x next) =
      one_stmt (s.SetIvar name (entry_at known x).expr) ∷ execs index known left here next
  steps_of (nd.Return x next) = one_stmt (s.Return (Some (entry_at known x).expr)) ∷ execs index known left here next
  steps_of (nd.ReturnNil next) = one_stmt (s.Return None) ∷ execs index known left here next
  steps_of (nd.Raise x next) = one_stmt (s.Raise (entry_at known x).expr) ∷ execs index known left here next
  steps_of (nd.If arms other after next) =
      one_stmt (s.If (arms_at index known left here arms) (execs index known left here other) after)
      ∷ execs index known left here next
  steps_of _ = []

  abbrev then : ℕ → Exec → List Exec
  then next x = x ∷ execs index known left here next

  -- statements from a node on do what its level and those behind do
  pub execs_of_node : (n : Node) → map of_stmt (entry_of known n).body ≡ steps_of n
  execs_of_node (nd.Expr x next) =
      ap (then next) (stmt_out _ ∙ ap stmt_level (stmt.outs-Expr (entry_at known x).expr))
  execs_of_node (nd.Set name x next) =
      ap (then next) (stmt_out _ ∙ ap stmt_level (stmt.outs-Set name (entry_at known x).expr))
  execs_of_node (nd.SetIvar name x next) =
      ap (then next) (stmt_out _ ∙ ap stmt_level (stmt.outs-SetIvar name (entry_at known x).expr))
  execs_of_node (nd.Return x next) =
      ap (then next) (stmt_out _ ∙ ap stmt_level (stmt.outs-Return (Some (entry_at known x).expr)))
  execs_of_node (nd.ReturnNil next) = ap (then next) (stmt_out _ ∙ ap stmt_level (stmt.outs-Return None))
  execs_of_node (nd.Raise x next) =
      ap (then next) (stmt_out _ ∙ ap stmt_level (stmt.outs-Raise (entry_at known x).expr))
  execs_of_node (nd.If arms other after next) =
      ap (then next) (stmt_out _ ∙ ap stmt_level (stmt.outs-If (entry_at known arms).arms (entry_at known other).body
      after))
  execs_of_node nd.Nil = refl
  execs_of_node nd.True = refl
  execs_of_node nd.False = refl
  execs_of_node nd.SelfRef = refl
  execs_of_node (nd.Int n) = refl
  execs_of_node (nd.Str x) = refl
  execs_of_node (nd.Sym name) = refl
  execs_of_node (nd.Local name) = refl
  execs_of_node (nd.Ivar name) = refl
  execs_of_node (nd.Const constant) = refl
  execs_of_node (nd.Array x) = refl
  execs_of_node (nd.Hash x) = refl
  execs_of_node (nd.OwnCall name x) = refl
  execs_of_node (nd.Call x name y) = refl
  execs_of_node (nd.Not x) = refl
  execs_of_node (nd.And x y) = refl
  execs_of_node (nd.Or x y) = refl
  execs_of_node (nd.Choose x y z) = refl
  execs_of_node (nd.Item x y) = refl
  execs_of_node (nd.Pair x y z) = refl
  execs_of_node (nd.Plain bytes x) = refl
  execs_of_node (nd.Inside x y) = refl
  execs_of_node (nd.Arm x y z) = refl
  execs_of_node nd.End = refl

  -- the statements of a number
  pub execs_are : (at : ℕ) (n l : Node) → entry_at known at ≡ entry_of known n → n ≡ l →
      execs index known left here at ≡ steps_of l
  execs_are at n l stands is = ap (λ x. map of_stmt x.body) stands ∙ (execs_of_node n ∙ ap steps_of is)

  abbrev of_part : Part → PartEval
  of_part = part_of index known left here

  abbrev one_part : e.Part-F Eval PartEval → PartEval
  one_part = part_layer index profile

  abbrev part_level : e.Part-F Expr Part → PartEval
  part_level x = one_part (map-Part Expr Part Eval PartEval of_expr of_part x)

  part_out : (x : Part) → of_part x ≡ part_level (out-Part x)
  part_out x =
      fold_out-Part Eval PartEval (expr_layer index profile (calls index known left) here) (part_layer index profile) x

  -- a plain part of a text
  pub plain_part : (bytes : List ℕ) → of_part (part.Plain bytes) ≡ one_part (e.Plain bytes)
  plain_part bytes = part_out _ ∙ ap part_level (part.outs-Plain bytes)

  -- an inside part of a text
  pub inside_part : (x : Expr) → of_part (part.Inside x) ≡ one_part (e.Inside (of_expr x))
  inside_part x = part_out _ ∙ ap part_level (part.outs-Inside x)

  -- a node that is no expression does what nil does
  pub not_expr : (node : Node) → (node ≡ nd.True → ⊥) →
      (node ≡ nd.False → ⊥) →
      ((n : ℤ) → node ≡ nd.Int n → ⊥) →
      ((a : List ℕ) → node ≡ nd.Sym a → ⊥) →
      (node ≡ nd.SelfRef → ⊥) →
      ((a : List ℕ) → node ≡ nd.Local a → ⊥) →
      ((a : List ℕ) → node ≡ nd.Ivar a → ⊥) →
      ((q : ConstRef) → node ≡ nd.Const q → ⊥) →
      ((x : ℕ) → node ≡ nd.Not x → ⊥) →
      ((x : ℕ) (y : ℕ) → node ≡ nd.And x y → ⊥) →
      ((x : ℕ) (y : ℕ) → node ≡ nd.Or x y → ⊥) →
      ((x : ℕ) (y : ℕ) (z : ℕ) → node ≡ nd.Choose x y z → ⊥) →
      ((x : ℕ) → node ≡ nd.Str x → ⊥) →
      ((x : ℕ) → node ≡ nd.Array x → ⊥) →
      ((x : ℕ) → node ≡ nd.Hash x → ⊥) →
      ((x : ℕ) (a : List ℕ) (y : ℕ) → node ≡ nd.Call x a y → ⊥) →
      ((a : List ℕ) (x : ℕ) → node ≡ nd.OwnCall a x → ⊥) →
      layer_of node ≡ one_level e.Nil
  not_expr nd.Nil f0 f1 f2 f3 f4 f5 f6 f7 f8 f9 f10 f11 f12 f13 f14 f15 f16 = refl
  not_expr nd.True f0 f1 f2 f3 f4 f5 f6 f7 f8 f9 f10 f11 f12 f13 f14 f15 f16 = absurd (f0 refl)
  not_expr nd.False f0 f1 f2 f3 f4 f5 f6 f7 f8 f9 f10 f11 f12 f13 f14 f15 f16 = absurd (f1 refl)
  not_expr nd.SelfRef f0 f1 f2 f3 f4 f5 f6 f7 f8 f9 f10 f11 f12 f13 f14 f15 f16 = absurd (f4 refl)
  not_expr (nd.Int n) f0 f1 f2 f3 f4 f5 f6 f7 f8 f9 f10 f11 f12 f13 f14 f15 f16 = absurd (f2 n refl)
  not_expr (nd.Str x) f0 f1 f2 f3 f4 f5 f6 f7 f8 f9 f10 f11 f12 f13 f14 f15 f16 = absurd (f12 x refl)
  not_expr (nd.Sym a) f0 f1 f2 f3 f4 f5 f6 f7 f8 f9 f10 f11 f12 f13 f14 f15 f16 = absurd (f3 a refl)
  not_expr (nd.Local a) f0 f1 f2 f3 f4 f5 f6 f7 f8 f9 f10 f11 f12 f13 f14 f15 f16 = absurd (f5 a refl)
  not_expr (nd.Ivar a) f0 f1 f2 f3 f4 f5 f6 f7 f8 f9 f10 f11 f12 f13 f14 f15 f16 = absurd (f6 a refl)
  not_expr (nd.Const q) f0 f1 f2 f3 f4 f5 f6 f7 f8 f9 f10 f11 f12 f13 f14 f15 f16 = absurd (f7 q refl)
  not_expr (nd.Array x) f0 f1 f2 f3 f4 f5 f6 f7 f8 f9 f10 f11 f12 f13 f14 f15 f16 = absurd (f13 x refl)
  not_expr (nd.Hash x) f0 f1 f2 f3 f4 f5 f6 f7 f8 f9 f10 f11 f12 f13 f14 f15 f16 = absurd (f14 x refl)
  not_expr (nd.OwnCall a x) f0 f1 f2 f3 f4 f5 f6 f7 f8 f9 f10 f11 f12 f13 f14 f15 f16 = absurd (f16 a x refl)
  not_expr (nd.Call x a y) f0 f1 f2 f3 f4 f5 f6 f7 f8 f9 f10 f11 f12 f13 f14 f15 f16 = absurd (f15 x a y refl)
  not_expr (nd.Not x) f0 f1 f2 f3 f4 f5 f6 f7 f8 f9 f10 f11 f12 f13 f14 f15 f16 = absurd (f8 x refl)
  not_expr (nd.And x y) f0 f1 f2 f3 f4 f5 f6 f7 f8 f9 f10 f11 f12 f13 f14 f15 f16 = absurd (f9 x y refl)
  not_expr (nd.Or x y) f0 f1 f2 f3 f4 f5 f6 f7 f8 f9 f10 f11 f12 f13 f14 f15 f16 = absurd (f10 x y refl)
  not_expr (nd.Choose x y z) f0 f1 f2 f3 f4 f5 f6 f7 f8 f9 f10 f11 f12 f13 f14 f15 f16 = absurd (f11 x y z refl)
  not_expr (nd.Item x y) f0 f1 f2 f3 f4 f5 f6 f7 f8 f9 f10 f11 f12 f13 f14 f15 f16 = refl
  not_expr (nd.Pair x y z) f0 f1 f2 f3 f4 f5 f6 f7 f8 f9 f10 f11 f12 f13 f14 f15 f16 = refl
  not_expr (nd.Plain a x) f0 f1 f2 f3 f4 f5 f6 f7 f8 f9 f10 f11 f12 f13 f14 f15 f16 = refl
  not_expr (nd.Inside x y) f0 f1 f2 f3 f4 f5 f6 f7 f8 f9 f10 f11 f12 f13 f14 f15 f16 = refl
  not_expr (nd.Expr x y) f0 f1 f2 f3 f4 f5 f6 f7 f8 f9 f10 f11 f12 f13 f14 f15 f16 = refl
  not_expr (nd.Set a x y) f0 f1 f2 f3 f4 f5 f6 f7 f8 f9 f10 f11 f12 f13 f14 f15 f16 = refl
  not_expr (nd.SetIvar a x y) f0 f1 f2 f3 f4 f5 f6 f7 f8 f9 f10 f11 f12 f13 f14 f15 f16 = refl
  not_expr (nd.Return x y) f0 f1 f2 f3 f4 f5 f6 f7 f8 f9 f10 f11 f12 f13 f14 f15 f16 = refl
  not_expr (nd.ReturnNil x) f0 f1 f2 f3 f4 f5 f6 f7 f8 f9 f10 f11 f12 f13 f14 f15 f16 = refl
  not_expr (nd.Raise x y) f0 f1 f2 f3 f4 f5 f6 f7 f8 f9 f10 f11 f12 f13 f14 f15 f16 = refl
  not_expr (nd.If x y b z) f0 f1 f2 f3 f4 f5 f6 f7 f8 f9 f10 f11 f12 f13 f14 f15 f16 = refl
  not_expr (nd.Arm x y z) f0 f1 f2 f3 f4 f5 f6 f7 f8 f9 f10 f11 f12 f13 f14 f15 f16 = refl
  not_expr nd.End f0 f1 f2 f3 f4 f5 f6 f7 f8 f9 f10 f11 f12 f13 f14 f15 f16 = refl

  -- a node that is no statement ends them
  pub not_stmt : (node : Node) → ((x : ℕ) (y : ℕ) → node ≡ nd.Expr x y → ⊥) →
      ((a : List ℕ) (x : ℕ) (y : ℕ) → node ≡ nd.Set a x y → ⊥) →
      ((a : List ℕ) (x : ℕ) (y : ℕ) → node ≡ nd.SetIvar a x y → ⊥) →
      ((x : ℕ) (y : ℕ) → node ≡ nd.Return x y → ⊥) →
      ((x : ℕ) → node ≡ nd.ReturnNil x → ⊥) →
      ((x : ℕ) (y : ℕ) → node ≡ nd.Raise x y → ⊥) →
      ((x : ℕ) (y : ℕ) (b : Bool) (z : ℕ) → node ≡ nd.If x y b z → ⊥) →
      steps_of node ≡ []
  not_stmt nd.Nil f0 f1 f2 f3 f4 f5 f6 = refl
  not_stmt nd.True f0 f1 f2 f3 f4 f5 f6 = refl
  not_stmt nd.False f0 f1 f2 f3 f4 f5 f6 = refl
  not_stmt nd.SelfRef f0 f1 f2 f3 f4 f5 f6 = refl
  not_stmt (nd.Int n) f0 f1 f2 f3 f4 f5 f6 = refl
  not_stmt (nd.Str x) f0 f1 f2 f3 f4 f5 f6 = refl
  not_stmt (nd.Sym a) f0 f1 f2 f3 f4 f5 f6 = refl
  not_stmt (nd.Local a) f0 f1 f2 f3 f4 f5 f6 = refl
  not_stmt (nd.Ivar a) f0 f1 f2 f3 f4 f5 f6 = refl
  not_stmt (nd.Const q) f0 f1 f2 f3 f4 f5 f6 = refl
  not_stmt (nd.Array x) f0 f1 f2 f3 f4 f5 f6 = refl
  not_stmt (nd.Hash x) f0 f1 f2 f3 f4 f5 f6 = refl
  not_stmt (nd.OwnCall a x) f0 f1 f2 f3 f4 f5 f6 = refl
  not_stmt (nd.Call x a y) f0 f1 f2 f3 f4 f5 f6 = refl
  not_stmt (nd.Not x) f0 f1 f2 f3 f4 f5 f6 = refl
  not_stmt (nd.And x y) f0 f1 f2 f3 f4 f5 f6 = refl
  not_stmt (nd.Or x y) f0 f1 f2 f3 f4 f5 f6 = refl
  not_stmt (nd.Choose x y z) f0 f1 f2 f3 f4 f5 f6 = refl
  not_stmt (nd.Item x y) f0 f1 f2 f3 f4 f5 f6 = refl
  not_stmt (nd.Pair x y z) f0 f1 f2 f3 f4 f5 f6 = refl
  not_stmt (nd.Plain a x) f0 f1 f2 f3 f4 f5 f6 = refl
  not_stmt (nd.Inside x y) f0 f1 f2 f3 f4 f5 f6 = refl
  not_stmt (nd.Expr x y) f0 f1 f2 f3 f4 f5 f6 = absurd (f0 x y refl)
  not_stmt (nd.Set a x y) f0 f1 f2 f3 f4 f5 f6 = absurd (f1 a x y refl)
  not_stmt (nd.SetIvar a x y) f0 f1 f2 f3 f4 f5 f6 = absurd (f2 a x y refl)
  not_stmt (nd.Return x y) f0 f1 f2 f3 f4 f5 f6 = absurd (f3 x y refl)
  not_stmt (nd.ReturnNil x) f0 f1 f2 f3 f4 f5 f6 = absurd (f4 x refl)
  not_stmt (nd.Raise x y) f0 f1 f2 f3 f4 f5 f6 = absurd (f5 x y refl)
  not_stmt (nd.If x y b z) f0 f1 f2 f3 f4 f5 f6 = absurd (f6 x y b z refl)
  not_stmt (nd.Arm x y z) f0 f1 f2 f3 f4 f5 f6 = refl
  not_stmt nd.End f0 f1 f2 f3 f4 f5 f6 = refl
