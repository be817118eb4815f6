-- Expressions, statements and calls ask only for tasks of an index.
use Rattle.std.proofs.Common.{ℕ, zero, suc, Bool, true, false, not, List, [], ◌∷◌, ◌++◌, length, map, Option, Some}
use Rattle.std.proofs.Common.{None, subst, codes, ◌==◌, bytes_eq, ◌&&◌}
use Rattle.std.specs.Prelude.{◌-◌, ◌/◌, ◌||◌, drop}
use Rattle.std.specs.Fmt.{decimal}
use Rattle.ruby_types.specs.Size.{size}
use Rattle.ruby_types.specs.declared.tree.ConstRef.{ConstRef}
use Rattle.ruby_types.specs.declared.tree.Expr.{Expr, map-Expr, roll-Expr, fold-roll-Expr, ind-Expr}
use Rattle.ruby_types.specs.declared.tree.Part.{Part, fold-Part, map-Part, roll-Part, fold-roll-Part}
use Rattle.ruby_types.specs.declared.tree.Expr.TheOpen.{Expr-F, Part-F}
use Rattle.ruby_types.specs.declared.tree.Expr.TheOpen as e
use Rattle.ruby_types.specs.declared.tree.Stmt.{Stmt, map-Stmt, roll-Stmt, fold-roll-Stmt, ind-Stmt}
use Rattle.ruby_types.specs.declared.tree.Stmt.TheOpen.{Stmt-F}
use Rattle.ruby_types.specs.declared.tree.Stmt.TheOpen as s
use Rattle.ruby_types.specs.declared.value.Value.{Value, Value-F, out-Value}
use Rattle.ruby_types.specs.declared.value.Value.TheOpen as layer
use Rattle.ruby_types.specs.declared.value.Value.TheVariants.{Nil, True, False, Int, Str, Sym, Array, Hash, Object}
use Rattle.ruby_types.specs.declared.request.ErrorClass.TheVariants as class
use Rattle.ruby_builtin_base.specs.declared.called.Called.{Called}
use Rattle.ruby_builtin_base.specs.declared.called.Called.TheVariants as called
use Rattle.ruby_builtin_base.specs.Answers.{wrong_count_text}
use Rattle.ruby_builtin_keys.specs.Merging.{put}
use Rattle.program_places.specs.Paths.{Name, Path}
use Rattle.program_places.specs.Places.{Index, Place, Missing, Implicit, Owned, Faulty, Assigned, Opened, Method}
use Rattle.program_places.specs.Places.{Body, Statements, Reads}
use Rattle.ruby_runs.specs.Doing.{Doing, Here, ◌>>◌, turn, pay}
use Rattle.ruby_runs.specs.BuiltIns.{BuiltIns, is_truthy, built_in_call, ended_call, made}
use Rattle.ruby_runs.specs.Names.{ancestors, resolved}
use Rattle.ruby_runs.specs.Bodies.{State, Flow, GoesOn, Returns, Eval, Exec, PartEval, Call, local_of, with_local}
use Rattle.ruby_runs.specs.Bodies.{boolean, ivar_of, with_ivar, all_of, all_pairs, whole_text, text_end, receiver}
use Rattle.ruby_runs.specs.Bodies.{flow_on, in_order, left_by, find_method, first_found, singleton_of_class}
use Rattle.ruby_runs.specs.Bodies.{instance_of, is_class_at, bound, here_of, expr_layer, part_layer, eval}
use Rattle.ruby_runs.specs.Bodies.{raised_layer, arms_of, return_value, arm_of, stmt_layer, exec, body_of, enter}
use Rattle.ruby_runs.specs.Bodies.{invoke, singleton_in, singleton_at, singleton, instance_in, instance}
use Rattle.ruby_runs.specs.Bodies.{initialized, makes_new, method_or, new_or_built_in, call_layer, call_in, call_at}
use Rattle.ruby_runs.specs.Bodies.{frames_of}
use Rattle.program_places.specs.Tasks.{HasTasks}
use Rattle.ruby_runs.specs.Asked.{Bounds}
use Rattle.ruby_runs.proofs.Within.{StaysWithin, pure_stays_within, bind_stays_within, then_stays_within}
use Rattle.ruby_runs.proofs.Within.{fail_stays_within, turn_stays_within, pay_stays_within, either_stays_within}
use Rattle.ruby_runs.proofs.Names.{ancestors_stays_within, resolved_stays_within}

module _ (index : Index) (rows : BuiltIns) (may : Bounds) (has : HasTasks index may.task) where
  ended_call_stays_within : (here : Here) (on : Value) (name : Name) (answer : Called) →
      StaysWithin may (ended_call here on name answer)
  ended_call_stays_within here on name (called.Value value cost) turns go h = h value (turns - cost)
  ended_call_stays_within here on name (called.Raised error) turns go h = tt
  ended_call_stays_within here on name called.NoMethod turns go h = tt
  ended_call_stays_within here on name called.Memory turns go h = tt

  built_in_call_stays_within : (here : Here) (on : Value) (name : Name) (args : List Value) →
      StaysWithin may (built_in_call rows here on name args)
  built_in_call_stays_within here on name args turns go h =
      ended_call_stays_within here on name (rows.called turns on name args) turns go h

  -- making a value
  pub made_stays_within : (here : Here) (x : Value) → StaysWithin may (made here x)
  made_stays_within here x =
      then_stays_within may (pay here (size x / 16)) _ (pay_stays_within may here (size x / 16))
      (pure_stays_within may x)

  -- an expression that asks only for tasks
  abbrev pub EvalWithin : Eval → Type 0
  EvalWithin p = (state : State) → StaysWithin may (p state)

  -- a statement that does
  abbrev pub ExecWithin : Exec → Type 0
  ExecWithin p = (state : State) → StaysWithin may (p state)

  -- a part of a text that does
  abbrev pub PartWithin : PartEval → Type 0
  PartWithin p = (state : State) → StaysWithin may (p.bytes state)

  -- a call that does
  abbrev pub CallWithin : Call → Type 0
  CallWithin call =
      (here : Here) (on : Value) (name : Name) (args : List Value) → StaysWithin may (call here on name args)

  data AllWithin : List Eval → Type 0 where
    none : AllWithin []
    one : {p : Eval} {ps : List Eval} → EvalWithin p → AllWithin ps → AllWithin (p ∷ ps)

  data PairsWithin : List (Eval × Eval) → Type 0 where
    no_pair : PairsWithin []
    one_pair : {p : Eval × Eval} {ps : List (Eval × Eval)} → EvalWithin p.0 → EvalWithin p.1 → PairsWithin ps →
        PairsWithin (p ∷ ps)

  data PartsWithin : List PartEval → Type 0 where
    no_part : PartsWithin []
    one_part : {p : PartEval} {ps : List PartEval} → PartWithin p → PartsWithin ps → PartsWithin (p ∷ ps)

  data ReceiverWithin : Option Eval → Type 0 where
    absent : ReceiverWithin None
    present : {p : Eval} → EvalWithin p → ReceiverWithin (Some p)

  all_of_stays_within : {ps : List Eval} → AllWithin ps → (state : State) (done : List Value) →
      StaysWithin may (all_of ps state done)
  all_of_stays_within none state done = pure_stays_within may done
  all_of_stays_within (one {p} {ps} k more) state done =
      bind_stays_within may (p state) (λ x. all_of ps state (done ++ x ∷ [])) (k state)
      (λ x. all_of_stays_within more state (done ++ x ∷ []))

  all_pairs_stays_within : {ps : List (Eval × Eval)} → PairsWithin ps →
      (state : State) (done : List (Value × Value)) → StaysWithin may (all_pairs ps state done)
  all_pairs_stays_within no_pair state done = pure_stays_within may done
  all_pairs_stays_within (one_pair {p} {ps} k l more) state done =
      bind_stays_within may (p.0 state) _ (k state)
      (λ key. bind_stays_within may (p.1 state) (λ x. all_pairs ps state (put done (key, x))) (l state)
      (λ x. all_pairs_stays_within more state (put done (key, x))))

  text_end_stays_within : (here : Here) (inside : Bool) (bytes : List ℕ) →
      StaysWithin may (text_end here inside bytes)
  text_end_stays_within here inside bytes =
      either_stays_within may inside _ _ (made_stays_within here (Str bytes)) (pure_stays_within may (Str bytes))

  whole_text_stays_within : (here : Here) {ps : List PartEval} → PartsWithin ps →
      (state : State) (inside : Bool) (done : List ℕ) → StaysWithin may (whole_text here ps state inside done)
  whole_text_stays_within here no_part state inside done = text_end_stays_within here inside done
  whole_text_stays_within here (one_part {p} {ps} k more) state inside done =
      bind_stays_within may (p.bytes state)
      (λ bytes. whole_text here ps state (inside || p.inside) (done ++ bytes)) (k state)
      (λ bytes. whole_text_stays_within here more state (inside || p.inside) (done ++ bytes))

  receiver_stays_within : {p : Option Eval} → ReceiverWithin p → (state : State) →
      StaysWithin may (receiver p state)
  receiver_stays_within absent state = pure_stays_within may state.self
  receiver_stays_within (present k) state = k state

  data LayerWithin : Expr-F Eval PartEval → Type 0 where
    at_nil : LayerWithin e.Nil
    at_true : LayerWithin e.True
    at_false : LayerWithin e.False
    at_self : LayerWithin e.SelfRef
    at_int : {n : _} → LayerWithin (e.Int n)
    at_str : {ps : List PartEval} → PartsWithin ps → LayerWithin (e.Str ps)
    at_sym : {name : List ℕ} → LayerWithin (e.Sym name)
    at_local : {name : List ℕ} → LayerWithin (e.Local name)
    at_ivar : {name : List ℕ} → LayerWithin (e.Ivar name)
    at_const : {ref : ConstRef} → LayerWithin (e.Const ref)
    at_array : {ps : List Eval} → AllWithin ps → LayerWithin (e.Array ps)
    at_hash : {ps : List (Eval × Eval)} → PairsWithin ps → LayerWithin (e.Hash ps)
    at_call : {p : Option Eval} {name : List ℕ} {ps : List Eval} → ReceiverWithin p → AllWithin ps →
        LayerWithin (e.Call p name ps)
    at_not : {p : Eval} → EvalWithin p → LayerWithin (e.Not p)
    at_and : {p q : Eval} → EvalWithin p → EvalWithin q → LayerWithin (e.And p q)
    at_or : {p q : Eval} → EvalWithin p → EvalWithin q → LayerWithin (e.Or p q)
    at_choose : {p q r : Eval} → EvalWithin p → EvalWithin q → EvalWithin r → LayerWithin (e.Choose p q r)

  module _ (call : Call) (calls : CallWithin call) (here : Here) where
    after_turn : {A : Type 0} (p : Doing A) → StaysWithin may p → StaysWithin may (turn here >> p)
    after_turn p k = then_stays_within may (turn here) p (turn_stays_within may here) k

    expr_layer_stays_within : {x : Expr-F Eval PartEval} → LayerWithin x →
        EvalWithin (expr_layer index rows call here x)
    expr_layer_stays_within at_nil state = after_turn _ (pure_stays_within may Nil)
    expr_layer_stays_within at_true state = after_turn _ (pure_stays_within may True)
    expr_layer_stays_within at_false state = after_turn _ (pure_stays_within may False)
    expr_layer_stays_within at_self state = after_turn _ (pure_stays_within may state.self)
    expr_layer_stays_within (at_int {n}) state = after_turn _ (pure_stays_within may (Int n))
    expr_layer_stays_within (at_str {ps} k) state = after_turn _ (whole_text_stays_within here k state false [])
    expr_layer_stays_within (at_sym {name}) state = after_turn _ (pure_stays_within may (Sym name))
    expr_layer_stays_within (at_local {name}) state =
        after_turn _ (pure_stays_within may (local_of state.locals name))
    expr_layer_stays_within (at_ivar {name}) state = after_turn _ (pure_stays_within may (ivar_of state.self name))
    expr_layer_stays_within (at_const {ref}) state =
        bind_stays_within may (resolved index rows here true ref) _
        (resolved_stays_within index rows may has here true ref) (λ found. pure_stays_within may found.value)
    expr_layer_stays_within (at_array {ps} k) state =
        after_turn _ (bind_stays_within may (all_of ps state []) _ (all_of_stays_within k state [])
        (λ items. made_stays_within here (Array items)))
    expr_layer_stays_within (at_hash {ps} k) state =
        after_turn _ (bind_stays_within may (all_pairs ps state []) _ (all_pairs_stays_within k state [])
        (λ pairs. made_stays_within here (Hash pairs)))
    expr_layer_stays_within (at_call {p} {name} {ps} k l) state =
        after_turn _ (bind_stays_within may (receiver p state) _ (receiver_stays_within k state)
        (λ self. bind_stays_within may (all_of ps state []) _ (all_of_stays_within l state [])
        (λ args. calls here self name args)))
    expr_layer_stays_within (at_not {p} k) state =
        after_turn _ (bind_stays_within may (p state) _ (k state)
        (λ x. pure_stays_within may (boolean (not (is_truthy x)))))
    expr_layer_stays_within (at_and {p} {q} k l) state =
        after_turn _ (bind_stays_within may (p state) _ (k state)
        (λ x. either_stays_within may (is_truthy x) _ _ (l state) (pure_stays_within may x)))
    expr_layer_stays_within (at_or {p} {q} k l) state =
        after_turn _ (bind_stays_within may (p state) _ (k state)
        (λ x. either_stays_within may (is_truthy x) _ _ (pure_stays_within may x) (l state)))
    expr_layer_stays_within (at_choose {p} {q} {r} k l m) state =
        after_turn _ (bind_stays_within may (p state) _ (k state)
        (λ x. either_stays_within may (is_truthy x) _ _ (l state) (m state)))

    abbrev PartOf : Part → PartEval
    PartOf = fold-Part Eval PartEval (expr_layer index rows call here) (part_layer index rows)

    abbrev Held : Type 0
    Held = (x : Expr) × EvalWithin (eval index rows call here x)

    abbrev HeldPart : Type 0
    HeldPart = (p : Part) × PartWithin (PartOf p)

    all_held : (hs : List Held) → AllWithin (map (eval index rows call here) (map (λ h. h.0) hs))
    all_held [] = none
    all_held (h ∷ hs) = one h.1 (all_held hs)

    parts_held : (hs : List HeldPart) → PartsWithin (map PartOf (map (λ h. h.0) hs))
    parts_held [] = no_part
    parts_held (h ∷ hs) = one_part h.1 (parts_held hs)

    pairs_held : (hs : List (Held × Held)) →
        PairsWithin (map (λ (p : Expr × Expr). (eval index rows call here p.0, eval index rows call here p.1))
        (map (λ (p : Held × Held). (p.0.0, p.1.0)) hs))
    pairs_held [] = no_pair
    pairs_held (h ∷ hs) = one_pair h.0.1 h.1.1 (pairs_held hs)

    abbrev LevelWithin : Expr-F Expr Part → Type 0
    LevelWithin x = LayerWithin (map-Expr Expr Part Eval PartEval (eval index rows call here) PartOf x)

    level_safe : (y : Expr-F Held HeldPart) → LevelWithin (map-Expr Held HeldPart Expr Part (λ h. h.0) (λ h. h.0) y)
    level_safe e.Nil = at_nil
    level_safe e.True = at_true
    level_safe e.False = at_false
    level_safe e.SelfRef = at_self
    level_safe (e.Int n) = at_int
    level_safe (e.Str parts) = at_str (parts_held parts)
    level_safe (e.Sym name) = at_sym
    level_safe (e.Local name) = at_local
    level_safe (e.Ivar name) = at_ivar
    level_safe (e.Const ref) = at_const
    level_safe (e.Array xs) = at_array (all_held xs)
    level_safe (e.Hash pairs) = at_hash (pairs_held pairs)
    level_safe (e.Call None name args) = at_call absent (all_held args)
    level_safe (e.Call (Some x) name args) = at_call (present x.1) (all_held args)
    level_safe (e.Not x) = at_not x.1
    level_safe (e.And x y) = at_and x.1 y.1
    level_safe (e.Or x y) = at_or x.1 y.1
    level_safe (e.Choose x y z) = at_choose x.1 y.1 z.1

    abbrev PartLevelWithin : Part-F Expr Part → Type 0
    PartLevelWithin x =
        PartWithin (part_layer index rows (map-Part Expr Part Eval PartEval (eval index rows call here) PartOf x))

    either_safe : (y : Part-F Held HeldPart) →
        PartLevelWithin (map-Part Held HeldPart Expr Part (λ h. h.0) (λ h. h.0) y)
    either_safe (e.Plain bytes) state = pure_stays_within may bytes
    either_safe (e.Inside x) state =
        bind_stays_within may _ _ (x.1 state) (λ value. pure_stays_within may (rows.to_s value))

    rolled : (x : Expr-F Expr Part) → LevelWithin x → EvalWithin (eval index rows call here (roll-Expr x))
    rolled x k =
        rw (fold-roll-Expr Eval PartEval (expr_layer index rows call here) (part_layer index rows) x)
        (expr_layer_stays_within k)

    rolled_part : (x : Part-F Expr Part) → PartLevelWithin x → PartWithin (PartOf (roll-Part x))
    rolled_part x k =
        rw (fold-roll-Part Eval PartEval (expr_layer index rows call here) (part_layer index rows) x) k

    -- an expression
    pub eval_stays_within : (x : Expr) → EvalWithin (eval index rows call here x)
    eval_stays_within =
        ind-Expr (λ x. EvalWithin (eval index rows call here x)) (λ p. PartWithin (PartOf p))
        (λ x y is. rolled x (subst LevelWithin is (level_safe y)))
        (λ x y is. rolled_part x (subst PartLevelWithin is (either_safe y)))

  data ExecsWithin : List Exec → Type 0 where
    no_exec : ExecsWithin []
    one_exec : {p : Exec} {ps : List Exec} → ExecWithin p → ExecsWithin ps → ExecsWithin (p ∷ ps)

  data ArmsWithin : List (Expr × List Exec) → Type 0 where
    no_arm : ArmsWithin []
    one_arm : {arm : Expr × List Exec} {arms : List (Expr × List Exec)} → ExecsWithin arm.1 → ArmsWithin arms →
        ArmsWithin (arm ∷ arms)

  flow_on_stays_within : (flow : Flow) (go : Value → Exec) → ((last : Value) → ExecWithin (go last)) →
      StaysWithin may (flow_on flow go)
  flow_on_stays_within (GoesOn state last) go k = k last state
  flow_on_stays_within (Returns state x) go k = pure_stays_within may (Returns state x)

  in_order_stays_within : {ps : List Exec} → ExecsWithin ps → (last : Value) → ExecWithin (in_order ps last)
  in_order_stays_within no_exec last state = pure_stays_within may (GoesOn state last)
  in_order_stays_within (one_exec {p} {ps} k more) last state =
      bind_stays_within may (p state) (λ flow. flow_on flow (in_order ps)) (k state)
      (λ flow. flow_on_stays_within flow (in_order ps) (in_order_stays_within more))

  data StmtWithin : Stmt-F Exec → Type 0 where
    at_expr : {x : Expr} → StmtWithin (s.Expr x)
    at_set : {name : List ℕ} {x : Expr} → StmtWithin (s.Set name x)
    at_set_ivar : {name : List ℕ} {x : Expr} → StmtWithin (s.SetIvar name x)
    at_return : {x : Option Expr} → StmtWithin (s.Return x)
    at_raise : {x : Expr} → StmtWithin (s.Raise x)
    at_if : {arms : List (Expr × List Exec)} {other : List Exec} {after : Bool} → ArmsWithin arms →
        ExecsWithin other → StmtWithin (s.If arms other after)

  module _ (call : Call) (calls : CallWithin call) (here : Here) where
    begins : {A : Type 0} (p : Doing A) → StaysWithin may p → StaysWithin may (turn here >> p)
    begins p k = then_stays_within may (turn here) p (turn_stays_within may here) k

    evals : (x : Expr) → EvalWithin (eval index rows call here x)
    evals = eval_stays_within call calls here

    raised_layer_stays_within : (x : Value-F Value) → StaysWithin may (raised_layer index rows here x)
    raised_layer_stays_within layer.Nil turns go h = tt
    raised_layer_stays_within layer.True turns go h = tt
    raised_layer_stays_within layer.False turns go h = tt
    raised_layer_stays_within (layer.Int n) turns go h = tt
    raised_layer_stays_within (layer.Str text) turns go h = tt
    raised_layer_stays_within (layer.Sym name) turns go h = tt
    raised_layer_stays_within (layer.Array items) turns go h = tt
    raised_layer_stays_within (layer.Hash pairs) turns go h = tt
    raised_layer_stays_within (layer.Module path) turns go h = tt
    raised_layer_stays_within (layer.Object path variables) turns go h = tt

    return_value_stays_within : (x : Option Expr) → EvalWithin (return_value index rows call here x)
    return_value_stays_within None state = pure_stays_within may Nil
    return_value_stays_within (Some x) state = evals x state

    arms_of_stays_within : {arms : List (Expr × List Exec)} → ArmsWithin arms → (other : Exec) → ExecWithin other →
        ExecWithin (arms_of index rows (map (arm_of index rows call here) arms) other)
    arms_of_stays_within no_arm other k state = k state
    arms_of_stays_within (one_arm {arm} l more) other k state =
        bind_stays_within may (eval index rows call here arm.0 state) _ (evals arm.0 state)
        (λ x. either_stays_within may (is_truthy x) _ _ (in_order_stays_within l Nil state)
        (arms_of_stays_within more other k state))

    stmt_layer_stays_within : {x : Stmt-F Exec} → StmtWithin x → ExecWithin (stmt_layer index rows call here x)
    stmt_layer_stays_within (at_expr {x}) state =
        bind_stays_within may (eval index rows call here x state) _ (evals x state)
        (λ value. pure_stays_within may (GoesOn state value))
    stmt_layer_stays_within (at_set {name} {x}) state =
        begins _ (bind_stays_within may (eval index rows call here x state) _ (evals x state)
        (λ value. pure_stays_within may
        (GoesOn (record { self = state.self; locals = with_local state.locals name value }) value)))
    stmt_layer_stays_within (at_set_ivar {name} {x}) state =
        begins _ (bind_stays_within may (eval index rows call here x state) _ (evals x state)
        (λ value. pure_stays_within may
        (GoesOn (record { self = with_ivar state.self name value; locals = state.locals }) value)))
    stmt_layer_stays_within (at_return {x}) state =
        begins _ (bind_stays_within may (return_value index rows call here x state) _
        (return_value_stays_within x state) (λ value. pure_stays_within may (Returns state value)))
    stmt_layer_stays_within (at_raise {x}) state =
        begins _ (bind_stays_within may (eval index rows call here x state) _ (evals x state)
        (λ value. raised_layer_stays_within (out-Value value)))
    stmt_layer_stays_within (at_if {arms} {other} k l) state =
        begins _ (arms_of_stays_within k (in_order other Nil) (in_order_stays_within l Nil) state)

    abbrev HeldStmt : Type 0
    HeldStmt = (x : Stmt) × ExecWithin (exec index rows call here x)

    execs_held : (hs : List HeldStmt) → ExecsWithin (map (exec index rows call here) (map (λ h. h.0) hs))
    execs_held [] = no_exec
    execs_held (h ∷ hs) = one_exec h.1 (execs_held hs)

    arms_held : (arms : List (Expr × List HeldStmt)) →
        ArmsWithin (map (λ (p : Expr × List Stmt). (p.0, map (exec index rows call here) p.1))
        (map (λ (p : Expr × List HeldStmt). (p.0, map (λ h. h.0) p.1)) arms))
    arms_held [] = no_arm
    arms_held (arm ∷ arms) = one_arm (execs_held arm.1) (arms_held arms)

    abbrev LevelStmt : Stmt-F Stmt → Type 0
    LevelStmt x = StmtWithin (map-Stmt Stmt Exec (exec index rows call here) x)

    level_stmt : (y : Stmt-F HeldStmt) → LevelStmt (map-Stmt HeldStmt Stmt (λ h. h.0) y)
    level_stmt (s.Expr x) = at_expr
    level_stmt (s.Set name x) = at_set
    level_stmt (s.SetIvar name x) = at_set_ivar
    level_stmt (s.Return x) = at_return
    level_stmt (s.Raise x) = at_raise
    level_stmt (s.If arms other after) = at_if (arms_held arms) (execs_held other)

    rolled_stmt : (x : Stmt-F Stmt) → LevelStmt x → ExecWithin (exec index rows call here (roll-Stmt x))
    rolled_stmt x k = rw (fold-roll-Stmt Exec (stmt_layer index rows call here) x) (stmt_layer_stays_within k)

    -- a statement
    pub exec_stays_within : (x : Stmt) → ExecWithin (exec index rows call here x)
    exec_stays_within =
        ind-Stmt (λ x. ExecWithin (exec index rows call here x))
        (λ x y is. rolled_stmt x (subst LevelStmt is (level_stmt y)))

    execs_stays_within : (xs : List Stmt) → ExecsWithin (map (exec index rows call here) xs)
    execs_stays_within [] = no_exec
    execs_stays_within (x ∷ xs) = one_exec (exec_stays_within x) (execs_stays_within xs)

    -- a method's body
    pub body_stays_within : (body : Body) (state : State) →
        StaysWithin may (body_of index rows call here body state)
    body_stays_within (Statements stmts) state =
        bind_stays_within may (in_order (map (exec index rows call here) stmts) Nil state) _
        (in_order_stays_within (execs_stays_within stmts) Nil state) (λ flow. pure_stays_within may (left_by flow))
    body_stays_within (Reads name) state =
        begins _ (pure_stays_within may (record { value = ivar_of state.self name; self = state.self }))

  -- what opens a frame, where one is left
  pub data FramesWithin : Option Call → Type 0 where
    no_frame : FramesWithin None
    a_frame : {call : Call} → CallWithin call → FramesWithin (Some call)

  enter_stays_within : {frames : Option Call} → FramesWithin frames →
      (here : Here) (m : Method) (self : Value) (args : List Value) →
      StaysWithin may (enter index rows frames here m self args)
  enter_stays_within no_frame here m self args =
      fail_stays_within may here class.Stack (codes "stack level too deep")
  enter_stays_within (a_frame {call} k) here m self args =
      body_stays_within call k (here_of here.limit m) m.body (record { self = self; locals = bound m.params args })

  -- a call of a method
  pub invoke_stays_within : {frames : Option Call} → FramesWithin frames →
      (here : Here) (m : Method) (self : Value) (args : List Value) →
      StaysWithin may (invoke index rows frames here m self args)
  invoke_stays_within k here m self args =
      either_stays_within may (length args == length m.params) _ _ (enter_stays_within k here m self args)
      (fail_stays_within may here class.Argument (wrong_count_text (length args) (decimal (length m.params))))

  singleton_in_stays_within : (here : Here) (path : Path) (name : Name) (is_class : Bool) (found : Option Method) →
      StaysWithin may (singleton_in index rows here path name is_class found)
  singleton_in_stays_within here path name is_class (Some m) = pure_stays_within may (Some m)
  singleton_in_stays_within here path name false None = pure_stays_within may None
  singleton_in_stays_within here path name true None =
      bind_stays_within may (ancestors index rows here path) _
      (ancestors_stays_within index rows may has here path)
      (λ members. pure_stays_within may
      (first_found (map (λ p. singleton_of_class name (index.place p)) (drop 1 members))))

  singleton_at_stays_within : (here : Here) (path : Path) (name : Name) (place : Place) →
      StaysWithin may (singleton_at index rows here path name place)
  singleton_at_stays_within here path name Missing = pure_stays_within may None
  singleton_at_stays_within here path name Implicit = pure_stays_within may None
  singleton_at_stays_within here path name (Owned file (Faulty error)) = pure_stays_within may None
  singleton_at_stays_within here path name (Owned file (Assigned x scopes)) = pure_stays_within may None
  singleton_at_stays_within here path name (Owned file (Opened opening)) =
      singleton_in_stays_within here path name opening.is_class (find_method name opening.singles)

  -- the search for a singleton method
  pub singleton_stays_within : (here : Here) (path : Path) (name : Name) →
      StaysWithin may (singleton index rows here path name)
  singleton_stays_within here path name = singleton_at_stays_within here path name (index.place path)

  instance_in_stays_within : (here : Here) (path : Path) (name : Name) (found : Option Method) →
      StaysWithin may (instance_in index rows here path name found)
  instance_in_stays_within here path name (Some m) = pure_stays_within may (Some m)
  instance_in_stays_within here path name None =
      bind_stays_within may (ancestors index rows here path) _
      (ancestors_stays_within index rows may has here path)
      (λ members. pure_stays_within may (first_found (map (λ p. instance_of name (index.place p)) members)))

  instance_stays_within : (here : Here) (path : Path) (name : Name) →
      StaysWithin may (instance index rows here path name)
  instance_stays_within here path name =
      instance_in_stays_within here path name (instance_of name (index.place path))

  initialized_stays_within : {frames : Option Call} → FramesWithin frames →
      (here : Here) (path : Path) (args : List Value) (found : Option Method) →
      StaysWithin may (initialized index rows frames here path args found)
  initialized_stays_within k here path args (Some m) = invoke_stays_within k here m (Object path []) args
  initialized_stays_within k here path [] None =
      pure_stays_within may (record { value = Nil; self = Object path [] })
  initialized_stays_within k here path (arg ∷ args) None =
      fail_stays_within may here class.Argument (wrong_count_text (length (arg ∷ args)) (decimal 0))

  makes_new_stays_within : {frames : Option Call} → FramesWithin frames →
      (here : Here) (path : Path) (args : List Value) → StaysWithin may (makes_new index rows frames here path args)
  makes_new_stays_within {frames} k here path args =
      bind_stays_within may (instance index rows here path (codes "initialize")) _
      (instance_stays_within here path (codes "initialize"))
      (λ m. bind_stays_within may (initialized index rows frames here path args m) _
      (initialized_stays_within k here path args m) (λ left. made_stays_within here left.self))

  method_or_stays_within : {frames : Option Call} → FramesWithin frames →
      (here : Here) (on : Value) (name : Name) (args : List Value) (otherwise : Doing Value) →
      StaysWithin may otherwise → (found : Option Method) →
      StaysWithin may (method_or index rows frames here on name args otherwise found)
  method_or_stays_within k here on name args otherwise l None = l
  method_or_stays_within {frames} k here on name args otherwise l (Some m) =
      bind_stays_within may (invoke index rows frames here m on args) _ (invoke_stays_within k here m on args)
      (λ left. pure_stays_within may left.value)

  new_or_built_in_stays_within : {frames : Option Call} → FramesWithin frames →
      (here : Here) (on : Value) (path : Path) (name : Name) (args : List Value) →
      StaysWithin may (new_or_built_in index rows frames here on path name args)
  new_or_built_in_stays_within k here on path name args =
      either_stays_within may (bytes_eq name (codes "new") && is_class_at (index.place path)) _ _
      (makes_new_stays_within k here path args) (built_in_call_stays_within here on name args)

  call_layer_stays_within : {frames : Option Call} → FramesWithin frames →
      (here : Here) (on : Value) (name : Name) (args : List Value) (x : Value-F Value) →
      StaysWithin may (call_layer index rows frames here on name args x)
  call_layer_stays_within k here on name args layer.Nil = built_in_call_stays_within here on name args
  call_layer_stays_within k here on name args layer.True = built_in_call_stays_within here on name args
  call_layer_stays_within k here on name args layer.False = built_in_call_stays_within here on name args
  call_layer_stays_within k here on name args (layer.Int n) = built_in_call_stays_within here on name args
  call_layer_stays_within k here on name args (layer.Str text) = built_in_call_stays_within here on name args
  call_layer_stays_within k here on name args (layer.Sym symbol) = built_in_call_stays_within here on name args
  call_layer_stays_within k here on name args (layer.Array items) = built_in_call_stays_within here on name args
  call_layer_stays_within k here on name args (layer.Hash pairs) = built_in_call_stays_within here on name args
  call_layer_stays_within {frames} k here on name args (layer.Module path) =
      bind_stays_within may (singleton index rows here path name) _ (singleton_stays_within here path name)
      (method_or_stays_within k here on name args (new_or_built_in index rows frames here on path name args)
      (new_or_built_in_stays_within k here on path name args))
  call_layer_stays_within {frames} k here on name args (layer.Object path variables) =
      bind_stays_within may (instance index rows here path name) _ (instance_stays_within here path name)
      (method_or_stays_within k here on name args (built_in_call rows here on name args)
      (built_in_call_stays_within here on name args))

  call_in_stays_within : {frames : Option Call} → FramesWithin frames → CallWithin (call_in index rows frames)
  call_in_stays_within k here on name args = call_layer_stays_within k here on name args (out-Value on)

  -- what opens a frame, however many are left
  pub frames_stays_within : (left : ℕ) → FramesWithin (frames_of index rows left)
  frames_stays_within zero = no_frame
  frames_stays_within (suc left) = a_frame (call_in_stays_within (frames_stays_within left))

  -- a call, however many frames are left
  pub call_at_stays_within : (left : ℕ) → CallWithin (call_at index rows left)
  call_at_stays_within left = call_in_stays_within (frames_stays_within left)
