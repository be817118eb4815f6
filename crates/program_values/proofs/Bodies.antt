-- Expressions, statements and calls come to values that stand, and two calls that go together can't be told apart.
use Rattle.std.proofs.Common.{◌≡◌, ℕ, Bool, true, false, ◌&&◌, not, List, [], ◌∷◌, ◌++◌, length, map, Option}
use Rattle.std.proofs.Common.{Some, None, refl, subst, codes, ◌==◌, bytes_eq}
use Rattle.std.specs.Prelude.{◌/◌, ◌||◌, ◌-◌}
use Rattle.std.proofs.lemmas.Bool.{and_parts}
use Rattle.ruby_types.specs.Size.{size}
use Rattle.ruby_types.specs.declared.tree.ConstRef.{ConstRef}
use Rattle.ruby_types.specs.declared.tree.Expr.{Expr, map-Expr, roll-Expr, fold-roll-Expr, ind-Expr}
use Rattle.ruby_types.specs.declared.tree.Part.{Part, fold-Part, map-Part, roll-Part, fold-roll-Part}
use Rattle.ruby_types.specs.declared.tree.Expr.TheOpen.{Expr-F, Part-F}
use Rattle.ruby_types.specs.declared.tree.Expr.TheOpen as e
use Rattle.ruby_types.specs.declared.tree.Stmt.{Stmt, map-Stmt, roll-Stmt, fold-roll-Stmt, ind-Stmt}
use Rattle.ruby_types.specs.declared.tree.Stmt.TheOpen.{Stmt-F}
use Rattle.ruby_types.specs.declared.tree.Stmt.TheOpen as s
use Rattle.ruby_types.specs.declared.value.Value.{Value, Value-F, out-Value}
use Rattle.ruby_types.specs.declared.value.Value.TheOpen as layer
use Rattle.ruby_types.specs.declared.value.Value.TheVariants.{Nil, Int, Str, Sym, Array, Hash, Object}
use Rattle.ruby_types.specs.declared.request.ErrorClass.TheVariants as class
use Rattle.ruby_types.specs.declared.request.Task.{Task}
use Rattle.ruby_builtin_base.specs.declared.called.Called.{Called}
use Rattle.ruby_builtin_base.specs.declared.called.Called.TheVariants as called
use Rattle.program_places.specs.Paths.{Name, Path}
use Rattle.program_places.specs.Places.{Index, Place, Missing, Implicit, Owned, Faulty, Assigned, Opened, Method}
use Rattle.program_places.specs.Places.{Body, Statements, Reads}
use Rattle.program_places.specs.Tasks.{EachIs}
use Rattle.ruby_runs.specs.Doing.{Doing, Here, ◌>>◌, turn}
use Rattle.ruby_runs.specs.BuiltIns.{BuiltIns, is_truthy, built_in_call, ended_call, made}
use Rattle.ruby_runs.specs.Bodies.{State, Flow, GoesOn, Returns, Eval, Exec, PartEval, Left, Call, with_local}
use Rattle.ruby_runs.specs.Bodies.{with_ivar, all_of, all_pairs, whole_text, text_end, receiver}
use Rattle.ruby_runs.specs.Bodies.{flow_on, in_order, left_by, find_method, is_class_at, here_of, expr_layer}
use Rattle.ruby_runs.specs.Bodies.{part_layer, eval, raised_layer, arms_of, return_value, arm_of, stmt_layer, exec}
use Rattle.ruby_runs.specs.Bodies.{body_of, enter, invoke, singleton_in, singleton_at, singleton, instance_in}
use Rattle.ruby_runs.specs.Bodies.{instance, instance_of, initialized, makes_new, method_or, new_or_built_in}
use Rattle.ruby_runs.specs.Bodies.{call_layer, call_in}
use Rattle.program_values.specs.Standing.{Stands, PairStands, AllStand, NamesNothingNew}
use Rattle.program_values.proofs.Values.{each_of_both, nil_stands, boolean_stands, int_stands, str_stands, sym_stands}
use Rattle.program_values.proofs.Values.{array_stands, hash_stands, object_stands, LocalStands, local_stands}
use Rattle.program_values.proofs.Values.{locals_stand, bound_stand, ivar_stands, with_ivar_stands, put_stand}
use Rattle.program_values.proofs.Keeps.{Keeps, Any, pure_keeps, bind_keeps, raise_keeps, fail_keeps}
use Rattle.program_values.proofs.Keeps.{turn_keeps, pay_keeps, either_keeps}
use Rattle.program_values.proofs.Names.{ancestors_keep, resolved_value_keeps}

module _ (index : Index) (rows : BuiltIns) (K : Task → Option Value) (all : AllStand index K)
    (nothing_new : NamesNothingNew index rows) where
  -- self and the locals stand
  abbrev pub StateStands : State → Type 0
  StateStands state = Stands index state.self × EachIs (LocalStands index) state.locals

  abbrev FlowStands : Flow → Type 0
  FlowStands (GoesOn state v) = StateStands state × Stands index v
  FlowStands (Returns state v) = StateStands state × Stands index v

  abbrev LeftStands : Left → Type 0
  LeftStands left = Stands index left.value × Stands index left.self

  -- two expressions that go together
  abbrev pub EvalKeeps : Eval → Eval → Type 0
  EvalKeeps p q = (state : State) → StateStands state → Keeps index K all (Stands index) (p state) (q state)

  abbrev ExecKeeps : Exec → Exec → Type 0
  ExecKeeps p q = (state : State) → StateStands state → Keeps index K all FlowStands (p state) (q state)

  record PartKeeps (p q : PartEval) : Type 0 where
    same : p.inside ≡ q.inside
    bytes : (state : State) → StateStands state → Keeps index K all Any (p.bytes state) (q.bytes state)

  -- Two calls that go together on what stands.
  abbrev pub CallKeeps : Call → Call → Type 0
  CallKeeps c d = (here : Here) (on : Value) (name : Name) (args : List Value) → Stands index on →
      EachIs (Stands index) args → Keeps index K all (Stands index) (c here on name args) (d here on name args)

  -- ---- values that are made

  ended_call_keeps : (here : Here) (on : Value) (name : Name) (turns : ℕ) (args : List Value) (answer : Called) →
      rows.called turns on name args ≡ answer → Stands index on → EachIs (Stands index) args →
      Keeps index K all (Stands index) (ended_call here on name answer) (ended_call here on name answer)
  ended_call_keeps here on name turns args (called.Value v cost) is h each = record {
    run = λ left go next k. k v (left - cost) (nothing_new turns cost on v name args is h each);
  }
  ended_call_keeps here on name turns args (called.Raised error) is h each = raise_keeps index K all _
  ended_call_keeps here on name turns args called.NoMethod is h each = fail_keeps index K all here class.NoMethod _
  ended_call_keeps here on name turns args called.Memory is h each = raise_keeps index K all _

  built_in_call_keeps : (here : Here) (on : Value) (name : Name) (args : List Value) → Stands index on →
      EachIs (Stands index) args →
      Keeps index K all (Stands index) (built_in_call rows here on name args) (built_in_call rows here on name args)
  built_in_call_keeps here on name args h each = record {
    run = λ turns go next k.
        (ended_call_keeps here on name turns args (rows.called turns on name args) refl h each).run turns go next k;
  }

  made_keeps : (here : Here) (v : Value) → Stands index v → Keeps index K all (Stands index) (made here v) (made here v)
  made_keeps here v h =
      bind_keeps index K all (pay_keeps index K all here (size v / 16)) (λ u t. pure_keeps index K all v h)

  -- ---- lists of expressions

  data AllKeep : List Eval → List Eval → Type 0 where
    none : AllKeep [] []
    one : {p q : Eval} {ps qs : List Eval} → EvalKeeps p q → AllKeep ps qs → AllKeep (p ∷ ps) (q ∷ qs)

  data PairsKeep : List (Eval × Eval) → List (Eval × Eval) → Type 0 where
    no_pair : PairsKeep [] []
    one_pair : {p q : Eval × Eval} {ps qs : List (Eval × Eval)} → EvalKeeps p.0 q.0 → EvalKeeps p.1 q.1 →
        PairsKeep ps qs → PairsKeep (p ∷ ps) (q ∷ qs)

  data PartsKeep : List PartEval → List PartEval → Type 0 where
    no_part : PartsKeep [] []
    one_part : {p q : PartEval} {ps qs : List PartEval} → PartKeeps p q → PartsKeep ps qs →
        PartsKeep (p ∷ ps) (q ∷ qs)

  data ReceiverKeeps : Option Eval → Option Eval → Type 0 where
    absent : ReceiverKeeps None None
    present : {p q : Eval} → EvalKeeps p q → ReceiverKeeps (Some p) (Some q)

  all_of_keeps : {ps qs : List Eval} → AllKeep ps qs → (state : State) → StateStands state → (done : List Value) →
      EachIs (Stands index) done →
      Keeps index K all (EachIs (Stands index)) (all_of ps state done) (all_of qs state done)
  all_of_keeps none state st done each = pure_keeps index K all done each
  all_of_keeps (one k more) state st done each = bind_keeps index K all (k state st) (λ v h.
      all_of_keeps more state st (done ++ v ∷ []) (each_of_both (Stands index) done (v ∷ []) each (h, tt)))

  all_pairs_keeps : {ps qs : List (Eval × Eval)} → PairsKeep ps qs → (state : State) → StateStands state →
      (done : List (Value × Value)) → EachIs (PairStands index) done →
      Keeps index K all (EachIs (PairStands index)) (all_pairs ps state done) (all_pairs qs state done)
  all_pairs_keeps no_pair state st done each = pure_keeps index K all done each
  all_pairs_keeps (one_pair k l more) state st done each = bind_keeps index K all (k state st) (λ key h.
      bind_keeps index K all (l state st) (λ v g.
      all_pairs_keeps more state st _ (put_stand index done (key, v) each (h, g))))

  text_end_keeps : (here : Here) (inside : Bool) (bytes : List ℕ) →
      Keeps index K all (Stands index) (text_end here inside bytes) (text_end here inside bytes)
  text_end_keeps here inside bytes = either_keeps index K all inside
      (λ h. made_keeps here (Str bytes) (str_stands index bytes))
      (λ h. pure_keeps index K all (Str bytes) (str_stands index bytes))

  whole_text_keeps : (here : Here) {ps qs : List PartEval} → PartsKeep ps qs → (state : State) → StateStands state →
      (inside : Bool) (done : List ℕ) →
      Keeps index K all (Stands index) (whole_text here ps state inside done) (whole_text here qs state inside done)
  whole_text_keeps here no_part state st inside done = text_end_keeps here inside done
  whole_text_keeps here (one_part {p} {q} {ps} {qs} k more) state st inside done =
      bind_keeps index K all (k.bytes state st) (λ bytes h.
      subst (λ b. Keeps index K all (Stands index) (whole_text here ps state (inside || p.inside) (done ++ bytes))
      (whole_text here qs state (inside || b) (done ++ bytes))) k.same
      (whole_text_keeps here more state st (inside || p.inside) (done ++ bytes)))

  receiver_keeps : {p q : Option Eval} → ReceiverKeeps p q → (state : State) → StateStands state →
      Keeps index K all (Stands index) (receiver p state) (receiver q state)
  receiver_keeps absent state st = pure_keeps index K all state.self st.0
  receiver_keeps (present k) state st = k state st

  -- ---- expressions

  data LayerKeeps : Expr-F Eval PartEval → Expr-F Eval PartEval → Type 0 where
    at_nil : LayerKeeps e.Nil e.Nil
    at_true : LayerKeeps e.True e.True
    at_false : LayerKeeps e.False e.False
    at_self : LayerKeeps e.SelfRef e.SelfRef
    at_int : {n : _} → LayerKeeps (e.Int n) (e.Int n)
    at_str : {ps qs : List PartEval} → PartsKeep ps qs → LayerKeeps (e.Str ps) (e.Str qs)
    at_sym : {name : List ℕ} → LayerKeeps (e.Sym name) (e.Sym name)
    at_local : {name : List ℕ} → LayerKeeps (e.Local name) (e.Local name)
    at_ivar : {name : List ℕ} → LayerKeeps (e.Ivar name) (e.Ivar name)
    at_const : {ref : ConstRef} → LayerKeeps (e.Const ref) (e.Const ref)
    at_array : {ps qs : List Eval} → AllKeep ps qs → LayerKeeps (e.Array ps) (e.Array qs)
    at_hash : {ps qs : List (Eval × Eval)} → PairsKeep ps qs → LayerKeeps (e.Hash ps) (e.Hash qs)
    at_call : {p q : Option Eval} {name : List ℕ} {ps qs : List Eval} → ReceiverKeeps p q → AllKeep ps qs →
        LayerKeeps (e.Call p name ps) (e.Call q name qs)
    at_not : {p q : Eval} → EvalKeeps p q → LayerKeeps (e.Not p) (e.Not q)
    at_and : {p q r t : Eval} → EvalKeeps p r → EvalKeeps q t → LayerKeeps (e.And p q) (e.And r t)
    at_or : {p q r t : Eval} → EvalKeeps p r → EvalKeeps q t → LayerKeeps (e.Or p q) (e.Or r t)
    at_choose : {p q o r t u : Eval} → EvalKeeps p r → EvalKeeps q t → EvalKeeps o u →
        LayerKeeps (e.Choose p q o) (e.Choose r t u)

  module _ (c d : Call) (calls : CallKeeps c d) (here : Here) where
    after_turn : {A : Type 0} {P : A → Type 0} {p q : Doing A} → Keeps index K all P p q →
        Keeps index K all P (turn here >> p) (turn here >> q)
    after_turn k = bind_keeps index K all (turn_keeps index K all here) (λ u t. k)

    expr_layer_keeps : {x y : Expr-F Eval PartEval} → LayerKeeps x y →
        EvalKeeps (expr_layer index rows c here x) (expr_layer index rows d here y)
    expr_layer_keeps at_nil state st = after_turn (pure_keeps index K all Nil (nil_stands index))
    expr_layer_keeps at_true state st = after_turn (pure_keeps index K all _ (boolean_stands index true))
    expr_layer_keeps at_false state st = after_turn (pure_keeps index K all _ (boolean_stands index false))
    expr_layer_keeps at_self state st = after_turn (pure_keeps index K all state.self st.0)
    expr_layer_keeps (at_int {n}) state st = after_turn (pure_keeps index K all (Int n) (int_stands index n))
    expr_layer_keeps (at_str k) state st = after_turn (whole_text_keeps here k state st false [])
    expr_layer_keeps (at_sym {name}) state st = after_turn (pure_keeps index K all (Sym name) (sym_stands index name))
    expr_layer_keeps (at_local {name}) state st =
        after_turn (pure_keeps index K all _ (local_stands index state.locals name st.1))
    expr_layer_keeps (at_ivar {name}) state st =
        after_turn (pure_keeps index K all _ (ivar_stands index state.self name st.0))
    expr_layer_keeps (at_const {ref}) state st =
        bind_keeps index K all (resolved_value_keeps index rows K all here true ref)
        (λ found h. pure_keeps index K all found.value h)
    expr_layer_keeps (at_array k) state st = after_turn (bind_keeps index K all (all_of_keeps k state st [] tt)
        (λ items h. made_keeps here (Array items) (array_stands index items h)))
    expr_layer_keeps (at_hash k) state st = after_turn (bind_keeps index K all (all_pairs_keeps k state st [] tt)
        (λ pairs h. made_keeps here (Hash pairs) (hash_stands index pairs h)))
    expr_layer_keeps (at_call {name} k l) state st = after_turn (bind_keeps index K all (receiver_keeps k state st)
        (λ self h. bind_keeps index K all (all_of_keeps l state st [] tt) (λ args g. calls here self name args h g)))
    expr_layer_keeps (at_not k) state st = after_turn (bind_keeps index K all (k state st)
        (λ v h. pure_keeps index K all _ (boolean_stands index (not (is_truthy v)))))
    expr_layer_keeps (at_and k l) state st = after_turn (bind_keeps index K all (k state st)
        (λ v h. either_keeps index K all (is_truthy v) (λ t. l state st) (λ t. pure_keeps index K all v h)))
    expr_layer_keeps (at_or k l) state st = after_turn (bind_keeps index K all (k state st)
        (λ v h. either_keeps index K all (is_truthy v) (λ t. pure_keeps index K all v h) (λ t. l state st)))
    expr_layer_keeps (at_choose k l m) state st = after_turn (bind_keeps index K all (k state st)
        (λ v h. either_keeps index K all (is_truthy v) (λ t. l state st) (λ t. m state st)))

    abbrev part_by : Call → Part → PartEval
    part_by call = fold-Part Eval PartEval (expr_layer index rows call here) (part_layer index rows)

    abbrev Held : Type 0
    Held = (x : Expr) × EvalKeeps (eval index rows c here x) (eval index rows d here x)

    abbrev HeldPart : Type 0
    HeldPart = (p : Part) × PartKeeps (part_by c p) (part_by d p)

    all_held : (hs : List Held) → AllKeep (map (eval index rows c here) (map (λ h. h.0) hs))
        (map (eval index rows d here) (map (λ h. h.0) hs))
    all_held [] = none
    all_held (h ∷ hs) = one h.1 (all_held hs)

    parts_held : (hs : List HeldPart) → PartsKeep (map (part_by c) (map (λ h. h.0) hs))
        (map (part_by d) (map (λ h. h.0) hs))
    parts_held [] = no_part
    parts_held (h ∷ hs) = one_part h.1 (parts_held hs)

    abbrev both_by : Call → Expr × Expr → Eval × Eval
    both_by call p = (eval index rows call here p.0, eval index rows call here p.1)

    pairs_held : (hs : List (Held × Held)) →
        PairsKeep (map (λ (p : Expr × Expr). (eval index rows c here p.0, eval index rows c here p.1))
        (map (λ (p : Held × Held). (p.0.0, p.1.0)) hs))
        (map (λ (p : Expr × Expr). (eval index rows d here p.0, eval index rows d here p.1))
        (map (λ (p : Held × Held). (p.0.0, p.1.0)) hs))
    pairs_held [] = no_pair
    pairs_held (h ∷ hs) = one_pair h.0.1 h.1.1 (pairs_held hs)

    abbrev LevelKeeps : Expr-F Expr Part → Type 0
    LevelKeeps x = LayerKeeps (map-Expr Expr Part Eval PartEval (eval index rows c here) (part_by c) x)
        (map-Expr Expr Part Eval PartEval (eval index rows d here) (part_by d) x)

    level_keeps : (y : Expr-F Held HeldPart) → LevelKeeps (map-Expr Held HeldPart Expr Part (λ h. h.0) (λ h. h.0) y)
    level_keeps e.Nil = at_nil
    level_keeps e.True = at_true
    level_keeps e.False = at_false
    level_keeps e.SelfRef = at_self
    level_keeps (e.Int n) = at_int
    level_keeps (e.Str parts) = at_str (parts_held parts)
    level_keeps (e.Sym name) = at_sym
    level_keeps (e.Local name) = at_local
    level_keeps (e.Ivar name) = at_ivar
    level_keeps (e.Const ref) = at_const
    level_keeps (e.Array xs) = at_array (all_held xs)
    level_keeps (e.Hash pairs) = at_hash (pairs_held pairs)
    level_keeps (e.Call None name args) = at_call absent (all_held args)
    level_keeps (e.Call (Some x) name args) = at_call (present x.1) (all_held args)
    level_keeps (e.Not x) = at_not x.1
    level_keeps (e.And x y) = at_and x.1 y.1
    level_keeps (e.Or x y) = at_or x.1 y.1
    level_keeps (e.Choose x y z) = at_choose x.1 y.1 z.1

    abbrev PartLevelKeeps : Part-F Expr Part → Type 0
    PartLevelKeeps x =
        PartKeeps (part_layer index rows (map-Part Expr Part Eval PartEval (eval index rows c here) (part_by c) x))
        (part_layer index rows (map-Part Expr Part Eval PartEval (eval index rows d here) (part_by d) x))

    part_level_keeps : (y : Part-F Held HeldPart) →
        PartLevelKeeps (map-Part Held HeldPart Expr Part (λ h. h.0) (λ h. h.0) y)
    part_level_keeps (e.Plain bytes) = record { same = refl; bytes = λ state st. pure_keeps index K all bytes tt }
    part_level_keeps (e.Inside x) = record {
      same = refl;
      bytes = λ state st. bind_keeps index K all (x.1 state st) (λ v h. pure_keeps index K all (rows.to_s v) tt);
    }

    rolled : (x : Expr-F Expr Part) → LevelKeeps x →
        EvalKeeps (eval index rows c here (roll-Expr x)) (eval index rows d here (roll-Expr x))
    rolled x k = rw (
      fold-roll-Expr Eval PartEval (expr_layer index rows c here) (part_layer index rows) x,
      fold-roll-Expr Eval PartEval (expr_layer index rows d here) (part_layer index rows) x,
    ) (expr_layer_keeps k)

    rolled_part : (x : Part-F Expr Part) → PartLevelKeeps x →
        PartKeeps (part_by c (roll-Part x)) (part_by d (roll-Part x))
    rolled_part x k = rw (
      fold-roll-Part Eval PartEval (expr_layer index rows c here) (part_layer index rows) x,
      fold-roll-Part Eval PartEval (expr_layer index rows d here) (part_layer index rows) x,
    ) k

    -- an expression
    pub eval_keeps : (x : Expr) → EvalKeeps (eval index rows c here x) (eval index rows d here x)
    eval_keeps = ind-Expr (λ x. EvalKeeps (eval index rows c here x) (eval index rows d here x))
        (λ p. PartKeeps (part_by c p) (part_by d p)) (λ x y is. rolled x (subst LevelKeeps is (level_keeps y)))
        (λ x y is. rolled_part x (subst PartLevelKeeps is (part_level_keeps y)))

  -- ---- statements

  data ExecsKeep : List Exec → List Exec → Type 0 where
    no_exec : ExecsKeep [] []
    one_exec : {p q : Exec} {ps qs : List Exec} → ExecKeeps p q → ExecsKeep ps qs → ExecsKeep (p ∷ ps) (q ∷ qs)

  data ArmsKeep : List (Expr × List Exec) → List (Expr × List Exec) → Type 0 where
    no_arm : ArmsKeep [] []
    one_arm : {x : Expr} {ps qs : List Exec} {arms others : List (Expr × List Exec)} → ExecsKeep ps qs →
        ArmsKeep arms others → ArmsKeep ((x, ps) ∷ arms) ((x, qs) ∷ others)

  flow_on_keeps : (flow : Flow) → FlowStands flow → (go next : Value → Exec) →
      ((last : Value) → Stands index last → ExecKeeps (go last) (next last)) →
      Keeps index K all FlowStands (flow_on flow go) (flow_on flow next)
  flow_on_keeps (GoesOn state last) h go next k = k last h.1 state h.0
  flow_on_keeps (Returns state v) h go next k = pure_keeps index K all (Returns state v) h

  in_order_keeps : {ps qs : List Exec} → ExecsKeep ps qs → (last : Value) → Stands index last →
      ExecKeeps (in_order ps last) (in_order qs last)
  in_order_keeps no_exec last h state st = pure_keeps index K all (GoesOn state last) (st, h)
  in_order_keeps (one_exec {p} {q} {ps} {qs} k more) last h state st = bind_keeps index K all (k state st)
      (λ flow f. flow_on_keeps flow f (in_order ps) (in_order qs) (λ next g. in_order_keeps more next g))

  data StmtKeeps : Stmt-F Exec → Stmt-F Exec → Type 0 where
    at_expr : {x : Expr} → StmtKeeps (s.Expr x) (s.Expr x)
    at_set : {name : List ℕ} {x : Expr} → StmtKeeps (s.Set name x) (s.Set name x)
    at_set_ivar : {name : List ℕ} {x : Expr} → StmtKeeps (s.SetIvar name x) (s.SetIvar name x)
    at_return : {x : Option Expr} → StmtKeeps (s.Return x) (s.Return x)
    at_raise : {x : Expr} → StmtKeeps (s.Raise x) (s.Raise x)
    at_if : {arms others : List (Expr × List Exec)} {ps qs : List Exec} {after : Bool} → ArmsKeep arms others →
        ExecsKeep ps qs → StmtKeeps (s.If arms ps after) (s.If others qs after)

  module _ (c d : Call) (calls : CallKeeps c d) (here : Here) where
    evals : (x : Expr) → EvalKeeps (eval index rows c here x) (eval index rows d here x)
    evals = eval_keeps c d calls here

    begins : {A : Type 0} {P : A → Type 0} {p q : Doing A} → Keeps index K all P p q →
        Keeps index K all P (turn here >> p) (turn here >> q)
    begins k = after_turn c d calls here k

    raised_layer_keeps : (x : Value-F Value) →
        Keeps index K all FlowStands (raised_layer index rows here x) (raised_layer index rows here x)
    raised_layer_keeps (layer.Str text) = fail_keeps index K all here class.Runtime text
    raised_layer_keeps layer.Nil = fail_keeps index K all here class.Kind _
    raised_layer_keeps layer.True = fail_keeps index K all here class.Kind _
    raised_layer_keeps layer.False = fail_keeps index K all here class.Kind _
    raised_layer_keeps (layer.Int n) = fail_keeps index K all here class.Kind _
    raised_layer_keeps (layer.Sym name) = fail_keeps index K all here class.Kind _
    raised_layer_keeps (layer.Array items) = fail_keeps index K all here class.Kind _
    raised_layer_keeps (layer.Hash pairs) = fail_keeps index K all here class.Kind _
    raised_layer_keeps (layer.Module path) = fail_keeps index K all here class.Kind _
    raised_layer_keeps (layer.Object path variables) = fail_keeps index K all here class.Kind _

    return_value_keeps : (x : Option Expr) →
        EvalKeeps (return_value index rows c here x) (return_value index rows d here x)
    return_value_keeps None state st = pure_keeps index K all Nil (nil_stands index)
    return_value_keeps (Some x) state st = evals x state st

    arms_of_keeps : {arms others : List (Expr × List Exec)} → ArmsKeep arms others → (p q : Exec) → ExecKeeps p q →
        ExecKeeps (arms_of index rows (map (arm_of index rows c here) arms) p)
        (arms_of index rows (map (arm_of index rows d here) others) q)
    arms_of_keeps no_arm p q k state st = k state st
    arms_of_keeps (one_arm {x} l more) p q k state st = bind_keeps index K all (evals x state st)
        (λ v h. either_keeps index K all (is_truthy v) (λ t. in_order_keeps l Nil (nil_stands index) state st)
        (λ t. arms_of_keeps more p q k state st))

    stmt_layer_keeps : {x y : Stmt-F Exec} → StmtKeeps x y →
        ExecKeeps (stmt_layer index rows c here x) (stmt_layer index rows d here y)
    stmt_layer_keeps (at_expr {x}) state st = bind_keeps index K all (evals x state st)
        (λ v h. pure_keeps index K all (GoesOn state v) (st, h))
    stmt_layer_keeps (at_set {name} {x}) state st = begins (bind_keeps index K all (evals x state st)
        (λ v h. pure_keeps index K all
        (GoesOn (record { self = state.self; locals = with_local state.locals name v }) v)
        ((st.0, locals_stand index state.locals name v st.1 h), h)))
    stmt_layer_keeps (at_set_ivar {name} {x}) state st = begins (bind_keeps index K all (evals x state st)
        (λ v h. pure_keeps index K all (GoesOn (record { self = with_ivar state.self name v; locals = state.locals }) v)
        ((with_ivar_stands index state.self name v st.0 h, st.1), h)))
    stmt_layer_keeps (at_return {x}) state st = begins (bind_keeps index K all (return_value_keeps x state st)
        (λ v h. pure_keeps index K all (Returns state v) (st, h)))
    stmt_layer_keeps (at_raise {x}) state st = begins (bind_keeps index K all (evals x state st)
        (λ v h. raised_layer_keeps (out-Value v)))
    stmt_layer_keeps (at_if {ps} {qs} k l) state st = begins
        (arms_of_keeps k (in_order ps Nil) (in_order qs Nil) (in_order_keeps l Nil (nil_stands index)) state st)

    abbrev HeldStmt : Type 0
    HeldStmt = (x : Stmt) × ExecKeeps (exec index rows c here x) (exec index rows d here x)

    execs_held : (hs : List HeldStmt) → ExecsKeep (map (exec index rows c here) (map (λ h. h.0) hs))
        (map (exec index rows d here) (map (λ h. h.0) hs))
    execs_held [] = no_exec
    execs_held (h ∷ hs) = one_exec h.1 (execs_held hs)

    arms_held : (arms : List (Expr × List HeldStmt)) →
        ArmsKeep (map (λ (p : Expr × List Stmt). (p.0, map (exec index rows c here) p.1))
        (map (λ (p : Expr × List HeldStmt). (p.0, map (λ h. h.0) p.1)) arms))
        (map (λ (p : Expr × List Stmt). (p.0, map (exec index rows d here) p.1))
        (map (λ (p : Expr × List HeldStmt). (p.0, map (λ h. h.0) p.1)) arms))
    arms_held [] = no_arm
    arms_held (arm ∷ arms) = one_arm (execs_held arm.1) (arms_held arms)

    abbrev LevelStmt : Stmt-F Stmt → Type 0
    LevelStmt x = StmtKeeps (map-Stmt Stmt Exec (exec index rows c here) x)
        (map-Stmt Stmt Exec (exec index rows d here) x)

    level_stmt : (y : Stmt-F HeldStmt) → LevelStmt (map-Stmt HeldStmt Stmt (λ h. h.0) y)
    level_stmt (s.Expr x) = at_expr
    level_stmt (s.Set name x) = at_set
    level_stmt (s.SetIvar name x) = at_set_ivar
    level_stmt (s.Return x) = at_return
    level_stmt (s.Raise x) = at_raise
    level_stmt (s.If arms other after) = at_if (arms_held arms) (execs_held other)

    rolled_stmt : (x : Stmt-F Stmt) → LevelStmt x →
        ExecKeeps (exec index rows c here (roll-Stmt x)) (exec index rows d here (roll-Stmt x))
    rolled_stmt x k = rw (
      fold-roll-Stmt Exec (stmt_layer index rows c here) x,
      fold-roll-Stmt Exec (stmt_layer index rows d here) x,
    ) (stmt_layer_keeps k)

    exec_keeps : (x : Stmt) → ExecKeeps (exec index rows c here x) (exec index rows d here x)
    exec_keeps = ind-Stmt (λ x. ExecKeeps (exec index rows c here x) (exec index rows d here x))
        (λ x y is. rolled_stmt x (subst LevelStmt is (level_stmt y)))

    execs_keep : (xs : List Stmt) → ExecsKeep (map (exec index rows c here) xs) (map (exec index rows d here) xs)
    execs_keep [] = no_exec
    execs_keep (x ∷ xs) = one_exec (exec_keeps x) (execs_keep xs)

    left_by_stands : (flow : Flow) → FlowStands flow → LeftStands (left_by flow)
    left_by_stands (GoesOn state v) h = (h.1, h.0.0)
    left_by_stands (Returns state v) h = (h.1, h.0.0)

    body_keeps : (body : Body) (state : State) → StateStands state →
        Keeps index K all LeftStands (body_of index rows c here body state) (body_of index rows d here body state)
    body_keeps (Statements stmts) state st =
        bind_keeps index K all (in_order_keeps (execs_keep stmts) Nil (nil_stands index) state st)
        (λ flow h. pure_keeps index K all (left_by flow) (left_by_stands flow h))
    body_keeps (Reads name) state st = begins (pure_keeps index K all _ (ivar_stands index state.self name st.0, st.0))

  -- ---- calls

  -- what opens a frame, on both sides
  pub data FramesKeep : Option Call → Option Call → Type 0 where
    no_frame : FramesKeep None None
    a_frame : {c d : Call} → CallKeeps c d → FramesKeep (Some c) (Some d)

  enter_keeps : {f g : Option Call} → FramesKeep f g → (here : Here) (m : Method) (self : Value) (args : List Value) →
      Stands index self → EachIs (Stands index) args →
      Keeps index K all LeftStands (enter index rows f here m self args) (enter index rows g here m self args)
  enter_keeps no_frame here m self args h each = fail_keeps index K all here class.Stack _
  enter_keeps (a_frame {c} {d} k) here m self args h each =
      body_keeps c d k (here_of here.limit m) m.body _ (h, bound_stand index m.params args each)

  -- a call of a method
  pub invoke_keeps : {f g : Option Call} → FramesKeep f g → (here : Here) (m : Method) (self : Value)
      (args : List Value) → Stands index self → EachIs (Stands index) args →
      Keeps index K all LeftStands (invoke index rows f here m self args) (invoke index rows g here m self args)
  invoke_keeps k here m self args h each = either_keeps index K all (length args == length m.params)
      (λ e. enter_keeps k here m self args h each) (λ e. fail_keeps index K all here class.Argument _)

  singleton_in_keeps : (here : Here) (path : Path) (name : Name) (is_class : Bool) (found : Option Method) →
      Keeps index K all Any (singleton_in index rows here path name is_class found)
      (singleton_in index rows here path name is_class found)
  singleton_in_keeps here path name is_class (Some m) = pure_keeps index K all (Some m) tt
  singleton_in_keeps here path name false None = pure_keeps index K all None tt
  singleton_in_keeps here path name true None =
      bind_keeps index K all (ancestors_keep index rows K all here path) (λ members h. pure_keeps index K all _ tt)

  singleton_at_keeps : (here : Here) (path : Path) (name : Name) (place : Place) →
      Keeps index K all Any (singleton_at index rows here path name place)
      (singleton_at index rows here path name place)
  singleton_at_keeps here path name Missing = pure_keeps index K all None tt
  singleton_at_keeps here path name Implicit = pure_keeps index K all None tt
  singleton_at_keeps here path name (Owned file (Faulty error)) = pure_keeps index K all None tt
  singleton_at_keeps here path name (Owned file (Assigned x scopes)) = pure_keeps index K all None tt
  singleton_at_keeps here path name (Owned file (Opened opening)) =
      singleton_in_keeps here path name opening.is_class (find_method name opening.singles)

  -- the search for a singleton method
  pub singleton_keeps : (here : Here) (path : Path) (name : Name) →
      Keeps index K all Any (singleton index rows here path name) (singleton index rows here path name)
  singleton_keeps here path name = singleton_at_keeps here path name (index.place path)

  instance_in_keeps : (here : Here) (path : Path) (name : Name) (found : Option Method) →
      Keeps index K all Any (instance_in index rows here path name found) (instance_in index rows here path name found)
  instance_in_keeps here path name (Some m) = pure_keeps index K all (Some m) tt
  instance_in_keeps here path name None =
      bind_keeps index K all (ancestors_keep index rows K all here path) (λ members h. pure_keeps index K all _ tt)

  instance_keeps : (here : Here) (path : Path) (name : Name) →
      Keeps index K all Any (instance index rows here path name) (instance index rows here path name)
  instance_keeps here path name = instance_in_keeps here path name (instance_of name (index.place path))

  initialized_keeps : {f g : Option Call} → FramesKeep f g → (here : Here) (path : Path) →
      is_class_at (index.place path) ≡ true → (args : List Value) → EachIs (Stands index) args →
      (found : Option Method) →
      Keeps index K all LeftStands (initialized index rows f here path args found)
      (initialized index rows g here path args found)
  initialized_keeps k here path is args each (Some m) =
      invoke_keeps k here m (Object path []) args (object_stands index path [] is tt) each
  initialized_keeps k here path is [] each None =
      pure_keeps index K all _ (nil_stands index, object_stands index path [] is tt)
  initialized_keeps k here path is (arg ∷ args) each None = fail_keeps index K all here class.Argument _

  makes_new_keeps : {f g : Option Call} → FramesKeep f g → (here : Here) (path : Path) →
      is_class_at (index.place path) ≡ true → (args : List Value) → EachIs (Stands index) args →
      Keeps index K all (Stands index) (makes_new index rows f here path args) (makes_new index rows g here path args)
  makes_new_keeps k here path is args each =
      bind_keeps index K all (instance_keeps here path (codes "initialize")) (λ m u.
      bind_keeps index K all (initialized_keeps k here path is args each m) (λ left h. made_keeps here left.self h.1))

  method_or_keeps : {f g : Option Call} → FramesKeep f g → (here : Here) (on : Value) (name : Name)
      (args : List Value) → Stands index on → EachIs (Stands index) args → {p q : Doing Value} →
      Keeps index K all (Stands index) p q → (found : Option Method) →
      Keeps index K all (Stands index) (method_or index rows f here on name args p found)
      (method_or index rows g here on name args q found)
  method_or_keeps k here on name args h each l None = l
  method_or_keeps k here on name args h each l (Some m) =
      bind_keeps index K all (invoke_keeps k here m on args h each) (λ left r. pure_keeps index K all left.value r.0)

  new_or_built_in_keeps : {f g : Option Call} → FramesKeep f g → (here : Here) (on : Value) (path : Path)
      (name : Name) (args : List Value) → Stands index on → EachIs (Stands index) args →
      Keeps index K all (Stands index) (new_or_built_in index rows f here on path name args)
      (new_or_built_in index rows g here on path name args)
  new_or_built_in_keeps k here on path name args h each =
      either_keeps index K all (bytes_eq name (codes "new") && is_class_at (index.place path))
      (λ is. makes_new_keeps k here path
      (and_parts (bytes_eq name (codes "new")) (is_class_at (index.place path)) is).1 args each)
      (λ e. built_in_call_keeps here on name args h each)

  call_layer_keeps : {f g : Option Call} → FramesKeep f g → (here : Here) (on : Value) (name : Name)
      (args : List Value) → Stands index on → EachIs (Stands index) args → (x : Value-F Value) →
      Keeps index K all (Stands index) (call_layer index rows f here on name args x)
      (call_layer index rows g here on name args x)
  call_layer_keeps k here on name args h each layer.Nil = built_in_call_keeps here on name args h each
  call_layer_keeps k here on name args h each layer.True = built_in_call_keeps here on name args h each
  call_layer_keeps k here on name args h each layer.False = built_in_call_keeps here on name args h each
  call_layer_keeps k here on name args h each (layer.Int n) = built_in_call_keeps here on name args h each
  call_layer_keeps k here on name args h each (layer.Str text) = built_in_call_keeps here on name args h each
  call_layer_keeps k here on name args h each (layer.Sym symbol) = built_in_call_keeps here on name args h each
  call_layer_keeps k here on name args h each (layer.Array items) = built_in_call_keeps here on name args h each
  call_layer_keeps k here on name args h each (layer.Hash pairs) = built_in_call_keeps here on name args h each
  call_layer_keeps k here on name args h each (layer.Module path) =
      bind_keeps index K all (singleton_keeps here path name)
      (λ m u. method_or_keeps k here on name args h each (new_or_built_in_keeps k here on path name args h each) m)
  call_layer_keeps k here on name args h each (layer.Object path variables) =
      bind_keeps index K all (instance_keeps here path name)
      (λ m u. method_or_keeps k here on name args h each (built_in_call_keeps here on name args h each) m)

  -- a call, by what opens a frame
  pub call_in_keeps : {f g : Option Call} → FramesKeep f g →
      CallKeeps (call_in index rows f) (call_in index rows g)
  call_in_keeps k here on name args h each = call_layer_keeps k here on name args h each (out-Value on)
