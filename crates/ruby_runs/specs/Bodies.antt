-- What expressions, statements and calls do (the Ruby documentation of literals, control expressions, methods, calling
-- methods, and modules and classes).
use Rattle.std.specs.Prelude.{ℕ, zero, suc, Bool, true, false, ◌&&◌, ◌||◌, not, ◌==◌, if◌then◌else◌, List, [], ◌∷◌}
use Rattle.std.specs.Prelude.{◌++◌, length, map, drop, Option, Some, None, bytes_eq, codes, find}
use Rattle.std.specs.Fmt.{decimal}
use Rattle.ruby_types.specs.declared.tree.Expr.{Expr, fold-Expr}
use Rattle.ruby_types.specs.declared.tree.Expr.TheOpen.{Expr-F, Part-F}
use Rattle.ruby_types.specs.declared.tree.Expr.TheOpen as e
use Rattle.ruby_types.specs.declared.tree.Stmt.{Stmt, fold-Stmt}
use Rattle.ruby_types.specs.declared.tree.Stmt.TheOpen.{Stmt-F}
use Rattle.ruby_types.specs.declared.tree.Stmt.TheOpen as s
use Rattle.ruby_types.specs.declared.value.Value.{Value, Value-F, out-Value}
use Rattle.ruby_types.specs.declared.value.Value.TheOpen as layer
use Rattle.ruby_types.specs.declared.value.Value.TheVariants.{Nil, True, False, Int, Str, Sym, Array, Hash, Object}
use Rattle.ruby_types.specs.declared.request.ErrorClass.TheVariants as class
use Rattle.ruby_builtin_base.specs.Answers.{wrong_count_text}
use Rattle.ruby_builtin_keys.specs.Merging.{put}
use Rattle.program_places.specs.Paths.{Name, Path}
use Rattle.program_places.specs.Places.{Index, Place, Missing, Implicit, Owned, Faulty, Assigned, Opened}
use Rattle.program_places.specs.Places.{Method, Body, Statements, Reads}
use Rattle.ruby_runs.specs.Doing.{Doing, Here, pure, ◌>>=◌, ◌>>◌, fail, turn}
use Rattle.ruby_runs.specs.BuiltIns.{BuiltIns, is_truthy, built_in_call, made}
use Rattle.ruby_runs.specs.Names.{ancestors, resolved}

-- Variables by name, in the order of their first assignment.
abbrev pub Variables : Type 0
Variables = List (Name × Value)

-- What code changes: its locals, and in `initialize` self.
pub record State : Type 0 where
  pub self : Value
  pub locals : Variables

-- How a statement leaves: it goes on, with its value, or the method returns.
pub data Flow : Type 0 where
  GoesOn : State → Value → Flow
  Returns : State → Value → Flow

-- What an expression does.
abbrev pub Eval : Type 0
Eval = State → Doing Value

-- What a statement does.
abbrev pub Exec : Type 0
Exec = State → Doing Flow

-- What a part of a text does: whether it is an inside part, and what gives its bytes.
pub record PartEval : Type 0 where
  pub inside : Bool
  pub bytes : State → Doing (List ℕ)

-- What a method gives, and self at its end.
pub record Left : Type 0 where
  pub value : Value
  pub self : Value

-- What a call does, by code that stands here: on a receiver, by name and arguments.
abbrev pub Call : Type 0
Call = Here → (on : Value) → Name → List Value → Doing Value

-- The value of a local variable; nil where it was never assigned.
abbrev pub local_of : Variables → Name → Value
local_of [] name = Nil
local_of (first ∷ others) name = if bytes_eq first.0 name then first.1 else local_of others name

-- the variables after an assignment
abbrev pub with_local : Variables → Name → Value → Variables
with_local [] name value = (name, value) ∷ []
with_local (first ∷ others) name value =
    if bytes_eq first.0 name then (name, value) ∷ others else first ∷ with_local others name value

-- true or false
abbrev pub boolean : Bool → Value
boolean true = True
boolean false = False

-- the name in one level of a value that is a symbol
abbrev pub symbol_layer : Value-F Value → Name
symbol_layer (layer.Sym name) = name
symbol_layer _ = []

-- the value of an instance variable among those of an object, whose names are symbols
abbrev pub ivar_in : List (Value × Value) → Name → Value
ivar_in [] name = Nil
ivar_in (first ∷ others) name =
    if bytes_eq (symbol_layer (out-Value first.0)) name then first.1 else ivar_in others name

-- the same by one level of self
abbrev pub ivar_layer : Value-F Value → Name → Value
ivar_layer (layer.Object class variables) name = ivar_in variables name
ivar_layer _ name = Nil

-- The value of an instance variable of self; nil where it was never assigned, or self is no object.
abbrev pub ivar_of : Value → Name → Value
ivar_of self name = ivar_layer (out-Value self) name

-- an object's variables after an assignment; a new one comes behind the others
abbrev pub set_pair : List (Value × Value) → Name → Value → List (Value × Value)
set_pair [] name value = (Sym name, value) ∷ []
set_pair (first ∷ others) name value =
    if bytes_eq (symbol_layer (out-Value first.0)) name
    then (first.0, value) ∷ others
    else first ∷ set_pair others name value

-- the same by one level of self
abbrev pub with_layer : Value-F Value → Value → Name → Value → Value
with_layer (layer.Object class variables) self name value = Object class (set_pair variables name value)
with_layer _ self name value = self

-- self after an assignment to an instance variable; what is no object stays
abbrev pub with_ivar : Value → Name → Value → Value
with_ivar self name value = with_layer (out-Value self) self name value

-- what several expressions give, left to right, behind what is done
abbrev pub all_of : List Eval → State → List Value → Doing (List Value)
all_of [] state done = pure done
all_of (x ∷ more) state done = x state >>= (λ value. all_of more state (done ++ value ∷ []))

-- The pairs of a hash literal, behind what is done: each key and then its value. A repeated key keeps its first place
-- and takes the last value.
abbrev pub all_pairs : List (Eval × Eval) → State → List (Value × Value) → Doing (List (Value × Value))
all_pairs [] state done = pure done
all_pairs (p ∷ more) state done =
    p.0 state >>= (λ key. p.1 state >>= (λ value. all_pairs more state (put done (key, value))))

-- a text of these bytes, which is made where a part of it was an inside one
abbrev pub text_end : Here → (inside : Bool) → List ℕ → Doing Value
text_end here inside bytes = if inside then made here (Str bytes) else pure (Str bytes)

-- a text by its parts, behind what is done
abbrev pub whole_text : Here → List PartEval → State → (inside : Bool) → List ℕ → Doing Value
whole_text here [] state inside done = text_end here inside done
whole_text here (p ∷ more) state inside done =
    p.bytes state >>= (λ bytes. whole_text here more state (inside || p.inside) (done ++ bytes))

-- the receiver of a call; self where none is written
abbrev pub receiver : Option Eval → State → Doing Value
receiver None state = pure state.self
receiver (Some x) state = x state

-- what comes after a statement, unless the method returns
abbrev pub flow_on : Flow → (Value → Exec) → Doing Flow
flow_on (GoesOn state last) go = go last state
flow_on (Returns state value) go = pure (Returns state value)

-- statements in order, of which the last gives the value
abbrev pub in_order : List Exec → Value → Exec
in_order [] last state = pure (GoesOn state last)
in_order (x ∷ more) last state = x state >>= (λ flow. flow_on flow (in_order more))

-- A method gives its last statement's value or what it returns.
abbrev pub left_by : Flow → Left
left_by (GoesOn state value) = record { value = value; self = state.self }
left_by (Returns state value) = record { value = value; self = state.self }

-- the method of this name
abbrev pub find_method : Name → List Method → Option Method
find_method name methods = find (λ m. bytes_eq m.name name) methods

-- the one that was found, or else the other
abbrev pub or_method : Option Method → Option Method → Option Method
or_method None other = other
or_method (Some m) other = Some m

-- the singleton method of this name of the class at a place; what is no class has none here
abbrev pub singleton_of_class : Name → Place → Option Method
singleton_of_class name Missing = None
singleton_of_class name Implicit = None
singleton_of_class name (Owned file (Faulty error)) = None
singleton_of_class name (Owned file (Assigned value scopes)) = None
singleton_of_class name (Owned file (Opened opening)) =
    if opening.is_class then find_method name opening.singles else None

-- the instance method or reader of this name of the class or module at a place
abbrev pub instance_of : Name → Place → Option Method
instance_of name Missing = None
instance_of name Implicit = None
instance_of name (Owned file (Faulty error)) = None
instance_of name (Owned file (Assigned value scopes)) = None
instance_of name (Owned file (Opened opening)) = find_method name opening.instances

-- A class stands at a place.
abbrev pub is_class_at : Place → Bool
is_class_at Missing = false
is_class_at Implicit = false
is_class_at (Owned file (Faulty error)) = false
is_class_at (Owned file (Assigned value scopes)) = false
is_class_at (Owned file (Opened opening)) = opening.is_class

-- the first that was found
abbrev pub first_found : List (Option Method) → Option Method
first_found [] = None
first_found (found ∷ more) = or_method found (first_found more)

-- the parameters, with their arguments
abbrev pub bound : List Name → List Value → Variables
bound [] args = []
bound (name ∷ names) [] = (name, Nil) ∷ bound names []
bound (name ∷ names) (arg ∷ args) = (name, arg) ∷ bound names args

-- the code of a method, in a run with so many turns
abbrev pub here_of : ℕ → Method → Here
here_of limit m = record { file = Some m.file; scopes = m.scopes; limit = limit }

module _ (index : Index) (rows : BuiltIns) where
  -- One level of an expression, by what its children do. It begins a turn; a constant begins one for each segment. What
  -- an array, a hash or a text with an inside part makes costs its size by 16 more.
  abbrev pub expr_layer : Call → Here → Expr-F Eval PartEval → Eval
  expr_layer call here e.Nil state = turn here >> pure Nil
  expr_layer call here e.True state = turn here >> pure True
  expr_layer call here e.False state = turn here >> pure False
  expr_layer call here e.SelfRef state = turn here >> pure state.self
  expr_layer call here (e.Int n) state = turn here >> pure (Int n)
  expr_layer call here (e.Str parts) state = turn here >> whole_text here parts state false []
  expr_layer call here (e.Sym name) state = turn here >> pure (Sym name)
  expr_layer call here (e.Local name) state = turn here >> pure (local_of state.locals name)
  expr_layer call here (e.Ivar name) state = turn here >> pure (ivar_of state.self name)
  expr_layer call here (e.Const ref) state = resolved index rows here true ref >>= (λ found. pure found.value)
  expr_layer call here (e.Array xs) state = do
    turn here
    items ← all_of xs state []
    made here (Array items)
  expr_layer call here (e.Hash ps) state = do
    turn here
    pairs ← all_pairs ps state []
    made here (Hash pairs)
  expr_layer call here (e.Call on name xs) state = do
    turn here
    self ← receiver on state
    args ← all_of xs state []
    call here self name args
  expr_layer call here (e.Not x) state = do
    turn here
    value ← x state
    pure (boolean (not (is_truthy value)))
  expr_layer call here (e.And x y) state = do
    turn here
    value ← x state
    if is_truthy value then y state else pure value
  expr_layer call here (e.Or x y) state = do
    turn here
    value ← x state
    if is_truthy value then pure value else y state
  expr_layer call here (e.Choose x y z) state = do
    turn here
    value ← x state
    if is_truthy value then y state else z state

  -- one part of a text
  abbrev pub part_layer : Part-F Eval PartEval → PartEval
  part_layer (e.Plain bytes) = record { inside = false; bytes = λ state. pure bytes }
  part_layer (e.Inside x) = record { inside = true; bytes = λ state. x state >>= (λ value. pure (rows.to_s value)) }

  -- what an expression does
  abbrev pub eval : Call → Here → Expr → Eval
  eval call here = fold-Expr Eval PartEval (expr_layer call here) part_layer

  -- `raise` takes a Str.
  abbrev pub raised_layer : Here → Value-F Value → Doing Flow
  raised_layer here (layer.Str text) = fail here class.Runtime text
  raised_layer here _ = fail here class.Kind (codes "exception text expected")

  -- The first arm whose condition is true; where none is, what stands behind `else`.
  abbrev pub arms_of : List (Eval × Exec) → Exec → Exec
  arms_of [] other state = other state
  arms_of (arm ∷ more) other state =
      arm.0 state >>= (λ value. if is_truthy value then arm.1 state else arms_of more other state)

  -- what `return` gives: nil without an expression
  abbrev pub return_value : Call → Here → Option Expr → Eval
  return_value call here None state = pure Nil
  return_value call here (Some x) state = eval call here x state

  -- an arm's condition and its statements
  abbrev pub arm_of : Call → Here → Expr × List Exec → Eval × Exec
  arm_of call here arm = (eval call here arm.0, in_order arm.1 Nil)

  -- One level of a statement, by what the statements in it do. It begins a turn, unless it is an expression alone. An
  -- assignment gives the value; an `if` the value of the branch taken, nil where none is taken or it is empty.
  abbrev pub stmt_layer : Call → Here → Stmt-F Exec → Exec
  stmt_layer call here (s.Expr x) state = do
    value ← eval call here x state
    pure (GoesOn state value)
  stmt_layer call here (s.Set name x) state = do
    turn here
    value ← eval call here x state
    pure (GoesOn (record { self = state.self; locals = with_local state.locals name value }) value)
  stmt_layer call here (s.SetIvar name x) state = do
    turn here
    value ← eval call here x state
    pure (GoesOn (record { self = with_ivar state.self name value; locals = state.locals }) value)
  stmt_layer call here (s.Return x) state = do
    turn here
    value ← return_value call here x state
    pure (Returns state value)
  stmt_layer call here (s.Raise x) state = do
    turn here
    value ← eval call here x state
    raised_layer here (out-Value value)
  stmt_layer call here (s.If arms other after) state =
      turn here >> arms_of (map (arm_of call here) arms) (in_order other Nil) state

  -- what a statement does
  abbrev pub exec : Call → Here → Stmt → Exec
  exec call here = fold-Stmt Exec (stmt_layer call here)

  -- A method's body, in a frame of its own. An empty one gives nil. That of a reader reads its variable, in one turn.
  abbrev pub body_of : Call → Here → Body → State → Doing Left
  body_of call here (Statements stmts) state =
      in_order (map (exec call here) stmts) Nil state >>= (λ flow. pure (left_by flow))
  body_of call here (Reads name) state =
      turn here >> pure (record { value = ivar_of state.self name; self = state.self })

  -- A frame is opened where one is left. `frames`: what a call does with one frame less, where there is one.
  abbrev pub enter : Option Call → Here → Method → (self : Value) → List Value → Doing Left
  enter None here m self args = fail here class.Stack (codes "stack level too deep")
  enter (Some call) here m self args =
      body_of call (here_of here.limit m) m.body (record { self = self; locals = bound m.params args })

  -- A wrong count of arguments is told before a frame is opened.
  abbrev pub invoke : Option Call → Here → Method → (self : Value) → List Value → Doing Left
  invoke frames here m self args =
      if length args == length m.params
      then enter frames here m self args
      else fail here class.Argument (wrong_count_text (length args) (decimal (length m.params)))

  -- A singleton method: its own, else, for a class, one of the classes among its ancestors after the first.
  abbrev pub singleton_in : Here → Path → Name → (is_class : Bool) → Option Method → Doing (Option Method)
  singleton_in here path name is_class (Some m) = pure (Some m)
  singleton_in here path name false None = pure None
  singleton_in here path name true None = ancestors index rows here path >>= (λ members.
      pure (first_found (map (λ p. singleton_of_class name (index.place p)) (drop 1 members))))

  -- A module whose file is at fault has no methods.
  abbrev pub singleton_at : Here → Path → Name → Place → Doing (Option Method)
  singleton_at here path name Missing = pure None
  singleton_at here path name Implicit = pure None
  singleton_at here path name (Owned file (Faulty error)) = pure None
  singleton_at here path name (Owned file (Assigned value scopes)) = pure None
  singleton_at here path name (Owned file (Opened opening)) =
      singleton_in here path name opening.is_class (find_method name opening.singles)

  -- the singleton method of this name that a call on a class or module finds
  abbrev pub singleton : Here → Path → Name → Doing (Option Method)
  singleton here path name = singleton_at here path name (index.place path)

  -- An instance method or a reader: the class's own, else one of its ancestors'.
  abbrev pub instance_in : Here → Path → Name → Option Method → Doing (Option Method)
  instance_in here path name (Some m) = pure (Some m)
  instance_in here path name None = ancestors index rows here path >>= (λ members.
      pure (first_found (map (λ p. instance_of name (index.place p)) members)))

  -- the instance method or reader of this name that a call on an object finds
  abbrev pub instance : Here → Path → Name → Doing (Option Method)
  instance here path name = instance_in here path name (instance_of name (index.place path))

  -- An object starts without variables. Without `initialize` no argument is taken.
  abbrev pub initialized : Option Call → Here → Path → List Value → Option Method → Doing Left
  initialized frames here path args (Some m) = invoke frames here m (Object path []) args
  initialized frames here path [] None = pure (record { value = Nil; self = Object path [] })
  initialized frames here path (arg ∷ args) None =
      fail here class.Argument (wrong_count_text (length (arg ∷ args)) (decimal 0))

  -- `new`: `initialize` is found like an instance method, and the object is paid for at its end.
  abbrev pub makes_new : Option Call → Here → Path → List Value → Doing Value
  makes_new frames here path args = do
    m ← instance here path (codes "initialize")
    left ← initialized frames here path args m
    made here left.self

  -- the method that was found, else something else
  abbrev pub method_or : Option Call → Here → Value → Name → List Value → (otherwise : Doing Value) →
      Option Method → Doing Value
  method_or frames here on name args otherwise None = otherwise
  method_or frames here on name args otherwise (Some m) =
      invoke frames here m on args >>= (λ left. pure left.value)

  -- `new` of a class, else a built-in method
  abbrev pub new_or_built_in : Option Call → Here → Value → Path → Name → List Value → Doing Value
  new_or_built_in frames here on path name args =
      if bytes_eq name (codes "new") && is_class_at (index.place path)
      then makes_new frames here path args
      else built_in_call rows here on name args

  -- A call on a value, by its level: on a class or module its singleton methods, then `new`, then built-in ones; on an
  -- object its instance methods, then built-in ones; on others built-in ones.
  abbrev pub call_layer : Option Call → Here → Value → Name → List Value → Value-F Value → Doing Value
  call_layer frames here on name args (layer.Module path) =
      singleton here path name >>= method_or frames here on name args (new_or_built_in frames here on path name args)
  call_layer frames here on name args (layer.Object path variables) =
      instance here path name >>= method_or frames here on name args (built_in_call rows here on name args)
  call_layer frames here on name args _ = built_in_call rows here on name args

  -- what a call does, by what it does with one frame less
  abbrev pub call_in : Option Call → Call
  call_in frames here on name args = call_layer frames here on name args (out-Value on)

  -- what opens a frame where so many are left: a call with one frame less
  abbrev pub frames_of : ℕ → Option Call
  frames_of zero = None
  frames_of (suc left) = Some (call_in (frames_of left))

  -- what a call does where so many frames may still be opened
  abbrev pub call_at : ℕ → Call
  call_at left = call_in (frames_of left)
