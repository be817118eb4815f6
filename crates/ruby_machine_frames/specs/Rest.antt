-- What a machine still does: each frame as what comes after a value, and all of them together.
use Rattle.std.specs.Prelude.{◌≡◌, ℕ, zero, suc, ◌+◌, ◌*◌, ◌<◌, Bool, true, false, if◌then◌else◌, List, [], ◌∷◌, ◌++◌}
use Rattle.std.specs.Prelude.{not, map, sum_by, codes, bytes_eq, Option, Some, None, Result, Ok, Err}
use Rattle.by_need.specs.Asking.{Gives, Ask, Error}
use Rattle.by_need.specs.Asking as asking
use Rattle.ruby_types.specs.declared.tree.Expr.{Expr, fold-Expr}
use Rattle.ruby_types.specs.declared.tree.Part.{Part, fold-Part}
use Rattle.ruby_types.specs.declared.tree.Stmt.{Stmt}
use Rattle.ruby_types.specs.declared.request.RubyError.{RubyError}
use Rattle.ruby_types.specs.declared.request.Task.{Task}
use Rattle.ruby_types.specs.declared.request.ErrorClass.TheVariants as class
use Rattle.ruby_types.specs.declared.value.Value.{Value, Value-F, out-Value}
use Rattle.ruby_types.specs.declared.value.Value.TheOpen as layer
use Rattle.ruby_types.specs.declared.value.Value.TheVariants.{Nil, Array, Hash, Module}
use Rattle.program_places.specs.Paths.{Name, Path}
use Rattle.program_places.specs.Places.{Index, Method}
use Rattle.ruby_builtin_base.specs.Printed.{to_s}
use Rattle.ruby_builtin_keys.specs.Merging.{merged, put}
use Rattle.ruby_nodes.specs.Entries.{Entry, entry_at}
use Rattle.ruby_runs.specs.Doing.{Meaning, Going, Doing, Here, pure, ◌>>=◌, error_at}
use Rattle.ruby_runs.specs.Names.{Found}
use Rattle.ruby_runs.specs.BuiltIns.{is_truthy, built_in_call, made}
use Rattle.ruby_runs.specs.Bodies.{Call, Eval, Exec, PartEval, State, Flow, GoesOn, Returns, boolean}
use Rattle.ruby_runs.specs.Bodies.{expr_layer, part_layer, eval, exec, all_of, all_pairs, whole_text, in_order, flow_on}
use Rattle.ruby_runs.specs.Bodies.{left_by, arms_of, arm_of, with_local, with_ivar, raised_layer, method_or}
use Rattle.ruby_runs.specs.Bodies.{initialized}
use Rattle.ruby_runs.specs.Bodies.{new_or_built_in, frames_of, call_at}
use Rattle.ruby_machine_names.specs.Profile.{profile}
use Rattle.ruby_machine_names.specs.Names.{later}
use Rattle.ruby_machine_names.specs.Steps.{here_of}
use Rattle.ruby_machine_methods.specs.Finding.{singleton_among, instance_among}
use Rattle.ruby_machine_state.specs.States.{state_of}
use Rattle.ruby_machine_frames.specs.declared.frames.Caller.{Caller}
use Rattle.ruby_machine_frames.specs.declared.frames.Frame.{Frame}
use Rattle.ruby_machine_frames.specs.declared.frames.Frame.TheVariants as frame
use Rattle.ruby_machine_frames.specs.declared.frames.Control.{Control}
use Rattle.ruby_machine_frames.specs.declared.frames.Control.TheVariants as control
use Rattle.ruby_machine_frames.specs.declared.frames.Stop.{Stop}
use Rattle.ruby_machine_frames.specs.declared.frames.Stop.TheVariants as stop
use Rattle.ruby_machine_frames.specs.declared.stack.Core.{Core}

-- What comes after a value or a return: where it comes, and with the frames and turns that are left.
abbrev pub After : Type 0
After = Flow → Here → ℕ → ℕ → Meaning

-- Behind the last frame a value is the run's.
abbrev pub bottom : After
bottom flow here left turns = Gives (asking.Value (left_by flow).value)

-- what comes after a value that code gives
abbrev pub gives : After → State → Here → ℕ → Going Value
gives after state here left value turns = after (GoesOn state value) here left turns

-- what comes after a statement
abbrev pub flows : After → Here → ℕ → Going Flow
flows after here left flow turns = after flow here left turns

module _ (index : Index) (known : List Entry) where
  -- what a call does where so many frames are left
  abbrev pub calls : ℕ → Call
  calls left = call_at index profile left

  -- what an expression does
  abbrev pub eval_of : ℕ → Here → Expr → Eval
  eval_of left here x = eval index profile (calls left) here x

  -- what the expression of a node does
  abbrev pub evals : ℕ → Here → ℕ → Eval
  evals left here at = eval_of left here (entry_at known at).expr

  -- what a part of a text does
  abbrev pub part_of : ℕ → Here → Part → PartEval
  part_of left here = fold-Part Eval PartEval (expr_layer index profile (calls left) here) (part_layer index profile)

  -- what the statements from a node on do
  abbrev pub execs : ℕ → Here → ℕ → List Exec
  execs left here at = map (exec index profile (calls left) here) (entry_at known at).body

  -- the arms from a node on, with what their statements do
  abbrev pub arms_at : ℕ → Here → ℕ → List (Expr × List Exec)
  arms_at left here at = map (λ a. (a.0, map (exec index profile (calls left) here) a.1)) (entry_at known at).arms

  -- what the arms from a node on do, and else the statements from another on
  abbrev pub arms_from : ℕ → Here → ℕ → ℕ → Exec
  arms_from left here arms other = arms_of index profile (map (arm_of index profile (calls left) here) (arms_at left
      here arms))
      (in_order (execs left here other) Nil)

  -- what the pairs of a hash from a node on do
  abbrev pub pairs_at : ℕ → Here → ℕ → List (Eval × Eval)
  pairs_at left here at = map (λ p. (eval_of left here p.0, eval_of left here p.1)) (entry_at known at).pairs

  -- the items of an array from a node on, behind those that are done
  abbrev pub items_from : ℕ → Here → ℕ → List Value → Eval
  items_from left here more done state =
      all_of (map (eval_of left here) (entry_at known more).items) state done >>= (λ items. made here (Array items))

  -- the arguments of a call from a node on, behind those that are done
  abbrev pub args_from : ℕ → Here → Value → Name → ℕ → List Value → Eval
  args_from left here on name more done state =
      all_of (map (eval_of left here) (entry_at known more).items) state done >>= calls left here on name

  -- the pairs of a hash from a node on, behind a hash
  abbrev pub pairs_behind : ℕ → Here → ℕ → List (Value × Value) → Eval
  pairs_behind left here more hash state =
      all_pairs (pairs_at left here more) state hash >>= (λ pairs. made here (Hash pairs))

  -- the pairs of a hash from a node on, behind those that are done
  abbrev pub pairs_from : ℕ → Here → ℕ → List (Value × Value) → Eval
  pairs_from left here more done = pairs_behind left here more (merged [] done)

  -- the parts of a text from a node on, behind these bytes
  abbrev pub parts_from : ℕ → Here → ℕ → Bool → List ℕ → Eval
  parts_from left here more inside bytes state =
      whole_text here (map (part_of left here) (entry_at known more).parts) state inside bytes

  -- statements from a node on
  abbrev pub body_from : ℕ → Here → ℕ → Value → Exec
  body_from left here at last = in_order (execs left here at) last

  -- the singleton method that was found, else `new` or a built-in one
  abbrev pub singleton_or : ℕ → Here → Path → Name → List Value → Option Method → Doing Value
  singleton_or left here path name args =
      method_or index profile (frames_of index profile left) here (Module path) name args
      (new_or_built_in index profile (frames_of index profile left) here (Module path) path name args)

  -- the instance method that was found, else a built-in one
  abbrev pub instance_or : ℕ → Here → Value → Name → List Value → Option Method → Doing Value
  instance_or left here on name args =
      method_or index profile (frames_of index profile left) here on name args
      (built_in_call profile here on name args)

  -- an object is made by the `initialize` that was found
  abbrev pub new_by : ℕ → Here → Path → List Value → Option Method → Doing Value
  new_by left here path args m =
      initialized index profile (frames_of index profile left) here path args m >>= (λ end. made here end.self)

  -- what a frame does with a value
  abbrev pub resume : Frame → After → State → Value → Here → ℕ → ℕ → Meaning
  resume frame.Not after state v here left turns = gives after state here left (boolean (not (is_truthy v))) turns
  resume (frame.And b) after state v here left turns =
      (if is_truthy v then evals left here b state else pure v) turns (gives after state here left)
  resume (frame.Or b) after state v here left turns =
      (if is_truthy v then pure v else evals left here b state) turns (gives after state here left)
  resume (frame.Choose a b) after state v here left turns =
      (if is_truthy v then evals left here a state else evals left here b state) turns (gives after state here left)
  resume (frame.Items more done) after state v here left turns =
      items_from left here more (done ++ v ∷ []) state turns (gives after state here left)
  resume (frame.Key value more done) after state v here left turns =
      evals left here value state turns (λ w n.
      pairs_behind left here more (put (merged [] done.items) (v, w)) state n (gives after state here left))
  resume (frame.Pair key more done) after state v here left turns =
      pairs_behind left here more (put (merged [] done.items) (key, v)) state turns (gives after state here left)
  resume (frame.Inside more bytes) after state v here left turns =
      parts_from left here more true (bytes.items ++ to_s v) state turns (gives after state here left)
  resume (frame.Receiver name first) after state v here left turns =
      args_from left here v name first [] state turns (gives after state here left)
  resume (frame.Args on name more done) after state v here left turns =
      args_from left here on name more (done ++ v ∷ []) state turns (gives after state here left)
  resume (frame.Names wait) after state v here left turns =
      later index here wait v turns (λ found n. gives after state here left found.value n)
  resume (frame.Singleton path name args) after state v here left turns =
      singleton_or left here path name args (singleton_among index name v) turns (gives after state here left)
  resume (frame.Instance on name args) after state v here left turns =
      instance_or left here on name args (instance_among index name v) turns (gives after state here left)
  resume (frame.Initialize path args) after state v here left turns =
      new_by left here path args (instance_among index (codes "initialize") v) turns (gives after state here left)
  resume (frame.Then b) after state v here left turns =
      body_from left here b v state turns (flows after here left)
  resume (frame.Set name b) after state v here left turns =
      body_from left here b v (record { self = state.self; locals = with_local state.locals name v }) turns
      (flows after here left)
  resume (frame.SetIvar name b) after state v here left turns =
      body_from left here b v (record { self = with_ivar state.self name v; locals = state.locals }) turns
      (flows after here left)
  resume frame.Return after state v here left turns = after (Returns state v) here left turns
  resume frame.Raise after state v here left turns =
      raised_layer index profile here (out-Value v) turns (flows after here left)
  resume (frame.Branch taken arms other) after state v here left turns =
      (if is_truthy v then body_from left here taken Nil state else arms_from left here arms other state) turns
      (flows after here left)
  resume (frame.Leave caller) after state v here left turns =
      after (GoesOn (state_of caller.state) v) (here_of caller.here) caller.left turns
  resume (frame.LeaveNew caller) after state v here left turns =
      made (here_of caller.here) state.self turns (gives after (state_of caller.state) (here_of caller.here)
      caller.left)

  -- a return passes each frame of its method
  abbrev pub by_flow : Frame → After → After
  by_flow f after (GoesOn state v) here left turns = resume f after state v here left turns
  by_flow f after (Returns state v) here left turns = after (Returns state v) here left turns

  -- what comes after, with one more frame before it
  abbrev pub onto : Frame → After → After
  onto (frame.Leave caller) after flow here left turns =
      after (GoesOn (state_of caller.state) (left_by flow).value) (here_of caller.here) caller.left turns
  onto (frame.LeaveNew caller) after flow here left turns =
      made (here_of caller.here) (left_by flow).self turns
      (gives after (state_of caller.state) (here_of caller.here) caller.left)
  onto (frame.Then b) after flow here left turns =
      flow_on flow (in_order (execs left here b)) turns (flows after here left)
  onto f after flow here left turns = by_flow f after flow here left turns

  -- the frames, the first one at the bottom
  abbrev pub rest : List Frame → After → After
  rest [] after = after
  rest (f ∷ more) after = rest more (onto f after)

  -- what is next, and then what comes after
  abbrev pub meaning_at : Control → After → State → Here → ℕ → ℕ → Meaning
  meaning_at (control.Eval e) after state here left turns = evals left here e state turns (gives after state here left)
  meaning_at (control.Gives v) after state here left turns = after (GoesOn state v) here left turns
  meaning_at (control.Runs b last) after state here left turns =
      body_from left here b last state turns (flows after here left)
  meaning_at (control.Returns v) after state here left turns = after (Returns state v) here left turns

  -- what comes after all frames
  abbrev pub after_of : Core → After
  after_of m = rest m.frames.items bottom

  -- what is next in a machine, before something that comes after
  abbrev pub meaning_over : Core → Control → After → Meaning
  meaning_over m now after = meaning_at now after (state_of m.state) (here_of m.here) m.left m.turns

  -- what a machine still does
  abbrev pub meaning : Core → Control → Meaning
  meaning m now = meaning_over m now (after_of m)

  -- what comes after a value in a machine
  abbrev pub gives_of : Core → Going Value
  gives_of m = gives (after_of m) (state_of m.state) (here_of m.here) m.left

  -- what comes after a statement in a machine
  abbrev pub flows_of : Core → Going Flow
  flows_of m = flows (after_of m) (here_of m.here) m.left

  -- what a machine still does that hands a value or a return to a frame taken off
  abbrev pub frame_meaning : Core → Frame → Flow → Meaning
  frame_meaning m f flow = onto f (after_of m) flow (here_of m.here) m.left m.turns

-- A bound on the steps is by weights: what a frame may still do without a turn.
abbrev pub weight : Frame → ℕ
weight (frame.Leave caller) = 2
weight (frame.LeaveNew caller) = 2
weight _ = 4

-- what is next may do so much without a turn
abbrev pub control_weight : Control → ℕ
control_weight (control.Eval e) = 0
control_weight (control.Gives v) = 5
control_weight (control.Runs b last) = 6
control_weight (control.Returns v) = 5

-- the weight of turns and frames
abbrev pub load : Core → ℕ
load m = 10 * m.turns + sum_by weight m.frames.items

-- how many steps are left at most
abbrev pub work : Core → Control → ℕ
work m now = load m + control_weight now

module _ (index : Index) (known : List Entry) where
  -- A step keeps what there is still to do, or stops with it; and what it may still do falls below a bound.
  abbrev pub KeptFrom : Meaning → ℕ → Result Control Stop → Core → Type 0
  KeptFrom before bound (Ok next) new = (before ≡ meaning index known new next) × (work new next < bound)
  KeptFrom before bound (Err (stop.Done v)) new = before ≡ Gives (asking.Value v)
  KeptFrom before bound (Err (stop.Raised error)) new = before ≡ Gives (Error error)
  KeptFrom before bound (Err (stop.Need task)) new =
      (before ≡ Ask task (λ v. meaning index known new (control.Gives v))) × (load new + 5 < bound)
  KeptFrom before bound (Err stop.Memory) new = Unit {0}

  -- the same of a step from what is next
  abbrev pub Kept : Core → Control → Result Control Stop → Core → Type 0
  Kept old now result new = KeptFrom (meaning index known old now) (work old now) result new

-- one turn was spent, or none was left
abbrev pub Spent : Core → Bool → Core → Type 0
Spent old true new = old ≡ record new { turns = suc new.turns }
Spent old false new = (old.turns ≡ 0) × (new ≡ old)

-- a frame was put on top
abbrev pub Pushed : Core → Frame → Result (Unit {0}) Stop → Core → Type 0
Pushed old f (Ok u) new = (new ≡ record old { frames = new.frames }) × (new.frames.items ≡ old.frames.items ++ f ∷ [])
Pushed old f (Err stop.Memory) new = Unit {0}
Pushed old f (Err _) new = ⊥

-- the machine stops with this error, or for want of memory
abbrev pub StopsWith : RubyError → Stop → Type 0
StopsWith error (stop.Raised raised) = raised ≡ error
StopsWith error stop.Memory = Unit {0}
StopsWith error _ = ⊥

-- the same machine with so many turns
abbrev pub with_turns : Core → ℕ → Core
with_turns m n = record m { turns = n }

-- what a machine does that waits for a task with a frame on top
abbrev pub needs : Index → List Entry → Core → Frame → Task → Meaning
needs index known m f task =
    Ask task (λ v. frame_meaning index known m f (GoesOn (state_of m.state) v))

-- what a machine does with the constant that was found
abbrev pub const_from : Index → List Entry → Core → Doing Found → Meaning
const_from index known m d = d m.turns (λ found n. gives_of index known m found.value n)

-- the machine is back where a method was called from
abbrev pub left_to : Core → Caller → Core
left_to m caller = record m { here = caller.here; state = caller.state; left = caller.left }

-- a local was assigned
abbrev pub AssignsLocal : Core → Name → Value → Core → Type 0
AssignsLocal old name value new =
    (new ≡ record old { state = record { itself = old.state.itself; locals = new.state.locals } })
    × (new.state.locals.items ≡ with_local old.state.locals.items name value)

-- an instance variable of self was assigned
abbrev pub AssignsVariable : Core → Name → Value → Core → Type 0
AssignsVariable old name value new = new ≡ record old {
  state = record { itself = with_ivar old.state.itself name value; locals = old.state.locals };
}

-- the error of `raise` by one level of its value
abbrev pub raised_layer_error : Here → Value-F Value → RubyError
raised_layer_error here (layer.Str text) = error_at here class.Runtime text
raised_layer_error here _ = error_at here class.Kind (codes "exception text expected")

-- the machine stops as `raise` of a value does
abbrev pub RaisesWith : Here → Value → Stop → Type 0
RaisesWith here value (stop.Raised error) = raised_layer_error here (out-Value value) ≡ error
RaisesWith here value stop.Memory = Unit {0}
RaisesWith here value _ = ⊥

-- A run comes to this: the answer of what there was to do, or a task, with what is done with its value.
abbrev pub RunsTo : Index → List Entry → Core → Control → Stop → Core → Type 0
RunsTo index known old now (stop.Done v) new = meaning index known old now ≡ Gives (asking.Value v)
RunsTo index known old now (stop.Raised error) new = meaning index known old now ≡ Gives (Error error)
RunsTo index known old now (stop.Need task) new =
    meaning index known old now ≡ Ask task (λ v. meaning index known new (control.Gives v))
RunsTo index known old now stop.Memory new = Unit {0}

-- what a machine does that evaluates an expression with a frame on top
abbrev pub pushes : Index → List Entry → Core → Frame → ℕ → Meaning
pushes index known m f e = meaning_over index known m (control.Eval e) (onto index known f (after_of index known m))
