-- What steps of statements do to what there still is to do.
use Rattle.std.proofs.Common.{◌≡◌, ℕ, ◌+◌, ◌≤◌, Bool, false, List, [], ◌∷◌, map}
use Rattle.std.proofs.Common.{refl, sym, ap, subst, ◌∙◌, arith}
use Rattle.std.specs.Prelude.{Result, Ok, if◌then◌else◌, codes}
use Rattle.ruby_types.specs.declared.tree.Expr.{Expr}
use Rattle.ruby_types.specs.declared.tree.Stmt.{Stmt}
use Rattle.ruby_types.specs.declared.request.RubyError.{RubyError}
use Rattle.ruby_types.specs.declared.request.ErrorClass.TheVariants as class
use Rattle.ruby_types.specs.declared.value.Value.{Value, Value-F, out-Value, roll-Value, roll-out-Value}
use Rattle.ruby_types.specs.declared.value.Value.TheOpen as layer
use Rattle.ruby_types.specs.declared.value.Value.TheVariants as value
use Rattle.program_places.specs.Places.{Index}
use Rattle.ruby_nodes.specs.Entries.{Entry, entry_at, entry_of}
use Rattle.ruby_runs.specs.Doing.{Meaning, Going, Here, error_at, turn}
use Rattle.ruby_runs.specs.Bodies.{Flow, exec, in_order, arms_of, arm_of, flow_on, raised_layer}
use Rattle.ruby_machine_names.specs.Profile.{profile}
use Rattle.ruby_machine_names.specs.Steps.{here_of}
use Rattle.ruby_machine_state.specs.States.{state_of}
use Rattle.ruby_machine_frames.specs.declared.frames.Frame.TheVariants as frame
use Rattle.ruby_machine_frames.specs.declared.frames.Control.{Control}
use Rattle.ruby_machine_frames.specs.declared.frames.Control.TheVariants as control
use Rattle.ruby_machine_frames.specs.declared.frames.Stop.{Stop}
use Rattle.ruby_machine_frames.specs.declared.frames.Stop.TheVariants as stop
use Rattle.ruby_machine_frames.specs.declared.stack.Core.{Core}
use Rattle.ruby_machine_frames.specs.Rest.{KeptFrom, Kept, Pushed, StopsWith}
use Rattle.ruby_machine_frames.specs.Rest.{RaisesWith, after_of, arms_from, body_from}
use Rattle.ruby_machine_frames.specs.Rest.{calls, execs, flows, flows_of, gives_of}
use Rattle.ruby_machine_frames.specs.Rest.{load, meaning, onto, pushes, raised_layer_error}
use Rattle.ruby_machine_frames.specs.Rest.{rest, bottom, evals, meaning_over, with_turns, work}
use Rattle.ruby_machine_frames.proofs.Levels.{steps_of, execs_of_node}
use Rattle.ruby_machine_frames.proofs.Steps.{kept_along, rest_push, weight_push}
use Rattle.ruby_machine_statements.specs.declared.node.Statement.{Statement}
use Rattle.ruby_machine_statements.specs.declared.node.Statement.TheVariants as statement
use Rattle.ruby_machine_statements.specs.Nodes.{node_of}
use Rattle.ruby_machine_statements.specs.Arms.{arms_before, arms_meaning, if_of, statement_meaning}

-- raising goes nowhere
raised_alone : (index : Index) (here : Here) (l : Value-F Value) (n : ℕ) (go other : Going Flow) →
    raised_layer index profile here l n go ≡ raised_layer index profile here l n other
raised_alone index here layer.Nil n go other = refl
raised_alone index here layer.True n go other = refl
raised_alone index here layer.False n go other = refl
raised_alone index here (layer.Int i) n go other = refl
raised_alone index here (layer.Str text) n go other = refl
raised_alone index here (layer.Sym name) n go other = refl
raised_alone index here (layer.Array items) n go other = refl
raised_alone index here (layer.Hash pairs) n go other = refl
raised_alone index here (layer.Module path) n go other = refl
raised_alone index here (layer.Object class variables) n go other = refl

module _ (index : Index) (known : List Entry) (m : Core) (r : Result Control Stop) (new : Core) where
  abbrev body_with : Value → List Stmt → Meaning
  body_with last stmts =
      in_order (map (exec index profile (calls index known m.left) (here_of m.here)) stmts) last (state_of m.state)
      m.turns (flows_of index known m)

  -- What stands before a statement gives it no value.
  any_last : (last : Value) (s : Statement) →
      body_with last (entry_of known (node_of s)).body ≡ statement_meaning index known m s
  any_last last (statement.Expr e next) = refl
  any_last last (statement.Set name e next) = refl
  any_last last (statement.SetIvar name e next) = refl
  any_last last (statement.Return e next) = refl
  any_last last (statement.ReturnNil next) = refl
  any_last last (statement.Raise e next) = refl
  any_last last (statement.If arms other after next) = refl

  -- statements from a node on, by the first of them
  pub kept_body : (b : ℕ) (s : Statement) (last : Value) →
      (entry_at known b).body ≡ (entry_of known (node_of s)).body →
      KeptFrom index known (statement_meaning index known m s) (load m + 6) r new →
      Kept index known m (control.Runs b last) r new
  kept_body b s last is k =
      kept_along index known (statement_meaning index known m s) (meaning index known m (control.Runs b last))
      (load m + 6) (work m (control.Runs b last)) r new (ap (body_with last) is ∙ any_last last s) (omega arith) k

  -- there is other statement
  pub kept_end : (b : ℕ) (last : Value) → (entry_at known b).body ≡ [] → KeptFrom index known
      (gives_of index known m last m.turns) (load m + 6) r new → Kept index known m (control.Runs b last) r new
  kept_end b last is k =
      kept_along index known (gives_of index known m last m.turns) (meaning index known m (control.Runs b last))
      (load m + 6) (work m (control.Runs b last)) r new (ap (body_with last) is) (omega arith) k

  -- a statement, by what its level does
  pub kept_statement : (s' s : Statement) (bound : ℕ) → s' ≡ s → bound ≤ load m + 6 →
      KeptFrom index known (in_order (steps_of index known m.left (here_of m.here) (node_of s)) value.Nil (state_of
      m.state) m.turns (flows_of index known m)) bound r new →
      KeptFrom index known (statement_meaning index known m s') (load m + 6) r new
  kept_statement s' s bound is le k =
      kept_along index known
      (in_order (steps_of index known m.left (here_of m.here) (node_of s)) value.Nil (state_of m.state) m.turns
      (flows_of index known m)) (statement_meaning index known m s') bound (load m + 6) r new
      (ap (statement_meaning index known m) is
      ∙ ap (λ ss. in_order ss value.Nil (state_of m.state) m.turns (flows_of index known m))
      (execs_of_node index known m.left (here_of m.here) (node_of s))) le k

  abbrev raise_with : ℕ → Going Value → Meaning
  raise_with e go =
      turn (here_of m.here) m.turns (λ u n. evals index known m.left (here_of m.here) e (state_of m.state) n go)

  -- a `raise`, behind which nothing is run
  pub kept_raise : (s : Statement) (e next : ℕ) → s ≡ statement.Raise e next →
      KeptFrom index known (turn (here_of m.here) m.turns (λ u n.
      meaning_over index known (with_turns m n) (control.Eval e) (onto index known frame.Raise (after_of index known
      m)))) (load m) r new →
      KeptFrom index known (statement_meaning index known m s) (load m + 6) r new
  kept_raise s e next is k =
      kept_statement s (statement.Raise e next) (load m) is (omega arith)
      (kept_along index known (raise_with e (λ v t. raised_layer index profile (here_of m.here) (out-Value v) t
      (flows_of index known m))) (in_order (steps_of index known m.left (here_of m.here) (node_of (statement.Raise e
      next))) value.Nil (state_of m.state) m.turns (flows_of index known m)) (load m) (load m) r new
      (ap (raise_with e) (λ i v t. raised_alone index (here_of m.here) (out-Value v) t
      (λ flow n. flow_on flow (in_order (execs index known m.left (here_of m.here) next)) n (flows_of index known m))
      (flows_of index known m) i)) (omega arith) k)

  abbrev arms_with : ℕ → List (Expr × List Stmt) → Meaning
  arms_with other l =
      arms_of index profile (map (arm_of index profile (calls index known m.left) (here_of m.here))
      (map (λ a. (a.0, map (exec index profile (calls index known m.left) (here_of m.here)) a.1)) l))
      (in_order (execs index known m.left (here_of m.here) other) value.Nil) (state_of m.state) m.turns
      (flows_of index known m)

  -- the arms of an `if` from a node on: the first one's condition
  pub branch_go : (arms test taken more other : ℕ) →
      (entry_at known arms).arms ≡ ((entry_at known test).expr, (entry_at known taken).body)
      ∷ (entry_at known more).arms →
      KeptFrom index known (pushes index known m (frame.Branch taken more other) test) (load m + 5) r new →
      KeptFrom index known (arms_meaning index known m arms other) (load m + 7) r new
  branch_go arms test taken more other is k =
      kept_along index known (pushes index known m (frame.Branch taken more other) test)
      (arms_with other (entry_at known arms).arms) (load m + 5) (load m + 7) r new (ap (arms_with other) is)
      (omega arith) k

  -- the condition of an arm is false: the arms behind it are next
  pub branch_else : (truth : Bool) (taken arms other : ℕ) → truth ≡ false →
      KeptFrom index known (arms_meaning index known m arms other) (load m + 7) r new →
      KeptFrom index known ((if truth then body_from index known m.left (here_of m.here) taken value.Nil (state_of
      m.state) else arms_from index known m.left (here_of m.here) arms other (state_of m.state)) m.turns
      (flows_of index known m)) (load m + 9) r new
  branch_else truth taken arms other is k =
      kept_along index known (arms_meaning index known m arms other)
      ((if truth then body_from index known m.left (here_of m.here) taken value.Nil (state_of
      m.state) else arms_from index known m.left (here_of m.here) arms other (state_of m.state)) m.turns
      (flows_of index known m)) (load m + 7) (load m + 9) r new
      (ap (λ (t : Bool). (if t then body_from index known m.left (here_of m.here) taken value.Nil (state_of
      m.state) else arms_from index known m.left (here_of m.here) arms other (state_of m.state)) m.turns
      (flows_of index known m)) is) (omega arith) k

-- an `if` whose statements behind it wait
pub if_kept : (index : Index) (known : List Entry) (m m2 : Core) (r : Result Control Stop) (new : Core)
    (arms other next : ℕ) (u : Unit {0}) → Pushed m (frame.Then next) (Ok u) m2 →
    KeptFrom index known (arms_meaning index known m2 arms other) (load m2 + 7) r new →
    KeptFrom index known (if_of index known arms other next m) (load m + 11) r new
if_kept index known m m2 r new arms other next u more k =
    let same : arms_meaning index known m2 arms other ≡ if_of index known arms other next m =
    ap (λ (x : Core). arms_meaning index known x arms other) more.0
    ∙ ap (λ after. arms_before index known arms other m (flows after (here_of m.here) m.left))
    (ap (λ fs. rest index known fs bottom) more.1 ∙ rest_push index known m.frames.items (frame.Then next) bottom)
    in
    let le : load m2 + 7 ≤ load m + 11 =
    subst (λ (x : Core). load x + 7 ≤ load m + 11) (sym more.0)
    (rw (more.1, weight_push m.frames.items (frame.Then next)) (omega arith)) in
    kept_along index known (arms_meaning index known m2 arms other) (if_of index known arms other next m)
    (load m2 + 7) (load m + 11) r new (sym same) le k

-- what stops with the error that `raise` of a value has
pub raises_with : (here : Here) (v : Value) (error : RubyError) (s : Stop) →
    raised_layer_error here (out-Value v) ≡ error → StopsWith error s → RaisesWith here v s
raises_with here v error (stop.Raised raised) same is = same ∙ sym is
raises_with here v error stop.Memory same is = tt
raises_with here v error (stop.Done w) same is = absurd is
raises_with here v error (stop.Need task) same is = absurd is

no_text_layer : (here : Here) (v : Value) (l : Value-F Value) → roll-Value l ≡ v →
    ((text : List ℕ) → v ≡ value.Str text → ⊥) →
    raised_layer_error here l ≡ error_at here class.Kind (codes "exception text expected")
unfolding roll-Value denote.Hole.Carrier.roll
no_text_layer here v layer.Nil is other = refl
no_text_layer here v layer.True is other = refl
no_text_layer here v layer.False is other = refl
no_text_layer here v (layer.Int n) is other = refl
no_text_layer here v (layer.Str text) is other = absurd (other text (sym is))
no_text_layer here v (layer.Sym name) is other = refl
no_text_layer here v (layer.Array items) is other = refl
no_text_layer here v (layer.Hash pairs) is other = refl
no_text_layer here v (layer.Module path) is other = refl
no_text_layer here v (layer.Object class variables) is other = refl

-- the error of `raise` of what is other text
pub raised_no_text : (here : Here) (v : Value) → ((text : List ℕ) → v ≡ value.Str text → ⊥) →
    raised_layer_error here (out-Value v) ≡ error_at here class.Kind (codes "exception text expected")
raised_no_text here v other = no_text_layer here v (out-Value v) (roll-out-Value v) other
