-- What one step of the machine does to what it still has to do.
use Rattle.std.proofs.Common.{◌≡◌, ℕ, zero, suc, ◌+◌, ◌*◌, ◌<◌, ◌≤◌, Bool, true, false, List, [], ◌∷◌, ◌++◌, map}
use Rattle.std.proofs.Common.{Option, Some, None}
use Rattle.std.proofs.Common.{refl, sym, ap, subst, ◌∙◌, arith}
use Rattle.std.proofs.lemmas.Bool.{le-leb, lt-leb}
use Rattle.std.proofs.lemmas.List.Sums.{sum_by-append}
use Rattle.std.specs.Prelude.{sum_by, min, nat_le, Result, Ok, Err, ◌-◌, ◌/◌, ◌^◌}
use Rattle.ruby_types.specs.Size.{size}
use Rattle.ruby_runs.specs.BuiltIns.{made}
use Rattle.by_need.specs.Asking.{Gives, Ask, Error}
use Rattle.by_need.specs.Asking as asking
use Rattle.ruby_types.specs.declared.tree.Expr.{Expr}
use Rattle.ruby_types.specs.declared.request.RubyError.{RubyError}
use Rattle.ruby_types.specs.declared.request.Task.{Task}
use Rattle.ruby_types.specs.declared.value.Value.{Value}
use Rattle.ruby_types.specs.declared.value.Value.TheVariants.{Nil, Array, Hash}
use Rattle.program_places.specs.Paths.{Name}
use Rattle.ruby_builtin_keys.specs.Merging.{merged}
use Rattle.program_places.specs.Places.{Index}
use Rattle.std.specs.declared.vec.Vec.{Vec}
use Rattle.std.specs.declared.alloc.Global.{Global}
use Rattle.ruby_nodes.specs.Entries.{Entry, entry_at, entry_of, no_entry}
use Rattle.ruby_nodes.specs.declared.table.Node.{Node}
use Rattle.ruby_runs.specs.Doing.{Meaning, spent, turn, ◌>>=◌}
use Rattle.ruby_runs.specs.Bodies.{Eval, Flow, GoesOn, Returns, all_of, all_pairs, in_order}
use Rattle.ruby_machine_names.specs.Profile.{profile}
use Rattle.ruby_machine_names.specs.Steps.{here_of}
use Rattle.ruby_machine_state.specs.States.{state_of}
use Rattle.ruby_machine_frames.specs.declared.frames.Frame.{Frame}
use Rattle.ruby_machine_frames.specs.declared.frames.Frame.TheVariants as frame
use Rattle.ruby_machine_frames.specs.declared.frames.Control.{Control}
use Rattle.ruby_machine_frames.specs.declared.frames.Control.TheVariants as control
use Rattle.ruby_machine_frames.specs.declared.frames.Stop.{Stop}
use Rattle.ruby_machine_frames.specs.declared.frames.Stop.TheVariants as stop
use Rattle.ruby_machine_frames.specs.declared.stack.Core.{Core}
use Rattle.ruby_machine_frames.specs.Rest.{After, Kept, KeptFrom, Pushed, RunsTo, Spent, StopsWith, after_of, bottom}
use Rattle.ruby_machine_frames.specs.Rest.{flows_of}
use Rattle.ruby_machine_frames.specs.Rest.{frame_meaning, gives_of, load, meaning, meaning_over, needs, onto, pushes}
use Rattle.ruby_machine_frames.specs.Rest.{rest}
use Rattle.ruby_machine_frames.specs.Rest.{args_from, calls, eval_of, execs, items_from, pairs_from, weight}
use Rattle.ruby_machine_frames.specs.Rest.{with_turns, work}
use Rattle.ruby_machine_frames.proofs.Levels.{layer_of, evals_are, evals_none, steps_of, execs_are}

-- the frame that is put on top comes first
pub rest_push : (index : Index) (known : List Entry) (fs : List Frame) (f : Frame) (after : After) →
    rest index known (fs ++ f ∷ []) after ≡ onto index known f (rest index known fs after)
rest_push index known [] f after = refl
rest_push index known (g ∷ fs) f after = rest_push index known fs f (onto index known g after)

-- a frame on top adds its weight
pub weight_push : (fs : List Frame) (f : Frame) → sum_by weight (fs ++ f ∷ []) ≡ sum_by weight fs + weight f
weight_push fs f = omega (arith, sum_by-append weight fs (f ∷ []))

module _ (index : Index) (known : List Entry) where
  -- a step keeps what is equal, below a greater bound
  pub kept_along : (before' before : Meaning) (bound' bound : ℕ) (r : Result Control Stop) (new : Core) →
      before ≡ before' → bound' ≤ bound → KeptFrom index known before' bound' r new →
      KeptFrom index known before bound r new
  kept_along before' before bound' bound (Ok next) new same le k = (same ∙ k.0, omega (arith, k.1, le))
  kept_along before' before bound' bound (Err (stop.Done v)) new same le k = same ∙ k
  kept_along before' before bound' bound (Err (stop.Raised error)) new same le k = same ∙ k
  kept_along before' before bound' bound (Err (stop.Need task)) new same le k = (same ∙ k.0, omega (arith, k.1, le))
  kept_along before' before bound' bound (Err stop.Memory) new same le k = tt

  -- a run that ends with an error keeps it
  pub kept_error : (before : Meaning) (bound : ℕ) (error : RubyError) (s : Stop) (new : Core) →
      before ≡ Gives (Error error) → StopsWith error s → KeptFrom index known before bound (Err s) new
  kept_error before bound error (stop.Raised raised) new same is = same ∙ ap (λ e. Gives (Error e)) (sym is)
  kept_error before bound error stop.Memory new same is = tt
  kept_error before bound error (stop.Done v) new same is = absurd is
  kept_error before bound error (stop.Need task) new same is = absurd is

  -- a frame on top, and an expression
  pub kept_push : (m new : Core) (f : Frame) (e : ℕ) (u : Unit {0}) → Pushed m f (Ok u) new →
      KeptFrom index known (meaning_over index known m (control.Eval e) (onto index known f (after_of index known m)))
      (load m + (weight f + 1)) (Ok (control.Eval e)) new
  kept_push m new f e u more =
      subst (λ n. KeptFrom index known (meaning_over index known m (control.Eval e) (onto index known f (after_of
      index known m)))
      (load m + (weight f + 1)) (Ok (control.Eval e)) n) (sym more.0) (
        rw (more.1, rest_push index known m.frames.items f bottom) refl,
        rw (more.1, weight_push m.frames.items f)
            (omega arith),
      )

  -- a frame on top, and a question
  pub kept_need : (m new : Core) (f : Frame) (task : Task) (u : Unit {0}) → Pushed m f (Ok u) new →
      KeptFrom index known (needs index known m f task) (load m + (weight f + 6)) (Err (stop.Need task)) new
  kept_need m new f task u more =
      subst (λ n. KeptFrom index known (needs index known m f task) (load m + (weight f + 6)) (Err (stop.Need task)) n)
      (sym more.0) (
        rw (more.1, rest_push index known m.frames.items f bottom) refl,
        rw (more.1, weight_push m.frames.items f)
            (omega arith),
      )

  -- no turn is left
  pub kept_spent : (m : Core) (after : Unit {0} → ℕ → Meaning) (bound : ℕ) (s : Stop) (new : Core) → m.turns ≡ 0 →
      StopsWith (spent (here_of m.here)) s → KeptFrom index known (turn (here_of m.here) m.turns after) bound (Err s)
      new
  kept_spent m after bound s new none is =
      kept_error (turn (here_of m.here) m.turns after) bound (spent (here_of m.here)) s new
      (ap (λ n. turn (here_of m.here) n after) none) is

  -- a turn was spent
  pub kept_turn : (old m : Core) (after : Unit {0} → ℕ → Meaning) (bound bound' : ℕ) (r : Result Control Stop) (new :
      Core) →
      old ≡ record m { turns = suc m.turns } → bound' ≤ bound → KeptFrom index known (after tt m.turns) bound' r new →
      KeptFrom index known (turn (here_of old.here) old.turns after) bound r new
  kept_turn old m after bound bound' r new is le k =
      kept_along (after tt m.turns) (turn (here_of old.here) old.turns after) bound' bound r new
      (ap (λ (o : Core). turn (here_of o.here) o.turns after) is) le k

  -- a node that is an expression
  pub kept_node : (m : Core) (e : ℕ) (n l : Node) (r : Result Control Stop) (new : Core) →
      entry_at known e ≡ entry_of known n → n ≡ l →
      KeptFrom index known (layer_of index known m.left (here_of m.here) l (state_of m.state) m.turns (gives_of index
      known m))
      (load m) r new → Kept index known m (control.Eval e) r new
  kept_node m e n l r new stands is k =
      kept_along
      (layer_of index known m.left (here_of m.here) l (state_of m.state) m.turns (gives_of index known m))
      (meaning index known m (control.Eval e)) (load m) (work m (control.Eval e)) r new
      (ap (λ ev. ev (state_of m.state) m.turns (gives_of index known m))
      (evals_are index known m.left (here_of m.here) e n l stands is)) (omega arith) k

  -- statements from a node on
  pub kept_steps : (m : Core) (b : ℕ) (n l : Node) (last : Value) (bound : ℕ) (r : Result Control Stop) (new : Core) →
      entry_at known b ≡ entry_of known n → n ≡ l → bound ≤ load m + 6 →
      KeptFrom index known
      (in_order (steps_of index known m.left (here_of m.here) l) last (state_of m.state) m.turns (flows_of index
      known m))
      bound r new → Kept index known m (control.Runs b last) r new
  kept_steps m b n l last bound r new stands is le k =
      kept_along
      (in_order (steps_of index known m.left (here_of m.here) l) last (state_of m.state) m.turns (flows_of index
      known m))
      (meaning index known m (control.Runs b last)) bound (work m (control.Runs b last)) r new
      (ap (λ ss. in_order ss last (state_of m.state) m.turns (flows_of index known m))
      (execs_are index known m.left (here_of m.here) b n l stands is)) (omega (arith, le)) k

-- a frame weighs four at most
pub weight_le : (f : Frame) → weight f ≤ 4
weight_le frame.Not = omega arith
weight_le (frame.And b) = omega arith
weight_le (frame.Or b) = omega arith
weight_le (frame.Choose a b) = omega arith
weight_le (frame.Items more done) = omega arith
weight_le (frame.Key value more done) = omega arith
weight_le (frame.Pair key more done) = omega arith
weight_le (frame.Inside more bytes) = omega arith
weight_le (frame.Receiver name first) = omega arith
weight_le (frame.Args on name more done) = omega arith
weight_le (frame.Names wait) = omega arith
weight_le (frame.Singleton path name args) = omega arith
weight_le (frame.Instance on name args) = omega arith
weight_le (frame.Initialize path args) = omega arith
weight_le (frame.Then b) = omega arith
weight_le (frame.Set name b) = omega arith
weight_le (frame.SetIvar name b) = omega arith
weight_le frame.Return = omega arith
weight_le frame.Raise = omega arith
weight_le (frame.Branch taken arms other) = omega arith
weight_le (frame.Leave caller) = omega arith
weight_le (frame.LeaveNew caller) = omega arith

module _ (index : Index) (known : List Entry) (old m : Core) (r : Result Control Stop) (new : Core) where
  -- a turn was spent, and a frame put on top of an expression
  pub turn_eval_kept : (f : Frame) (e : ℕ) → Spent old true m →
      KeptFrom index known (meaning_over index known m (control.Eval e) (onto index known f (after_of index known m)))
      (load m + (weight f + 1)) r new →
      KeptFrom index known (turn (here_of old.here) old.turns (λ u n.
      meaning_over index known (with_turns old n) (control.Eval e) (onto index known f (after_of index known old))))
      (load old) r new
  turn_eval_kept f e spent k =
      subst (λ (o : Core). KeptFrom index known (turn (here_of o.here) o.turns (λ u n.
      meaning_over index known (with_turns o n) (control.Eval e) (onto index known f (after_of index known o))))
      (load o) r new) (sym spent)
      (kept_along index known (meaning_over index known m (control.Eval e) (onto index known f (after_of index known
      m)))
      (meaning_over index known m (control.Eval e) (onto index known f (after_of index known m)))
      (load m + (weight f + 1)) (load (record m { turns = suc m.turns })) r new refl (omega (arith, weight_le f)) k)

  -- a turn was spent, and a task is needed with a frame on top
  pub turn_need_kept : (f : Frame) (task : Task) → Spent old true m →
      KeptFrom index known (needs index known m f task) (load m + (weight f + 6)) r new →
      KeptFrom index known (turn (here_of old.here) old.turns (λ u n. needs index known (with_turns old n) f task))
      (load old + 1) r new
  turn_need_kept f task spent k =
      subst (λ (o : Core). KeptFrom index known (turn (here_of o.here) o.turns (λ u n.
      needs index known (with_turns o n) f task)) (load o + 1) r new) (sym spent)
      (kept_along index known (needs index known m f task) (needs index known m f task)
      (load m + (weight f + 6)) (load (record m { turns = suc m.turns }) + 1) r new refl (omega (arith, weight_le f)) k)

-- a turn was spent, and a value is given
pub turn_gives_kept : (index : Index) (known : List Entry) (old m : Core) (v : Value) → Spent old true m →
    KeptFrom index known (turn (here_of old.here) old.turns (λ u n. gives_of index known old v n)) (load old)
    (Ok (control.Gives v)) m
turn_gives_kept index known old m v spent =
    subst (λ (o : Core). KeptFrom index known (turn (here_of o.here) o.turns (λ u n. gives_of index known o v n))
    (load o)
    (Ok (control.Gives v)) m) (sym spent) (refl, omega arith)

-- no turn was left
pub unspent_kept : (index : Index) (known : List Entry) (old m : Core) (after : Unit {0} → ℕ → Meaning) (bound : ℕ)
    (s : Stop) → Spent old false m → StopsWith (spent (here_of m.here)) s →
    KeptFrom index known (turn (here_of old.here) old.turns after) bound (Err s) m
unspent_kept index known old m after bound s none is =
    kept_error index known (turn (here_of old.here) old.turns after) bound (spent (here_of old.here)) s m
    (ap (λ n. turn (here_of old.here) n after) none.0) (subst (λ (o : Core). StopsWith (spent (here_of o.here)) s)
    none.1 is)

-- a turn was spent, and then something is done
pub turn_then_kept : (index : Index) (known : List Entry) (old m : Core) (r : Result Control Stop) (new : Core)
    (X : Core → Meaning) (bound : ℕ) → Spent old true m → bound ≤ load m + 10 → KeptFrom index known (X m) bound r new →
    KeptFrom index known (turn (here_of old.here) old.turns (λ u n. X (with_turns old n))) (load old) r new
turn_then_kept index known old m r new X bound spent le k =
    subst (λ (o : Core). KeptFrom index known (turn (here_of o.here) o.turns (λ u n. X (with_turns o n))) (load o) r
    new)
    (sym spent)
    (kept_along index known (X m) (X m) bound (load (record m { turns = suc m.turns })) r new refl (omega (
      arith,
      le,
    )) k)

-- the same where more may be done behind it
pub turn_then_more : (index : Index) (known : List Entry) (old m : Core) (r : Result Control Stop) (new : Core)
    (X : Core → Meaning) (bound : ℕ) → Spent old true m → bound ≤ load m + 16 → KeptFrom index known (X m) bound r new →
    KeptFrom index known (turn (here_of old.here) old.turns (λ u n. X (with_turns old n))) (load old + 6) r new
turn_then_more index known old m r new X bound spent le k =
    subst (λ (o : Core). KeptFrom index known (turn (here_of o.here) o.turns (λ u n. X (with_turns o n))) (load o +
    6) r new)
    (sym spent)
    (kept_along index known (X m) (X m) bound (load (record m { turns = suc m.turns }) + 6) r new refl (omega (
      arith,
      le,
    )) k)

-- a size that counts as no more than 2^64 - 1, by 16, where it is at most the turns that are left
capped : (s t : ℕ) → t < 2 ^ 32 → min s (2 ^ 64 - 1) / 16 ≤ t → min s (2 ^ 64 - 1) ≡ s
capped s t small le = omega (arith, small, le)

uncapped : (s t : ℕ) → t < 2 ^ 32 → t < min s (2 ^ 64 - 1) / 16 → t < s / 16
uncapped s t small le = omega (arith, small, le)

-- a value is paid for
pub made_kept : (index : Index) (known : List Entry) (m : Core) (v : Value) (s : ℕ) → s ≡ min (size v) (2 ^ 64 - 1) →
    m.turns < 2 ^ 32 → s / 16 ≤ m.turns →
    KeptFrom index known (made (here_of m.here) v m.turns (gives_of index known m)) (load m + 6) (Ok (control.Gives v))
    (record m { turns = m.turns - s / 16 })
made_kept index known m v s is small le =
    let same : size v ≡ s = sym (is ∙ capped (size v) m.turns small (subst (λ x. x / 16 ≤ m.turns) is le)) in
    (rw (same, le-leb (s / 16) m.turns le) refl, omega (arith, le))

-- or it is too dear
pub unmade_kept : (index : Index) (known : List Entry) (m : Core) (v : Value) (s : ℕ) → s ≡ min (size v) (2 ^ 64 - 1) →
    m.turns < 2 ^ 32 → m.turns < s / 16 → (f : Stop) → StopsWith (spent (here_of m.here)) f →
    KeptFrom index known (made (here_of m.here) v m.turns (gives_of index known m)) (load m + 6) (Err f) m
unmade_kept index known m v s is small lt f stops =
    kept_error index known (made (here_of m.here) v m.turns (gives_of index known m)) (load m + 6) (spent (here_of
    m.here)) f m
    (rw (lt-leb (size v / 16) m.turns (uncapped (size v) m.turns small (subst (λ x. m.turns < x / 16) is lt))) refl)
    stops

module _ (index : Index) (known : List Entry) (m : Core) (new : Core) (r : Result Control Stop) where
  -- a frame that was taken off, by what it is
  pub resumed : (f l : Frame) (flow : Flow) → f ≡ l →
      KeptFrom index known (frame_meaning index known m l flow) (load m + (weight l + 5)) r new →
      KeptFrom index known (frame_meaning index known m f flow) (load m + (weight f + 5)) r new
  resumed f l flow is k =
      subst (λ x. KeptFrom index known (frame_meaning index known m x flow) (load m + (weight x + 5)) r new) (sym is) k

module _ (index : Index) (known : List Entry) (m : Core) (r : Result Control Stop) (new : Core) where
  -- an expression that gives a value behind its turn
  pub kept_value : (e : ℕ) (n l : Node) (v' v : Value) → entry_at known e ≡ entry_of known n → n ≡ l →
      layer_of index known m.left (here_of m.here) l (state_of m.state) m.turns (gives_of index known m)
      ≡ turn (here_of m.here) m.turns (λ u t. gives_of index known m v t) → v' ≡ v →
      KeptFrom index known (turn (here_of m.here) m.turns (λ u t. gives_of index known m v' t)) (load m) r new →
      Kept index known m (control.Eval e) r new
  kept_value e n l v' v stands is same given k =
      kept_node index known m e n l r new stands is (subst (λ b. KeptFrom index known b (load m) r new) (sym same)
      (subst (λ x. KeptFrom index known (turn (here_of m.here) m.turns (λ u t. gives_of index known m x t)) (load m)
      r new)
      given k))

  -- what is no node is nil
  pub kept_none : (e : ℕ) → entry_at known e ≡ no_entry →
      KeptFrom index known (turn (here_of m.here) m.turns (λ u t. gives_of index known m Nil t)) (load m) r new →
      Kept index known m (control.Eval e) r new
  kept_none e is k =
      kept_along index known (turn (here_of m.here) m.turns (λ u t. gives_of index known m Nil t))
      (meaning index known m (control.Eval e)) (load m) (work m (control.Eval e)) r new
      (ap (λ ev. ev (state_of m.state) m.turns (gives_of index known m))
      (evals_none index known m.left (here_of m.here) e (ap (λ x. x.expr) is))) (omega arith) k

  -- no statement is left
  pub kept_end : (b : ℕ) (last : Value) → execs index known m.left (here_of m.here) b ≡ [] → r ≡ Ok (control.Gives
      last) →
      new ≡ m → Kept index known m (control.Runs b last) r new
  kept_end b last none is same =
      subst (λ x. Kept index known m (control.Runs b last) x new) (sym is)
      (subst (λ x. Kept index known m (control.Runs b last) (Ok (control.Gives last)) x) (sym same)
      (ap (λ ss. in_order ss last (state_of m.state) m.turns (flows_of index known m)) none, omega arith))

  abbrev items_with : List Value → List Expr → Meaning
  items_with done l = (all_of (map (eval_of index known m.left (here_of m.here)) l) (state_of m.state) done
      >>= (λ items. made (here_of m.here) (Array items))) m.turns (gives_of index known m)

  -- the items of an array from a node on: the first, and then the others
  pub items_go : (more first others : ℕ) (done : List Value) →
      (entry_at known more).items ≡ (entry_at known first).expr ∷ (entry_at known others).items →
      KeptFrom index known (pushes index known m (frame.Items others done) first) (load m + 5) r new →
      KeptFrom index known (items_from index known m.left (here_of m.here) more done (state_of m.state) m.turns
      (gives_of index known m)) (load m + 9) r new
  items_go more first others done is k =
      kept_along index known (pushes index known m (frame.Items others done) first)
      (items_with done (entry_at known more).items) (load m + 5) (load m + 9) r new (ap (items_with done) is)
      (omega arith) k

  -- or their end
  pub items_end : (more : ℕ) (done : List Value) → (entry_at known more).items ≡ [] →
      KeptFrom index known (made (here_of m.here) (Array done) m.turns (gives_of index known m)) (load m + 6) r new →
      KeptFrom index known (items_from index known m.left (here_of m.here) more done (state_of m.state) m.turns
      (gives_of index known m)) (load m + 9) r new
  items_end more done is k =
      kept_along index known (made (here_of m.here) (Array done) m.turns (gives_of index known m))
      (items_with done (entry_at known more).items) (load m + 6) (load m + 9) r new (ap (items_with done) is)
      (omega arith) k

  abbrev args_with : Value → Name → List Value → List Expr → Meaning
  args_with on name done l = (all_of (map (eval_of index known m.left (here_of m.here)) l) (state_of m.state) done
      >>= calls index known m.left (here_of m.here) on name) m.turns (gives_of index known m)

  -- the arguments of a call from a node on
  pub args_go : (on : Value) (name : Name) (more first others : ℕ) (done : List Value) →
      (entry_at known more).items ≡ (entry_at known first).expr ∷ (entry_at known others).items →
      KeptFrom index known (pushes index known m (frame.Args on name others done) first) (load m + 5) r new →
      KeptFrom index known (args_from index known m.left (here_of m.here) on name more done (state_of m.state) m.turns
      (gives_of index known m)) (load m + 9) r new
  args_go on name more first others done is k =
      kept_along index known (pushes index known m (frame.Args on name others done) first)
      (args_with on name done (entry_at known more).items) (load m + 5) (load m + 9) r new
      (ap (args_with on name done) is) (omega arith) k

  -- behind them the call
  pub args_end : (on : Value) (name : Name) (more : ℕ) (done : List Value) → (entry_at known more).items ≡ [] →
      KeptFrom index known (calls index known m.left (here_of m.here) on name done m.turns (gives_of index known m))
      (load m + 9) r new →
      KeptFrom index known (args_from index known m.left (here_of m.here) on name more done (state_of m.state) m.turns
      (gives_of index known m)) (load m + 9) r new
  args_end on name more done is k =
      kept_along index known (calls index known m.left (here_of m.here) on name done m.turns (gives_of index known m))
      (args_with on name done (entry_at known more).items) (load m + 9) (load m + 9) r new
      (ap (args_with on name done) is) (omega arith) k

  abbrev pair_of : Expr × Expr → Eval × Eval
  pair_of p = (eval_of index known m.left (here_of m.here) p.0, eval_of index known m.left (here_of m.here) p.1)

  abbrev pairs_with : List (Value × Value) → List (Expr × Expr) → Meaning
  pairs_with hash l = (all_pairs (map pair_of l) (state_of m.state) hash
      >>= (λ pairs. made (here_of m.here) (Hash pairs))) m.turns (gives_of index known m)

  -- the pairs of a hash from a node on
  pub pairs_go : (more key val others : ℕ) (done : Vec (Value × Value) Global) →
      (entry_at known more).pairs
      ≡ ((entry_at known key).expr, (entry_at known val).expr) ∷ (entry_at known others).pairs →
      KeptFrom index known (pushes index known m (frame.Key val others done) key) (load m + 5) r new →
      KeptFrom index known (pairs_from index known m.left (here_of m.here) more done.items (state_of m.state) m.turns
      (gives_of index known m)) (load m + 9) r new
  pairs_go more key val others done is k =
      kept_along index known (pushes index known m (frame.Key val others done) key)
      (pairs_with (merged [] done.items) (entry_at known more).pairs) (load m + 5) (load m + 9) r new
      (ap (pairs_with (merged [] done.items)) is) (omega arith) k

  -- or their end
  pub pairs_end : (more : ℕ) (done : Vec (Value × Value) Global) → (entry_at known more).pairs ≡ [] →
      KeptFrom index known (made (here_of m.here) (Hash (merged [] done.items)) m.turns (gives_of index known m))
      (load m + 6) r new →
      KeptFrom index known (pairs_from index known m.left (here_of m.here) more done.items (state_of m.state) m.turns
      (gives_of index known m)) (load m + 9) r new
  pairs_end more done is k =
      kept_along index known (made (here_of m.here) (Hash (merged [] done.items)) m.turns (gives_of index known m))
      (pairs_with (merged [] done.items) (entry_at known more).pairs) (load m + 6) (load m + 9) r new
      (ap (pairs_with (merged [] done.items)) is) (omega arith) k
