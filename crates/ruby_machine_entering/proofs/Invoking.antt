-- How calls of methods go on in the machine.
use Rattle.std.proofs.Common.{◌≡◌, ℕ, suc, ◌+◌, ◌-◌, Bool, true, false, List, length, map}
use Rattle.std.proofs.Common.{refl, sym, ap, subst, ◌∙◌, arith}
use Rattle.std.specs.Prelude.{◌==◌, if◌then◌else◌, sum_by, Result, Ok, Err, codes}
use Rattle.std.specs.Fmt.{decimal}
use Rattle.ruby_types.specs.declared.request.ErrorClass.TheVariants as class
use Rattle.ruby_types.specs.declared.value.Value.{Value}
use Rattle.ruby_types.specs.declared.value.Value.TheVariants.{Nil}
use Rattle.program_places.specs.Paths.{Name}
use Rattle.program_places.specs.Places.{Index, Method, Body, Statements, Reads}
use Rattle.ruby_nodes.specs.Entries.{Entry, entry_at}
use Rattle.ruby_builtin_base.specs.Answers.{wrong_count_text}
use Rattle.ruby_runs.specs.Doing.{Here, Meaning, ◌>>=◌, error_at, fail, spent, turn}
use Rattle.ruby_runs.specs.Bodies as bodies
use Rattle.ruby_runs.specs.Bodies.{Flow, GoesOn, Left, State, Variables, bound, enter, exec, frames_of, in_order}
use Rattle.ruby_runs.specs.Bodies.{ivar_of, left_by}
use Rattle.ruby_runs.specs.BuiltIns.{made}
use Rattle.ruby_machine_names.specs.Profile.{profile}
use Rattle.ruby_machine_names.specs.Steps.{here_of}
use Rattle.ruby_machine_names.specs.declared.here.HereCode.{HereCode}
use Rattle.ruby_machine_state.specs.States.{state_of}
use Rattle.ruby_machine_state.specs.declared.state.StateCode.{StateCode}
use Rattle.ruby_machine_frames.specs.declared.frames.Caller.{Caller}
use Rattle.ruby_machine_frames.specs.declared.frames.Control.{Control}
use Rattle.ruby_machine_frames.specs.declared.frames.Control.TheVariants as control
use Rattle.ruby_machine_frames.specs.declared.frames.Frame.TheVariants as frame
use Rattle.ruby_machine_frames.specs.declared.frames.Stop.{Stop}
use Rattle.ruby_machine_frames.specs.declared.stack.Core.{Core}
use Rattle.ruby_machine_frames.specs.Rest.{After, KeptFrom, Pushed, Spent, StopsWith, after_of, bottom, calls, flows}
use Rattle.ruby_machine_frames.specs.Rest.{frame_meaning, gives_of, left_to, load, onto, rest, weight}
use Rattle.ruby_machine_frames.proofs.Steps.{kept_along, kept_error, rest_push, weight_push}
use Rattle.ruby_machine_entering.specs.Methods.{enters, given, invokes, leaving_frame}
use Rattle.ruby_machine_entering.specs.declared.entering.Giving.{Giving}
use Rattle.ruby_machine_entering.specs.declared.entering.Giving.TheVariants as giving

module _ (index : Index) (known : List Entry) (m : Core) (gives : Giving) (method : Method) (on : Value)
    (args : List Value) (r : Result Control Stop) (new : Core) where
  -- what a call does, by what frames are left
  abbrev by_left : ℕ → Meaning
  by_left left = (enter index profile (frames_of index profile left) (here_of m.here) method on args
      >>= given gives (here_of m.here)) m.turns (gives_of index known m)

  -- what a call does, by whether the count of its arguments is right
  abbrev by_count : Bool → Meaning
  by_count right = ((if right
      then enter index profile (frames_of index profile m.left) (here_of m.here) method on args
      else fail {A = Left} (here_of m.here) class.Argument
      (wrong_count_text (length args) (decimal (length method.params))))
      >>= given gives (here_of m.here)) m.turns (gives_of index known m)

  -- a wrong count of arguments
  pub wrong_kept : (s : Stop) → (length args == length method.params) ≡ false →
      StopsWith (error_at (here_of m.here) class.Argument
      (wrong_count_text (length args) (decimal (length method.params)))) s →
      KeptFrom index known (invokes index known m gives method on args) (load m + 9) (Err s) new
  wrong_kept s wrong is =
      kept_error index known (invokes index known m gives method on args) (load m + 9)
      (error_at (here_of m.here) class.Argument (wrong_count_text (length args) (decimal (length method.params))))
      s new (ap by_count wrong) is

  -- no frame is left
  pub deep_kept : (s : Stop) → (length args == length method.params) ≡ true → m.left ≡ 0 →
      StopsWith (error_at (here_of m.here) class.Stack (codes "stack level too deep")) s →
      KeptFrom index known (invokes index known m gives method on args) (load m + 9) (Err s) new
  deep_kept s right none is =
      kept_error index known (invokes index known m gives method on args) (load m + 9)
      (error_at (here_of m.here) class.Stack (codes "stack level too deep")) s new
      (ap by_count right ∙ ap by_left none) is

  -- a frame is opened
  pub opened_kept : (left : ℕ) (body : Body) → (length args == length method.params) ≡ true → m.left ≡ suc left →
      method.body ≡ body →
      KeptFrom index known (enters index known m gives left method body on args) (load m + 9) r new →
      KeptFrom index known (invokes index known m gives method on args) (load m + 9) r new
  opened_kept left body right some is k =
      kept_along index known (enters index known m gives left method body on args)
      (invokes index known m gives method on args) (load m + 9) (load m + 9) r new
      (ap by_count right ∙ (ap by_left some ∙ ap (λ b. enters index known m gives left method b on args) is))
      (omega arith) k

  -- no turn is left for a reader
  pub unread_kept : (left : ℕ) (name : Name) (here : Here) (s : Stop) →
      here ≡ bodies.here_of m.here.limit method → m.turns ≡ 0 → StopsWith (spent here) s →
      KeptFrom index known (enters index known m gives left method (Reads name) on args) (load m + 9) (Err s) new
  unread_kept left name here s at none is =
      kept_error index known (enters index known m gives left method (Reads name) on args) (load m + 9)
      (spent (bodies.here_of m.here.limit method)) s new
      (ap (λ turns. turn (bodies.here_of m.here.limit method) turns (λ u n.
      given gives (here_of m.here) (record { value = ivar_of on name; self = on }) n (gives_of index known m))) none)
      (subst (λ h. StopsWith (spent h) s) at is)

-- a reader gives its variable
pub read_kept : (index : Index) (known : List Entry) (m m' : Core) (method : Method) (on : Value) (args : List Value)
    (left : ℕ) (name : Name) (value : Value) → Spent m true m' → value ≡ ivar_of on name →
    KeptFrom index known (enters index known m giving.Value left method (Reads name) on args) (load m + 9)
    (Ok (control.Gives value)) m'
read_kept index known m m' method on args left name value spent is =
    subst (λ (o : Core). KeptFrom index known (enters index known o giving.Value left method (Reads name) on args)
    (load o + 9) (Ok (control.Gives value)) m') (sym spent)
    (ap (λ v. gives_of index known m' v m'.turns) (sym is), omega arith)

-- a reader is the `initialize` of an object
pub read_object_kept : (index : Index) (known : List Entry) (m m' : Core) (method : Method) (on : Value)
    (args : List Value) (left : ℕ) (name : Name) (r : Result Control Stop) (new : Core) → Spent m true m' →
    KeptFrom index known (made (here_of m'.here) on m'.turns (gives_of index known m')) (load m' + 6) r new →
    KeptFrom index known (enters index known m giving.Object left method (Reads name) on args) (load m + 9) r new
read_object_kept index known m m' method on args left name r new spent k =
    subst (λ (o : Core). KeptFrom index known (enters index known o giving.Object left method (Reads name) on args)
    (load o + 9) r new) (sym spent)
    (kept_along index known (made (here_of m'.here) on m'.turns (gives_of index known m'))
    (made (here_of m'.here) on m'.turns (gives_of index known m')) (load m' + 6)
    (load (record m' { turns = suc m'.turns }) + 9) r new refl (omega arith) k)

module _ (index : Index) (known : List Entry) (m : Core) (method : Method) (first : ℕ) (on : Value)
    (args : List Value) where
  -- statements of a method that run with this behind them
  abbrev runs : Here → State → After → Meaning
  runs here state after =
      in_order (map (exec index profile (calls index known (m.left - 1)) here) (entry_at known first).body) Nil
      state m.turns (flows after here (m.left - 1))

  abbrev with_self : Value → Variables → State
  with_self value locals = record { self = value; locals = locals }

  abbrev caller : Caller
  caller = record { here = m.here; state = m.state; left = m.left }

  -- what a method gives goes to the frame behind which it runs
  runs_onto : (gives : Giving) →
      enters index known m gives (m.left - 1) method (Statements (entry_at known first).body) on args
      ≡ runs (bodies.here_of m.here.limit method) (record { self = on; locals = bound method.params args })
      (onto index known (leaving_frame gives caller) (after_of index known m))
  runs_onto giving.Value = refl
  runs_onto giving.Object = refl

  leaving_weight : (gives : Giving) → weight (leaving_frame gives caller) ≡ 2
  leaving_weight giving.Value = refl
  leaving_weight giving.Object = refl

  -- the statements of a method run in a frame of their own
  pub entered_kept : (gives : Giving) (here : HereCode) (state : StateCode) (u : Unit {0}) (new : Core) →
      here_of here ≡ bodies.here_of m.here.limit method → state.itself ≡ on →
      state.locals.items ≡ bound method.params args →
      Pushed (record m { here = here; state = state; left = m.left - 1 }) (leaving_frame gives caller) (Ok u) new →
      KeptFrom index known
      (enters index known m gives (m.left - 1) method (Statements (entry_at known first).body) on args)
      (load m + 9) (Ok (control.Runs first Nil)) new
  entered_kept gives here state u new at is bound' more =
      subst (λ n. KeptFrom index known
      (enters index known m gives (m.left - 1) method (Statements (entry_at known first).body) on args)
      (load m + 9) (Ok (control.Runs first Nil)) n) (sym more.0) (
        runs_onto gives
            ∙ (ap (λ h. runs h (with_self on (bound method.params args))
            (onto index known (leaving_frame gives caller) (after_of index known m))) (sym at)
            ∙ (ap (λ s. runs (here_of here) s (onto index known (leaving_frame gives caller) (after_of index known m)))
            (sym (ap (λ v. with_self v state.locals.items) is ∙ ap (with_self on) bound'))
            ∙ ap (λ after. runs (here_of here) (state_of state) after)
            (sym (ap (λ fs. rest index known fs bottom) more.1
            ∙ rest_push index known m.frames.items (leaving_frame gives caller) bottom)))),
        omega (
          arith,
          ap (sum_by weight) more.1,
          weight_push m.frames.items (leaving_frame gives caller),
          leaving_weight gives,
        ),
      )

-- a method is left with its value
pub left_kept : (index : Index) (known : List Entry) (m new : Core) (caller : Caller) (value : Value) (flow : Flow) →
    new ≡ left_to m caller → (left_by flow).value ≡ value →
    KeptFrom index known (frame_meaning index known m (frame.Leave caller) flow) (load m + 7)
    (Ok (control.Gives value)) new
left_kept index known m new caller value flow back is =
    subst (λ n. KeptFrom index known (frame_meaning index known m (frame.Leave caller) flow) (load m + 7)
    (Ok (control.Gives value)) n) (sym back) (
      ap (λ v. after_of index known m (GoesOn (state_of caller.state) v) (here_of caller.here) caller.left m.turns) is,
      omega arith,
    )

-- `initialize` is left, and its object is paid for
pub left_new_kept : (index : Index) (known : List Entry) (m m' : Core) (caller : Caller) (object : Value) (flow : Flow)
    (r : Result Control Stop) (new : Core) → m' ≡ left_to m caller → (left_by flow).self ≡ object →
    KeptFrom index known (made (here_of m'.here) object m'.turns (gives_of index known m')) (load m' + 6) r new →
    KeptFrom index known (frame_meaning index known m (frame.LeaveNew caller) flow) (load m + 7) r new
left_new_kept index known m m' caller object flow r new back is k =
    let back' : Core = left_to m caller in
    kept_along index known
    (made (here_of caller.here) object m.turns (gives_of index known back'))
    (frame_meaning index known m (frame.LeaveNew caller) flow) (load m + 6) (load m + 7) r new
    (ap (λ v. made (here_of caller.here) v m.turns (gives_of index known back')) is) (omega arith)
    (subst (λ (o : Core). KeptFrom index known (made (here_of o.here) object o.turns (gives_of index known o))
    (load o + 6) r new) back k)
