-- What a frame that is taken off leaves, and steps one after another.
use Rattle.std.proofs.Common.{◌≡◌, ◌+◌, ◌≤◌, List, [], ◌∷◌, ◌++◌, refl, ap, ◌∙◌, arith}
use Rattle.std.specs.Prelude.{Result, Ok, Err, sum_by}
use Rattle.std.specs.declared.vec.Vec.{Vec}
use Rattle.std.specs.declared.alloc.Global.{Global}
use Rattle.program_places.specs.Places.{Index}
use Rattle.ruby_nodes.specs.Entries.{Entry}
use Rattle.ruby_types.specs.declared.value.Value.{Value}
use Rattle.ruby_runs.specs.Doing.{Meaning}
use Rattle.ruby_runs.specs.Bodies.{Flow, GoesOn, Returns}
use Rattle.ruby_machine_names.specs.Steps.{here_of}
use Rattle.ruby_machine_state.specs.States.{state_of}
use Rattle.ruby_machine_frames.specs.declared.frames.Caller.{Caller}
use Rattle.ruby_machine_frames.specs.declared.frames.Control.{Control}
use Rattle.ruby_machine_frames.specs.declared.frames.Control.TheVariants as control
use Rattle.ruby_machine_frames.specs.declared.frames.Frame.{Frame}
use Rattle.ruby_machine_frames.specs.declared.frames.Frame.TheVariants as frame
use Rattle.ruby_machine_frames.specs.declared.frames.Stop.{Stop}
use Rattle.ruby_machine_frames.specs.declared.frames.Stop.TheVariants as stop
use Rattle.ruby_machine_frames.specs.declared.stack.Core.{Core}
use Rattle.ruby_machine_frames.specs.Rest.{After, Kept, KeptFrom, RunsTo, bottom, frame_meaning, load, meaning, rest}
use Rattle.ruby_machine_frames.specs.Rest.{weight, work}
use Rattle.ruby_machine_frames.proofs.Steps.{kept_along, rest_push, weight_push}
use Rattle.ruby_machine_steps.specs.Falling.{Falls}

module _ (index : Index) (known : List Entry) (old : Core) (frames : Vec Frame Global) (f : Frame)
    (r : Result Control Stop) (new : Core) where
  -- the machine without the frame on top
  abbrev popped : Core
  popped = record old { frames = frames }

  abbrev handing : Flow → After → Meaning
  handing flow after = after flow (here_of old.here) old.left old.turns

  taken : (flow : Flow) → old.frames.items ≡ frames.items ++ f ∷ [] →
      handing flow (rest index known old.frames.items bottom) ≡ frame_meaning index known popped f flow
  taken flow is = ap (λ fs. handing flow (rest index known fs bottom)) is
      ∙ ap (handing flow) (rest_push index known frames.items f bottom)

  lighter : old.frames.items ≡ frames.items ++ f ∷ [] → load popped + (weight f + 5) ≤ load old + 5
  lighter is = omega (arith, ap (sum_by weight) is, weight_push frames.items f)

  -- a value is handed to the frame on top
  pub gives_kept : (v : Value) → old.frames.items ≡ frames.items ++ f ∷ [] →
      KeptFrom index known (frame_meaning index known popped f (GoesOn (state_of old.state) v))
      (load popped + (weight f + 5)) r new → Kept index known old (control.Gives v) r new
  gives_kept v is k =
      kept_along index known (frame_meaning index known popped f (GoesOn (state_of old.state) v))
      (meaning index known old (control.Gives v)) (load popped + (weight f + 5)) (work old (control.Gives v)) r new
      (taken (GoesOn (state_of old.state) v) is) (lighter is) k

  -- a return is handed to the frame on top
  pub returns_kept : (v : Value) → old.frames.items ≡ frames.items ++ f ∷ [] →
      KeptFrom index known (frame_meaning index known popped f (Returns (state_of old.state) v))
      (load popped + (weight f + 5)) r new → Kept index known old (control.Returns v) r new
  returns_kept v is k =
      kept_along index known (frame_meaning index known popped f (Returns (state_of old.state) v))
      (meaning index known old (control.Returns v)) (load popped + (weight f + 5)) (work old (control.Returns v)) r new
      (taken (Returns (state_of old.state) v) is) (lighter is) k

module _ (index : Index) (known : List Entry) (m : Core) where
  -- behind the last frame a value is the run's
  pub gives_done : (v : Value) (new : Core) → m.frames.items ≡ [] →
      Kept index known m (control.Gives v) (Err (stop.Done v)) new
  gives_done v new none =
      ap (λ fs. rest index known fs bottom (GoesOn (state_of m.state) v) (here_of m.here) m.left m.turns) none

  -- and what is returned
  pub returns_done : (v : Value) (new : Core) → m.frames.items ≡ [] →
      Kept index known m (control.Returns v) (Err (stop.Done v)) new
  returns_done v new none =
      ap (λ fs. rest index known fs bottom (Returns (state_of m.state) v) (here_of m.here) m.left m.turns) none

  abbrev Passes : Frame → Value → Type 0
  Passes f v = KeptFrom index known (frame_meaning index known m f (Returns (state_of m.state) v))
      (load m + (weight f + 5)) (Ok (control.Returns v)) m

  -- a return passes each frame but the end of its method
  pub passes : (f : Frame) (v : Value) → ((c : Caller) → f ≡ frame.Leave c → ⊥) →
      ((c : Caller) → f ≡ frame.LeaveNew c → ⊥) → Passes f v
  passes frame.Not v a b = (refl, omega arith)
  passes (frame.And x) v a b = (refl, omega arith)
  passes (frame.Or x) v a b = (refl, omega arith)
  passes (frame.Choose x y) v a b = (refl, omega arith)
  passes (frame.Items x done) v a b = (refl, omega arith)
  passes (frame.Key x y done) v a b = (refl, omega arith)
  passes (frame.Pair key x done) v a b = (refl, omega arith)
  passes (frame.Inside x bytes) v a b = (refl, omega arith)
  passes (frame.Receiver name x) v a b = (refl, omega arith)
  passes (frame.Args on name x done) v a b = (refl, omega arith)
  passes (frame.Names wait) v a b = (refl, omega arith)
  passes (frame.Singleton path name args) v a b = (refl, omega arith)
  passes (frame.Instance on name args) v a b = (refl, omega arith)
  passes (frame.Initialize path args) v a b = (refl, omega arith)
  passes (frame.Then x) v a b = (refl, omega arith)
  passes (frame.Set name x) v a b = (refl, omega arith)
  passes (frame.SetIvar name x) v a b = (refl, omega arith)
  passes frame.Return v a b = (refl, omega arith)
  passes frame.Raise v a b = (refl, omega arith)
  passes (frame.Branch x y z) v a b = (refl, omega arith)
  passes (frame.Leave caller) v a b = absurd (a caller refl)
  passes (frame.LeaveNew caller) v a b = absurd (b caller refl)

module _ (index : Index) (known : List Entry) (old : Core) (now : Control) (mid : Core) (next : Control) where
  -- a run stops as its last step does
  pub ran : (how : Stop) (new : Core) → meaning index known old now ≡ meaning index known mid next →
      Kept index known mid next (Err how) new → RunsTo index known old now how new
  ran (stop.Done v) new same k = same ∙ k
  ran (stop.Raised error) new same k = same ∙ k
  ran (stop.Need task) new same k = same ∙ k.0
  ran stop.Memory new same k = tt

  -- and what there is to do falls
  pub fallen : (how : Stop) (new : Core) → work mid next ≤ work old now → Kept index known mid next (Err how) new →
      Falls old now how new
  fallen (stop.Done v) new le k = tt
  fallen (stop.Raised error) new le k = tt
  fallen (stop.Need task) new le k = λ v. omega (arith, k.1, le)
  fallen stop.Memory new le k = tt
