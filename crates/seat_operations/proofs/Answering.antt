-- Which answers the operations of a request may have, and that the request is ready for them.
use Rattle.std.proofs.Common.{◌≡◌, ℕ, [], Some, None, sym, subst}
use Rattle.system_events.specs.declared.event.Cause.{Cause}
use Rattle.system_events.specs.declared.event.Want.TheVariants.{Unload}
use Rattle.system_events.specs.Facts.{Facts}
use Rattle.system_events.specs.State.{State}
use Rattle.system_core.specs.Tables.{lookup}
use Rattle.request_actor.specs.Talks.{Talks}
use Rattle.request_actor.specs.Order.{Fits, FitsDone, FitsCheck, FitsReload, FitsRelease, FitsLook, FitsLoad}
use Rattle.request_actor.specs.declared.actor.Stage.{Stage}
use Rattle.request_actor.specs.declared.actor.Stage.TheVariants as stage
use Rattle.request_actor.specs.declared.op.Op.{Op}
use Rattle.request_actor.specs.declared.op.Op.TheVariants as op
use Rattle.request_actor.specs.declared.op.Answered.{Answered}
use Rattle.request_actor.specs.declared.op.Answered.TheVariants as answer
use Rattle.request_laws.specs.Standing.{IsServed}
use Rattle.served_requests.specs.Serving.{IsAnswer}
use Rattle.seat_requests.specs.Standing.{IsAskedAt, Stands, IsReady, IsCauseOf}

module _ {M T V P Q R F : Type 0} where
  -- the operation doesn't end the request
  abbrev pub IsNoEnding : Op M T V P Q R F → Type 0
  IsNoEnding (op.End reply) = ⊥
  IsNoEnding (op.Refuse cause) = ⊥
  IsNoEnding _ = Unit {0}

module _ {M T V P Q R F G W E : Type 0} (f : Facts T V P Q R F) (talks : Talks T V P Q R E G W)
    (s : State M T V P Q R F) where
  -- an answer of a look is what the table has of the task
  abbrev pub FromTable : T → Answered V E (Cause M T V P Q R F) → Type 0
  FromTable task (answer.Found value) = lookup f task s.table ≡ Some value
  FromTable task answer.Missing = Unit {0}
  FromTable task _ = ⊥

  -- an answer of a load: it is done, or it failed for what is to blame that the task isn't known
  abbrev pub FromLoad : T → Answered V E (Cause M T V P Q R F) → Type 0
  FromLoad task answer.Done = Unit {0}
  FromLoad task (answer.Failed error) =
      (f.known s.counts.program task ≡ None) × (error ≡ talks.blame s.counts.program task)
  FromLoad task _ = ⊥

  -- what the answer of an operation is, where it comes from this state of the system
  abbrev pub IsAnswerOf : ℕ → Stage Q T W (Cause M T V P Q R F) → Op M T V P Q R F →
      Answered V E (Cause M T V P Q R F) → Type 0
  IsAnswerOf k at op.Check a = FitsCheck a × IsCauseOf f a
  IsAnswerOf k at op.Reload a = FitsReload a × IsCauseOf f a
  IsAnswerOf k at op.Release a = FitsRelease a
  IsAnswerOf k at op.Begin a = (a ≡ answer.Done) × ((q : Q) × IsServed f talks s k q [] at)
  IsAnswerOf k at (op.Look task) a = FromTable task a
  IsAnswerOf k at (op.Load task) a = FromLoad task a
  IsAnswerOf k at op.Finished a = ⊥
  IsAnswerOf k at _ a = a ≡ answer.Done

  -- an answer of a look is one that the stage awaits
  look_answered : (task : T) (waiting : W) (a : Answered V E (Cause M T V P Q R F)) → FromTable task a →
      IsAnswer f talks s (stage.Looks task waiting) a × FitsLook a
  look_answered task waiting (answer.Found value) from = (from, tt)
  look_answered task waiting answer.Missing from = (tt, tt)
  look_answered task waiting answer.Start from = absurd from
  look_answered task waiting answer.Done from = absurd from
  look_answered task waiting answer.Same from = absurd from
  look_answered task waiting answer.Differs from = absurd from
  look_answered task waiting answer.Waits from = absurd from
  look_answered task waiting (answer.Failed error) from = absurd from
  look_answered task waiting (answer.Fault cause) from = absurd from

  -- an answer of a load is one that the stage awaits
  load_answered : (task : T) (waiting : W) (a : Answered V E (Cause M T V P Q R F)) → FromLoad task a →
      IsAnswer f talks s (stage.Loads task waiting) a × FitsLoad a
  load_answered task waiting answer.Done from = (tt, tt)
  load_answered task waiting (answer.Failed error) from = (from, tt)
  load_answered task waiting (answer.Found value) from = absurd from
  load_answered task waiting answer.Missing from = absurd from
  load_answered task waiting answer.Start from = absurd from
  load_answered task waiting answer.Same from = absurd from
  load_answered task waiting answer.Differs from = absurd from
  load_answered task waiting answer.Waits from = absurd from
  load_answered task waiting (answer.Fault cause) from = absurd from

  -- an answer that is Done is the one of what can only be done
  fits_done : (a : Answered V E (Cause M T V P Q R F)) → a ≡ answer.Done → FitsDone a
  fits_done a is = subst (λ (b : Answered V E (Cause M T V P Q R F)). FitsDone b) (sym is) tt

  -- A request is ready for an answer of the operation that it was asked for. Before its end it stands there.
  pub ready_at : (k : ℕ) (at : Stage Q T W (Cause M T V P Q R F)) (asked : Op M T V P Q R F)
      (a : Answered V E (Cause M T V P Q R F)) → IsAskedAt at asked →
      (IsNoEnding asked → Stands f talks s k at asked) → IsAnswerOf k at asked a →
      IsReady f talks s k at a × Fits at a
  ready_at k (stage.Fresh request) asked a asks stands right = absurd asks
  ready_at k (stage.Shares request) asked a asks stands right =
      let is : IsAnswerOf k (stage.Shares request) op.Share a =
      subst (λ (o : Op M T V P Q R F). IsAnswerOf k (stage.Shares request) o a) asks right in
      let stood = stands (subst (λ (o : Op M T V P Q R F). IsNoEnding o) (sym asks) tt) in
      (stood, fits_done a is)
  ready_at k (stage.Checks request) asked a asks stands right =
      let is : IsAnswerOf k (stage.Checks request) op.Check a =
      subst (λ (o : Op M T V P Q R F). IsAnswerOf k (stage.Checks request) o a) asks right in
      let stood = stands (subst (λ (o : Op M T V P Q R F). IsNoEnding o) (sym asks) tt) in
      ((stood, is.1), is.0)
  ready_at k (stage.Takes request) asked a asks stands right =
      let is : IsAnswerOf k (stage.Takes request) (op.Take Unload) a =
      subst (λ (o : Op M T V P Q R F). IsAnswerOf k (stage.Takes request) o a) asks right in
      let stood = stands (subst (λ (o : Op M T V P Q R F). IsNoEnding o) (sym asks) tt) in
      (stood, fits_done a is)
  ready_at k (stage.Reloads request) asked a asks stands right =
      let is : IsAnswerOf k (stage.Reloads request) op.Reload a =
      subst (λ (o : Op M T V P Q R F). IsAnswerOf k (stage.Reloads request) o a) asks right in
      let stood = stands (subst (λ (o : Op M T V P Q R F). IsNoEnding o) (sym asks) tt) in
      ((stood, is.1), is.0)
  ready_at k (stage.Releases next) asked a asks stands right =
      let is : IsAnswerOf k (stage.Releases next) op.Release a =
      subst (λ (o : Op M T V P Q R F). IsAnswerOf k (stage.Releases next) o a) asks right in
      let stood = stands (subst (λ (o : Op M T V P Q R F). IsNoEnding o) (sym asks) tt) in
      (stood, is)
  ready_at k (stage.Resumes next) asked a asks stands right =
      let is : IsAnswerOf k (stage.Resumes next) op.Resume a =
      subst (λ (o : Op M T V P Q R F). IsAnswerOf k (stage.Resumes next) o a) asks right in
      let stood = stands (subst (λ (o : Op M T V P Q R F). IsNoEnding o) (sym asks) tt) in
      (stood, fits_done a is)
  ready_at k (stage.Begins request) asked a asks stands right =
      let is : IsAnswerOf k (stage.Begins request) op.Begin a =
      subst (λ (o : Op M T V P Q R F). IsAnswerOf k (stage.Begins request) o a) asks right in
      (is.1, fits_done a is.0)
  ready_at k (stage.Looks task waiting) asked a asks stands right =
      let is : IsAnswerOf k (stage.Looks task waiting) (op.Look task) a =
      subst (λ (o : Op M T V P Q R F). IsAnswerOf k (stage.Looks task waiting) o a) asks right in
      let stood = stands (subst (λ (o : Op M T V P Q R F). IsNoEnding o) (sym asks) tt) in
      let from = look_answered task waiting a is in
      ((stood.0, (stood.1.0, (stood.1.1.0, from.0))), from.1)
  ready_at k (stage.Loads task waiting) asked a asks stands right =
      let is : IsAnswerOf k (stage.Loads task waiting) (op.Load task) a =
      subst (λ (o : Op M T V P Q R F). IsAnswerOf k (stage.Loads task waiting) o a) asks right in
      let stood = stands (subst (λ (o : Op M T V P Q R F). IsNoEnding o) (sym asks) tt) in
      let from = load_answered task waiting a is in
      ((stood.0, (stood.1.0, (stood.1.1.0, from.0))), from.1)
  ready_at k stage.Ends asked a asks stands right =
      let is : IsAnswerOf k stage.Ends (op.End asks.0) a =
      subst (λ (o : Op M T V P Q R F). IsAnswerOf k stage.Ends o a) asks.1 right in
      (tt, fits_done a is)
  ready_at k stage.Refuses asked a asks stands right =
      let is : IsAnswerOf k stage.Refuses (op.Refuse asks.0) a =
      subst (λ (o : Op M T V P Q R F). IsAnswerOf k stage.Refuses o a) asks.1 right in
      (tt, fits_done a is)
  ready_at k stage.Unshares asked a asks stands right =
      let is : IsAnswerOf k stage.Unshares op.Unshare a =
      subst (λ (o : Op M T V P Q R F). IsAnswerOf k stage.Unshares o a) asks right in
      (tt, fits_done a is)
  ready_at k stage.Over asked a asks stands right =
      absurd (subst (λ (o : Op M T V P Q R F). IsAnswerOf k stage.Over o a) asks right)
