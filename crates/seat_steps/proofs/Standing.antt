-- An open request stands still behind the steps that it makes, and behind those of other seats.
use Rattle.std.proofs.Common.{◌≡◌, ◌≢◌, ◌∷◌, [], ℕ, List, Option, Some, None, refl, sym, ap, ◌∙◌, subst}
use Rattle.by_need_loader.specs.Progress.{Progress}
use Rattle.system_events.specs.declared.event.Cause.{Cause}
use Rattle.system_events.specs.declared.event.Entry.{Entry}
use Rattle.system_events.specs.Facts.{Facts, SameIsEqual}
use Rattle.system_events.specs.State.{State, running_request}
use Rattle.system_events.specs.Legal.{IsStep}
use Rattle.system_laws.specs.Lawful.{IsExclusive}
use Rattle.load_sections.specs.Sections.{IsLoading}
use Rattle.load_sections.proofs.Staying.{loading_stays}
use Rattle.request_actor.specs.Talks.{Talks}
use Rattle.request_actor.specs.Order.{Fits}
use Rattle.request_actor.specs.declared.actor.Stage.{Stage}
use Rattle.request_actor.specs.declared.actor.Stage.TheVariants as stage
use Rattle.request_actor.specs.declared.op.Op.{Op}
use Rattle.request_actor.specs.declared.op.Op.TheVariants as op
use Rattle.request_laws.specs.Standing.{GoesOn, LeavesRequest}
use Rattle.request_laws.proofs.Standing.{request_goes_on}
use Rattle.seat_requests.specs.Standing.{IsReady, IsStanding}
use Rattle.seat_requests.proofs.Standing.{standing_stays}
use Rattle.seat_operations.proofs.Answering.{ready_at}
use Rattle.seat_steps.specs.Theories.{Theories}
use Rattle.seat_steps.specs.Stepping.{next_for, opened_at, load_answer}
use Rattle.seat_steps.specs.Standing.{HasEnded, GoesOnAt, IsOpen, MayBeOpen, StaysOpen}
use Rattle.seat_steps.specs.declared.next.Next.{Next}
use Rattle.seat_steps.specs.declared.next.Next.TheVariants.{Does, Opens, Defines, Resumes}
use Rattle.seat_steps.specs.declared.next.OpenRequest.{OpenRequest}
use Rattle.seat_steps.specs.declared.next.Stepped.{Stepped}

module _ {M T V P Q R F G W E : Type 0} (f : Facts T V P Q R F) (talks : Talks T V P Q R E G W)
    (s : State M T V P Q R F) (k : ℕ) where
  -- the request that a seat runs
  pub record IsRunning : Type 0 where
    pub request : Q
    pub is : running_request s k ≡ Some request

  -- a request that was asked for a load runs
  pub load_runs : (at : Stage Q T W (Cause M T V P Q R F)) (task : T) → IsStanding f talks s k at (op.Load task) →
      IsRunning
  load_runs (stage.Loads sought waiting) task standing =
      record { request = standing.stands.0; is = standing.stands.1.1.0.runs }
  load_runs (stage.Looks sought waiting) task standing = absurd (cc (standing.asks))
  load_runs (stage.Fresh request) task standing = absurd standing.asks
  load_runs (stage.Shares request) task standing = absurd (cc (standing.asks))
  load_runs (stage.Checks request) task standing = absurd (cc (standing.asks))
  load_runs (stage.Takes request) task standing = absurd (cc (standing.asks))
  load_runs (stage.Reloads request) task standing = absurd (cc (standing.asks))
  load_runs (stage.Releases next) task standing = absurd (cc (standing.asks))
  load_runs (stage.Resumes next) task standing = absurd (cc (standing.asks))
  load_runs (stage.Begins request) task standing = absurd (cc (standing.asks))
  load_runs stage.Ends task standing = absurd (cc (standing.asks.1))
  load_runs stage.Refuses task standing = absurd (cc (standing.asks.1))
  load_runs stage.Unshares task standing = absurd (cc (standing.asks))
  load_runs stage.Over task standing = absurd (cc (standing.asks))

  -- a request whose load has ended is ready for the answer
  pub ended_ready : (at : Stage Q T W (Cause M T V P Q R F)) (task : T) (ended : Option E) →
      IsStanding f talks s k at (op.Load task) → HasEnded f talks s task ended →
      IsReady f talks s k at (load_answer ended) × Fits at (load_answer ended)
  ended_ready at task None standing has =
      ready_at f talks s k at (op.Load task) (load_answer None) standing.asks (λ no. standing.stands) tt
  ended_ready at task (Some error) standing has =
      ready_at f talks s k at (op.Load task) (load_answer (Some error)) standing.asks (λ no. standing.stands) has

module _ {M T V P Q R F G W E X O H U N : Type 0} (f : Facts T V P Q R F) (talks : Talks T V P Q R E G W)
    (theories : Theories T V P X O H U N) (s : State M T V P Q R F) (k : ℕ)
    (at : Stage Q T W (Cause M T V P Q R F)) where
  -- a request that was asked for an operation stands at what it does next
  pub stands_next : (asked : Op M T V P Q R F) → IsStanding f talks s k at asked →
      MayBeOpen f talks theories s k (opened_at at (next_for asked))
  stands_next op.Share standing = (standing, tt)
  stands_next op.Check standing = (standing, tt)
  stands_next (op.Take want) standing = (standing, tt)
  stands_next op.Reload standing = (standing, tt)
  stands_next op.Release standing = (standing, tt)
  stands_next op.Resume standing = (standing, tt)
  stands_next op.Begin standing = (standing, tt)
  stands_next (op.Look task) standing = (standing, tt)
  stands_next (op.Load task) standing = standing
  stands_next (op.End reply) standing = (standing, tt)
  stands_next (op.Refuse cause) standing = (standing, tt)
  stands_next op.Unshare standing = (standing, tt)
  stands_next op.Finished standing = tt

module _ {M T V P Q R F G W E X O H U N : Type 0} (f : Facts T V P Q R F) (equal : SameIsEqual f)
    (talks : Talks T V P Q R E G W) (theories : Theories T V P X O H U N) (old new : State M T V P Q R F) (k : ℕ)
    (at : Stage Q T W (Cause M T V P Q R F)) where
  -- how a load has ended stays so while the request runs
  ended_stays : (request : Q) (task : T) (ended : Option E) → GoesOn f old new k request →
      HasEnded f talks old task ended → HasEnded f talks new task ended
  ended_stays request task None goes has = goes.table task has
  ended_stays request task (Some error) goes has =
      subst (λ (p : P). (f.known p task ≡ None) × (error ≡ talks.blame p task)) (sym goes.program) has

  module _ (entry : Entry M T V P Q R F) (exclusive : IsExclusive old.seats) (step : IsStep f old entry new)
      (leaves : LeavesRequest k entry) where
    -- a request that was asked for a load goes on
    pub load_goes_on : (task : T) (standing : IsStanding f talks old k at (op.Load task)) →
        GoesOn f old new k (load_runs f talks old k at task standing).request
    load_goes_on task standing =
        let running = load_runs f talks old k at task standing in
        request_goes_on f equal old new entry k running.request exclusive step running.is leaves

    -- a request behind its load section stands there still
    pub resumes_stay : (ended : Option E) → GoesOnAt f talks theories old k at (Resumes ended) →
        GoesOnAt f talks theories new k at (Resumes ended)
    resumes_stay ended going = (
      going.0,
      (
        standing_stays f equal talks old new entry k at (op.Load going.0) exclusive step leaves going.1.0,
        ended_stays (load_runs f talks old k at going.0 going.1.0).request going.0 ended
            (load_goes_on going.0 going.1.0) going.1.1,
      ),
    )

  -- an open request stands still, whatever step another seat makes
  pub open_stays : (entry : Entry M T V P Q R F) → IsExclusive old.seats → IsStep f old entry new →
      k ≢ entry.seat → (next : Next (Op M T V P Q R F) T (Progress T H U N) E) →
      GoesOnAt f talks theories old k at next → GoesOnAt f talks theories new k at next
  open_stays entry exclusive step other (Does asked) going = (
    standing_stays f equal talks old new entry k at asked exclusive step (λ same. absurd (other (sym same))) going.0,
    going.1,
  )
  open_stays entry exclusive step other (Opens task) going =
      standing_stays f equal talks old new entry k at (op.Load task) exclusive step
      (λ same. absurd (other (sym same))) going
  open_stays entry exclusive step other (Defines progress) going =
      let leaves : LeavesRequest k entry = λ same. absurd (other (sym same)) in
      let goes = load_goes_on entry exclusive step leaves going.0 going.1.0 in (
        going.0,
        (
          standing_stays f equal talks old new entry k at (op.Load going.0) exclusive step leaves going.1.0,
          (
            going.1.1.0,
            (
              going.1.1.1.0,
              subst (λ (p : P). IsLoading f (theories.rules p) (theories.runs p) going.0 going.1.1.0 new k
                  going.1.1.1.0 progress) (sym goes.program)
                  (loading_stays f (theories.rules old.counts.program) (theories.runs old.counts.program) going.0
                  going.1.1.0 old new entry k going.1.1.1.0 progress step other going.1.1.1.1),
            ),
          ),
        ),
      )
  open_stays entry exclusive step other (Resumes ended) going =
      resumes_stay entry exclusive step (λ same. absurd (other (sym same))) ended going
