-- At which stage a request is that was asked for an operation.
use Rattle.std.proofs.Common.{◌≡◌, ℕ, Some, refl, sym, subst}
use Rattle.system_events.specs.declared.event.Cause.{Cause}
use Rattle.system_events.specs.declared.event.Want.{Want}
use Rattle.system_events.specs.declared.event.Want.TheVariants.{Unload}
use Rattle.system_events.specs.Facts.{Facts}
use Rattle.system_events.specs.State.{State}
use Rattle.system_events.specs.Steps.{IsTask}
use Rattle.request_actor.specs.Talks.{Talks}
use Rattle.request_actor.specs.Order.{request_at_stage}
use Rattle.request_actor.specs.declared.actor.Stage.{Stage}
use Rattle.request_actor.specs.declared.actor.Stage.TheVariants as stage
use Rattle.request_actor.specs.declared.op.Op.TheVariants as op
use Rattle.seat_requests.specs.Standing.{IsAskedAt, Stands, IsStanding}

-- the request that begins, if an operation is the Begin
pub record IsBeginning {Q T W C : Type 0} (at : Stage Q T W C) (request : Q) : Type 0 where
  pub at_begin : at ≡ stage.Begins request
  pub known : request_at_stage at ≡ Some request

module _ {M T V P Q R F W : Type 0} where
  -- a take of a request is of an unload
  pub unload_taken : (at : Stage Q T W (Cause M T V P Q R F)) (want : Want M T V P Q R F) →
      IsAskedAt at (op.Take want) → want ≡ Unload
  unload_taken (stage.Fresh request) want asks = absurd asks
  unload_taken (stage.Shares request) want asks = absurd (cc (asks))
  unload_taken (stage.Checks request) want asks = absurd (cc (asks))
  unload_taken (stage.Takes request) want asks = cc asks
  unload_taken (stage.Reloads request) want asks = absurd (cc (asks))
  unload_taken (stage.Releases next) want asks = absurd (cc (asks))
  unload_taken (stage.Resumes next) want asks = absurd (cc (asks))
  unload_taken (stage.Begins request) want asks = absurd (cc (asks))
  unload_taken (stage.Looks task waiting) want asks = absurd (cc (asks))
  unload_taken (stage.Loads task waiting) want asks = absurd (cc (asks))
  unload_taken stage.Ends want asks = absurd (cc (asks.1))
  unload_taken stage.Refuses want asks = absurd (cc (asks.1))
  unload_taken stage.Unshares want asks = absurd (cc (asks))
  unload_taken stage.Over want asks = absurd (cc (asks))

  -- a request that was asked to begin is at its Begin
  pub at_begin : (at : Stage Q T W (Cause M T V P Q R F)) → IsAskedAt at op.Begin
      → (request : Q) × IsBeginning at request
  at_begin (stage.Fresh request) asks = absurd asks
  at_begin (stage.Shares request) asks = absurd (cc (asks))
  at_begin (stage.Checks request) asks = absurd (cc (asks))
  at_begin (stage.Takes request) asks = absurd (cc (asks))
  at_begin (stage.Reloads request) asks = absurd (cc (asks))
  at_begin (stage.Releases next) asks = absurd (cc (asks))
  at_begin (stage.Resumes next) asks = absurd (cc (asks))
  at_begin (stage.Begins request) asks = (request, record { at_begin = refl; known = refl })
  at_begin (stage.Looks task waiting) asks = absurd (cc (asks))
  at_begin (stage.Loads task waiting) asks = absurd (cc (asks))
  at_begin stage.Ends asks = absurd (cc (asks.1))
  at_begin stage.Refuses asks = absurd (cc (asks.1))
  at_begin stage.Unshares asks = absurd (cc (asks))
  at_begin stage.Over asks = absurd (cc (asks))

module _ {M T V P Q R F G W E : Type 0} (f : Facts T V P Q R F) (talks : Talks T V P Q R E G W) where
  -- a request that stands at its Begin may begin
  pub may_begin : (s : State M T V P Q R F) (k : ℕ) (at : Stage Q T W (Cause M T V P Q R F)) (request : Q) →
      IsStanding f talks s k at op.Begin → request_at_stage at ≡ Some request → f.IsRequest request
  may_begin s k at request standing known =
      let begun = at_begin at standing.asks in
      let same : begun.0 ≡ request = cc (begun.1.known, known) in
      subst (λ (q : Q). f.IsRequest q) same
      (subst (λ (a : Stage Q T W (Cause M T V P Q R F)). Stands f talks s k a op.Begin) begun.1.at_begin
      standing.stands)

  -- a request takes an unload, which any may
  pub may_take : (s : State M T V P Q R F) (k : ℕ) (at : Stage Q T W (Cause M T V P Q R F))
      (want : Want M T V P Q R F) → IsStanding f talks s k at (op.Take want) → IsTask f s want
  may_take s k at want standing =
      subst (λ (w : Want M T V P Q R F). IsTask f s w) (sym (unload_taken at want standing.asks)) tt
