-- What follows of a standing request, and what leaves it.
use Rattle.std.proofs.Common.{◌≡◌, ℕ, List, Some, sym, subst}
use Rattle.system_events.specs.declared.event.Cause.{Cause}
use Rattle.system_events.specs.declared.event.Entry.{Entry}
use Rattle.system_events.specs.Facts.{Facts, SameIsEqual}
use Rattle.system_events.specs.State.{State, running_request}
use Rattle.system_events.specs.Steps.{IsReply, IsCause}
use Rattle.system_events.specs.Legal.{IsStep}
use Rattle.system_laws.specs.Lawful.{IsExclusive}
use Rattle.std.specs.Prelude.{Contains}
use Rattle.request_actor.specs.Talks.{Talks, AreOf}
use Rattle.request_actor.specs.Answers.{Holds}
use Rattle.request_actor.specs.declared.actor.Stage.{Stage}
use Rattle.request_actor.specs.declared.actor.Stage.TheVariants as stage
use Rattle.request_actor.specs.declared.op.Op.{Op}
use Rattle.request_actor.specs.declared.op.Op.TheVariants as op
use Rattle.request_laws.specs.Standing.{IsServed, GoesOn, LeavesRequest}
use Rattle.request_laws.proofs.Standing.{served_stays, request_goes_on, end_is_allowed}
use Rattle.seat_requests.specs.Standing.{IsStanding}

module _ {M T V P Q R F G W E : Type 0} (f : Facts T V P Q R F) (talks : Talks T V P Q R E G W)
    (s : State M T V P Q R F) (k : ℕ) where
  -- the reply of a request that stands at its End is its reply, and what it asked for is in the table
  pub may_end : (at : Stage Q T W (Cause M T V P Q R F)) (reply : R) → IsStanding f talks s k at (op.End reply) →
      (request : Q) → running_request s k ≡ Some request → IsReply f s request reply
  may_end stage.Ends reply standing =
      let q = standing.stands.0 in
      end_is_allowed f s k q standing.stands.1.0 reply standing.stands.1.1.0.runs standing.stands.1.1.0.there
      standing.stands.1.1.1
  may_end (stage.Looks task waiting) reply standing = absurd (cc (standing.asks))
  may_end (stage.Loads task waiting) reply standing = absurd (cc (standing.asks))
  may_end (stage.Fresh request) reply standing = absurd standing.asks
  may_end (stage.Shares request) reply standing = absurd (cc (standing.asks))
  may_end (stage.Checks request) reply standing = absurd (cc (standing.asks))
  may_end (stage.Takes request) reply standing = absurd (cc (standing.asks))
  may_end (stage.Reloads request) reply standing = absurd (cc (standing.asks))
  may_end (stage.Releases next) reply standing = absurd (cc (standing.asks))
  may_end (stage.Resumes next) reply standing = absurd (cc (standing.asks))
  may_end (stage.Begins request) reply standing = absurd (cc (standing.asks))
  may_end stage.Refuses reply standing = absurd (cc (standing.asks.1))
  may_end stage.Unshares reply standing = absurd (cc (standing.asks))
  may_end stage.Over reply standing = absurd (cc (standing.asks))

  -- a task that a standing request loads is one of the program's
  pub may_load : (laws : AreOf f talks) (at : Stage Q T W (Cause M T V P Q R F)) (task : T) →
      IsStanding f talks s k at (op.Load task) → Contains (f.tasks s.counts.program) task
  may_load laws (stage.Loads sought waiting) task standing =
      laws.tasks s.counts.program standing.stands.0 task standing.stands.1.1.0.begins standing.stands.1.1.1
  may_load laws (stage.Looks sought waiting) task standing = absurd (cc (standing.asks))
  may_load laws (stage.Fresh request) task standing = absurd standing.asks
  may_load laws (stage.Shares request) task standing = absurd (cc (standing.asks))
  may_load laws (stage.Checks request) task standing = absurd (cc (standing.asks))
  may_load laws (stage.Takes request) task standing = absurd (cc (standing.asks))
  may_load laws (stage.Reloads request) task standing = absurd (cc (standing.asks))
  may_load laws (stage.Releases next) task standing = absurd (cc (standing.asks))
  may_load laws (stage.Resumes next) task standing = absurd (cc (standing.asks))
  may_load laws (stage.Begins request) task standing = absurd (cc (standing.asks))
  may_load laws stage.Ends task standing = absurd (cc (standing.asks.1))
  may_load laws stage.Refuses task standing = absurd (cc (standing.asks.1))
  may_load laws stage.Unshares task standing = absurd (cc (standing.asks))
  may_load laws stage.Over task standing = absurd (cc (standing.asks))

  -- the cause of a standing request that is refused may stand
  pub may_refuse : (at : Stage Q T W (Cause M T V P Q R F)) (cause : Cause M T V P Q R F) →
      IsStanding f talks s k at (op.Refuse cause) → IsCause f cause
  may_refuse stage.Refuses cause standing =
      let same : cause ≡ standing.stands.0 = cc (standing.stands.1.0) in
      subst (λ (c : Cause M T V P Q R F). IsCause f c) (sym same) standing.stands.1.1
  may_refuse (stage.Looks task waiting) cause standing = absurd (cc (standing.asks))
  may_refuse (stage.Loads task waiting) cause standing = absurd (cc (standing.asks))
  may_refuse (stage.Fresh request) cause standing = absurd standing.asks
  may_refuse (stage.Shares request) cause standing = absurd (cc (standing.asks))
  may_refuse (stage.Checks request) cause standing = absurd (cc (standing.asks))
  may_refuse (stage.Takes request) cause standing = absurd (cc (standing.asks))
  may_refuse (stage.Reloads request) cause standing = absurd (cc (standing.asks))
  may_refuse (stage.Releases next) cause standing = absurd (cc (standing.asks))
  may_refuse (stage.Resumes next) cause standing = absurd (cc (standing.asks))
  may_refuse (stage.Begins request) cause standing = absurd (cc (standing.asks))
  may_refuse stage.Ends cause standing = absurd (cc (standing.asks.1))
  may_refuse stage.Unshares cause standing = absurd (cc (standing.asks))
  may_refuse stage.Over cause standing = absurd (cc (standing.asks))

module _ {M T V P Q R F G W E : Type 0} (f : Facts T V P Q R F) (equal : SameIsEqual f)
    (talks : Talks T V P Q R E G W) where
  -- a request that is served, and what it was asked for, stay
  serving_stays : (old new : State M T V P Q R F) (entry : Entry M T V P Q R F) (k : ℕ) (q : Q) (found : List T)
      (at : Stage Q T W (Cause M T V P Q R F)) (asked : Op M T V P Q R F) → IsExclusive old.seats →
      IsStep f old entry new → LeavesRequest k entry → IsServed f talks old k q found at →
      Holds f old.counts.program q found asked →
      IsServed f talks new k q found at × Holds f new.counts.program q found asked
  serving_stays old new entry k q found at asked exclusive step leaves served holds =
      let goes : GoesOn f old new k q = request_goes_on f equal old new entry k q exclusive step served.runs leaves in (
        served_stays f talks equal old new entry k q found at exclusive step leaves served,
        subst (λ (p : P). Holds f p q found asked) (sym goes.program) holds,
      )

  -- a standing request stands still
  pub standing_stays : (old new : State M T V P Q R F) (entry : Entry M T V P Q R F) (k : ℕ)
      (at : Stage Q T W (Cause M T V P Q R F)) (asked : Op M T V P Q R F) → IsExclusive old.seats →
      IsStep f old entry new → LeavesRequest k entry → IsStanding f talks old k at asked →
      IsStanding f talks new k at asked
  standing_stays old new entry k (stage.Looks task waiting) asked exclusive step leaves standing = record {
    asks = standing.asks;
    stands = (
      standing.stands.0,
      (
        standing.stands.1.0,
        serving_stays old new entry k standing.stands.0 standing.stands.1.0 (stage.Looks task waiting) asked exclusive
            step leaves standing.stands.1.1.0 standing.stands.1.1.1,
      ),
    );
  }
  standing_stays old new entry k (stage.Loads task waiting) asked exclusive step leaves standing = record {
    asks = standing.asks;
    stands = (
      standing.stands.0,
      (
        standing.stands.1.0,
        serving_stays old new entry k standing.stands.0 standing.stands.1.0 (stage.Loads task waiting) asked exclusive
            step leaves standing.stands.1.1.0 standing.stands.1.1.1,
      ),
    );
  }
  standing_stays old new entry k stage.Ends asked exclusive step leaves standing = record {
    asks = standing.asks;
    stands = (
      standing.stands.0,
      (
        standing.stands.1.0,
        serving_stays old new entry k standing.stands.0 standing.stands.1.0 stage.Ends asked exclusive step leaves
            standing.stands.1.1.0 standing.stands.1.1.1,
      ),
    );
  }
  standing_stays old new entry k (stage.Fresh request) asked exclusive step leaves standing =
      record { asks = standing.asks; stands = standing.stands }
  standing_stays old new entry k (stage.Shares request) asked exclusive step leaves standing =
      record { asks = standing.asks; stands = standing.stands }
  standing_stays old new entry k (stage.Checks request) asked exclusive step leaves standing =
      record { asks = standing.asks; stands = standing.stands }
  standing_stays old new entry k (stage.Takes request) asked exclusive step leaves standing =
      record { asks = standing.asks; stands = standing.stands }
  standing_stays old new entry k (stage.Reloads request) asked exclusive step leaves standing =
      record { asks = standing.asks; stands = standing.stands }
  standing_stays old new entry k (stage.Releases next) asked exclusive step leaves standing =
      record { asks = standing.asks; stands = standing.stands }
  standing_stays old new entry k (stage.Resumes next) asked exclusive step leaves standing =
      record { asks = standing.asks; stands = standing.stands }
  standing_stays old new entry k (stage.Begins request) asked exclusive step leaves standing =
      record { asks = standing.asks; stands = standing.stands }
  standing_stays old new entry k stage.Refuses asked exclusive step leaves standing =
      record { asks = standing.asks; stands = standing.stands }
  standing_stays old new entry k stage.Unshares asked exclusive step leaves standing =
      record { asks = standing.asks; stands = standing.stands }
  standing_stays old new entry k stage.Over asked exclusive step leaves standing =
      record { asks = standing.asks; stands = standing.stands }
