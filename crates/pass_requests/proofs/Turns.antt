-- One turn of a request that runs.
use Rattle.std.proofs.Common.{◌≡◌, ℕ, List, [], append-nil, sym, ◌∙◌, subst, Contains}
use Rattle.turn_lock.specs.Entries.{Lags}
use Rattle.system_events.specs.declared.event.Cause.{Cause}
use Rattle.system_events.specs.declared.event.Entry.{Entry}
use Rattle.system_events.specs.declared.event.Kept.{Kept}
use Rattle.system_events.specs.declared.event.Kept.TheVariants as kept
use Rattle.system_events.specs.Facts.{Facts, SameIsEqual}
use Rattle.system_events.specs.Steps.{Condition}
use Rattle.system_events.specs.Legal.{after, IsLegal}
use Rattle.request_actor.specs.Talks.{Talks, AreOf}
use Rattle.request_actor.specs.Order.{Goes}
use Rattle.request_actor.specs.declared.actor.Stage.{Stage}
use Rattle.request_actor.specs.declared.actor.Stage.TheVariants as stage
use Rattle.request_actor.specs.declared.op.Op.{Op}
use Rattle.request_actor.specs.declared.op.Op.TheVariants as op
use Rattle.request_actor.specs.declared.op.Answered.{Answered}
use Rattle.request_actor.specs.declared.op.Answered.TheVariants as answer
use Rattle.request_laws.specs.Standing.{IsServed}
use Rattle.shop_base.specs.Passes.{seat_limit, seat_of, Gains}
use Rattle.shop_base.proofs.Gaining.{gains_lags, gains-trans}
use Rattle.pass_requests.specs.Serving.{AsksAt, AnswersLook, AnswersLoad, IsAnswered, HasLoaded, MayLoad}
use Rattle.pass_requests.proofs.Later.{may_load_quiet}
use Rattle.pass_requests.proofs.Serving.{asked_next, asked_later, look_answered, load_answered, reply_allowed}
use Rattle.pass_requests.proofs.Serving.{load_task, more_loaded}

module _ {M T V P Q R F G W E : Type 0} (f : Facts T V P Q R F) (equal : SameIsEqual f)
    (talks : Talks T V P Q R E G W) (laws : AreOf f talks) where
  -- a request that has begun is answered so
  pub begun_answered : (seen : List (Entry M T V P Q R F)) (k : ℕ) (q : Q) (at : Stage Q T W (Cause M T V P Q R F)) →
      at ≡ stage.Begins q → IsServed f talks (after f seat_limit seen) k q [] (stage.Begins q) →
      IsAnswered f talks (after f seat_limit seen) k q at answer.Done
  begun_answered seen k q at is served =
      subst (λ (x : Stage Q T W (Cause M T V P Q R F)).
      IsAnswered f talks (after f seat_limit seen) k q x answer.Done) (sym is)
      (record { found = []; served = served; answers = tt; fits = tt; serving = tt })

  module _ (k : ℕ) (q : Q) (p : P) (start before now : List (Entry M T V P Q R F))
      (old new : Stage Q T W (Cause M T V P Q R F)) (answered : Answered V E (Cause M T V P Q R F)) (task : T)
      (legal : IsLegal f seat_limit before) (later : IsLegal f seat_limit now)
      (is : IsAnswered f talks (after f seat_limit before) k q old answered)
      (loaded : HasLoaded f k q p start before) where
    -- a look, and what it leaves
    pub turn_looks : Goes talks p old answered (op.Look task) new → Lags seat_of k before now →
        HasLoaded f k q p start now
        × ((next : Answered V E (Cause M T V P Q R F)) → AnswersLook f (after f seat_limit now) task next →
        IsAnswered f talks (after f seat_limit now) k q new next)
    turn_looks goes lags =
        let asked = asked_next f equal talks laws before k q p old new answered (op.Look task) legal
        loaded.same is goes in
        let gains = gains_lags k before now lags in
        let here = asked_later f equal talks laws k q new (op.Look task) [] before now legal later tt gains asked in (
          record {
            same = here.1 ∙ loaded.same;
            acts = loaded.acts;
            gains = subst (λ l. Gains k l start now) (append-nil loaded.acts)
                (gains-trans k loaded.acts [] start before now loaded.gains gains);
            loads = loaded.loads;
          },
          λ next table. look_answered f equal talks laws (after f seat_limit now) k q new task next here.0 table,
        )

    -- a load, and what it leaves
    pub turn_loads : (acts : List (Kept M T V P Q R F)) → Goes talks p old answered (op.Load task) new →
        MayLoad task acts → Gains k acts before now →
        HasLoaded f k q p start now
        × ((next : Answered V E (Cause M T V P Q R F)) → AnswersLoad f talks (after f seat_limit now) task next →
        IsAnswered f talks (after f seat_limit now) k q new next)
    turn_loads acts goes may gains =
        let asked = asked_next f equal talks laws before k q p old new answered (op.Load task) legal
        loaded.same is goes in
        let here = asked_later f equal talks laws k q new (op.Load task) acts before now legal later
        (may_load_quiet task acts may) gains asked in (
          more_loaded f k q p task acts start before now loaded may
              (subst (λ (x : P). Contains (f.request_asked x q) task) loaded.same asked.holds) gains here.1,
          λ next is_next. load_answered f equal talks laws (after f seat_limit now) k q new task next here.0 is_next,
        )

  -- a task that is to be loaded next is one of the program's
  pub turn_task : (k : ℕ) (q : Q) (p : P) (before : List (Entry M T V P Q R F))
      (old new : Stage Q T W (Cause M T V P Q R F)) (answered : Answered V E (Cause M T V P Q R F)) (task : T) →
      IsLegal f seat_limit before → (after f seat_limit before).counts.program ≡ p →
      IsAnswered f talks (after f seat_limit before) k q old answered →
      Goes talks p old answered (op.Load task) new → Contains (f.tasks (after f seat_limit before).counts.program) task
  turn_task k q p before old new answered task legal same is goes =
      load_task f equal talks laws (after f seat_limit before) k q new task
      (asked_next f equal talks laws before k q p old new answered (op.Load task) legal same is goes)

  -- a reply that comes next may end the request
  pub turn_ends : (k : ℕ) (q : Q) (p : P) (before : List (Entry M T V P Q R F))
      (old new : Stage Q T W (Cause M T V P Q R F)) (answered : Answered V E (Cause M T V P Q R F)) (reply : R) →
      IsLegal f seat_limit before → (after f seat_limit before).counts.program ≡ p →
      IsAnswered f talks (after f seat_limit before) k q old answered →
      Goes talks p old answered (op.End reply) new → Condition f (after f seat_limit before) k (kept.End reply)
  turn_ends k q p before old new answered reply legal same is goes =
      reply_allowed f equal talks laws (after f seat_limit before) k q new reply
      (asked_next f equal talks laws before k q p old new answered (op.End reply) legal same is goes)

-- a request that has begun asks for a look, a load or its end
pub asks_one : {M T V P Q R F W : Type 0} (at : Stage Q T W (Cause M T V P Q R F)) (asked : Op M T V P Q R F) →
    AsksAt at asked → ((task : T) → asked ≡ op.Look task → ⊥) → ((task : T) → asked ≡ op.Load task → ⊥) →
    ((reply : R) → asked ≡ op.End reply → ⊥) → ⊥
asks_one (stage.Looks task waiting) asked asks no_look no_load no_end = no_look task asks
asks_one (stage.Loads task waiting) asked asks no_look no_load no_end = no_load task asks
asks_one stage.Ends asked asks no_look no_load no_end = no_end asks.0 asks.1
asks_one _ asked asks no_look no_load no_end = asks
