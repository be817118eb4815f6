-- What a request that runs asks for, and how it is answered.
use Rattle.std.proofs.Common.{◌≡◌, ℕ, List, [], ◌∷◌, ◌++◌, append-nil, refl, sym, ap, ◌∙◌, subst, Some, None}
use Rattle.std.proofs.Common.{Contains, inl, inr}
use Rattle.by_need.specs.Asking.{Asking, Gives, Ask}
use Rattle.system_events.specs.declared.event.Cause.{Cause}
use Rattle.system_events.specs.declared.event.Entry.{Entry}
use Rattle.system_events.specs.declared.event.Kept.{Kept}
use Rattle.system_events.specs.declared.event.Kept.TheVariants as kept
use Rattle.system_events.specs.Facts.{Facts, SameIsEqual}
use Rattle.system_events.specs.State.{State}
use Rattle.system_events.specs.Steps.{Condition}
use Rattle.system_events.specs.Legal.{after, IsLegal}
use Rattle.system_core.specs.Tables.{lookup}
use Rattle.request_actor.specs.Talks.{Talks, AreOf}
use Rattle.request_actor.specs.Order.{Goes, Runs}
use Rattle.request_actor.specs.Answers.{Holds, found_after}
use Rattle.request_actor.specs.declared.actor.Stage.{Stage}
use Rattle.request_actor.specs.declared.actor.Stage.TheVariants as stage
use Rattle.request_actor.specs.declared.op.Op.{Op}
use Rattle.request_actor.specs.declared.op.Op.TheVariants as op
use Rattle.request_actor.specs.declared.op.Answered.{Answered}
use Rattle.request_actor.specs.declared.op.Answered.TheVariants as answer
use Rattle.request_laws.specs.Conduct.{AreLoads, no_loads, loads}
use Rattle.request_laws.proofs.Standing.{end_is_allowed}
use Rattle.served_requests.proofs.Serving.{answered_stays}
use Rattle.shop_base.specs.Passes.{seat_limit, Gains}
use Rattle.shop_base.proofs.Gaining.{gains-trans}
use Rattle.pass_history.specs.Courses.{AreQuiet}
use Rattle.pass_requests.specs.Serving.{IsServing, AsksAt, AnswersLook, AnswersLoad, IsAnswered, IsAsked, HasLoaded}
use Rattle.pass_requests.specs.Serving.{MayLoad}
use Rattle.pass_requests.proofs.Later.{served_later, is_after, loads_append}

module _ {M T V P Q R F G W E : Type 0} (f : Facts T V P Q R F) (equal : SameIsEqual f)
    (talks : Talks T V P Q R E G W) (laws : AreOf f talks) where
  -- what a run comes to is asked for at its stage
  runs_asks : (rest : Asking T V R) (asked : Op M T V P Q R F) (new : Stage Q T W (Cause M T V P Q R F)) →
      Runs talks.branch rest asked new → AsksAt new asked
  runs_asks (Gives reply) asked new is =
      subst (λ (x : Stage Q T W (Cause M T V P Q R F)). AsksAt x asked) (sym is.1) (reply, is.0)
  runs_asks (Ask task next) asked new is =
      subst (λ (x : Stage Q T W (Cause M T V P Q R F)). AsksAt x asked) (sym is.1.1.0) is.0

  asks_next : (p : P) (old new : Stage Q T W (Cause M T V P Q R F)) (answered : Answered V E (Cause M T V P Q R F))
      (asked : Op M T V P Q R F) → IsServing old → Goes talks p old answered asked new → AsksAt new asked
  asks_next p (stage.Begins q) new answered asked serving goes = runs_asks (talks.whole p q) asked new goes
  asks_next p (stage.Looks task waiting) new (answer.Found value) asked serving goes =
      runs_asks (talks.branch waiting value) asked new goes
  asks_next p (stage.Looks task waiting) new _ asked serving goes =
      subst (λ (x : Stage Q T W (Cause M T V P Q R F)). AsksAt x asked) (sym goes.1) goes.0
  asks_next p (stage.Loads task waiting) new (answer.Failed error) asked serving goes =
      subst (λ (x : Stage Q T W (Cause M T V P Q R F)). AsksAt x asked) (sym goes.1) (talks.failed error, goes.0)
  asks_next p (stage.Loads task waiting) new _ asked serving goes =
      subst (λ (x : Stage Q T W (Cause M T V P Q R F)). AsksAt x asked) (sym goes.1) goes.0
  asks_next p _ new answered asked serving goes = absurd serving

  -- what an answered request asks for next
  pub asked_next : (seen : List (Entry M T V P Q R F)) (k : ℕ) (q : Q) (p : P)
      (old new : Stage Q T W (Cause M T V P Q R F)) (answered : Answered V E (Cause M T V P Q R F))
      (asked : Op M T V P Q R F) → IsLegal f seat_limit seen → (after f seat_limit seen).counts.program ≡ p →
      IsAnswered f talks (after f seat_limit seen) k q old answered → Goes talks p old answered asked new →
      IsAsked f talks (after f seat_limit seen) k q new asked
  asked_next seen k q p old new answered asked legal same is goes =
      let here : Goes talks (after f seat_limit seen).counts.program old answered asked new =
      subst (λ (x : P). Goes talks x old answered asked new) (sym same) goes in
      let kept_on = answered_stays f equal talks laws seat_limit (after f seat_limit seen) k q is.found old new answered
      asked (is_after f seat_limit seen legal) is.served is.answers here in
      record {
        found = found_after old answered is.found;
        served = kept_on.0;
        holds = kept_on.1;
        asks = asks_next p old new answered asked is.serving goes;
      }

  -- what was asked for is asked for still, behind turns that neither begin nor end a request
  pub asked_later : (k : ℕ) (q : Q) (at : Stage Q T W (Cause M T V P Q R F)) (asked : Op M T V P Q R F)
      (acts : List (Kept M T V P Q R F)) (before now : List (Entry M T V P Q R F)) → IsLegal f seat_limit before →
      IsLegal f seat_limit now → AreQuiet acts → Gains k acts before now →
      IsAsked f talks (after f seat_limit before) k q at asked →
      IsAsked f talks (after f seat_limit now) k q at asked
      × ((after f seat_limit now).counts.program ≡ (after f seat_limit before).counts.program)
  asked_later k q at asked acts before now legal later quiet gains is =
      let served = served_later f equal talks k q is.found at acts before now legal later quiet gains is.served in (
        record {
          found = is.found;
          served = served.0;
          holds = subst (λ (p : P). Holds f p q is.found asked) (sym served.1) is.holds;
          asks = is.asks;
        },
        served.1,
      )

  -- a look that the table answers
  pub look_answered : (s : State M T V P Q R F) (k : ℕ) (q : Q) (at : Stage Q T W (Cause M T V P Q R F)) (task : T)
      (answered : Answered V E (Cause M T V P Q R F)) → IsAsked f talks s k q at (op.Look task) →
      AnswersLook f s task answered → IsAnswered f talks s k q at answered
  look_answered s k q (stage.Looks wanted waiting) task (answer.Found value) is table =
      let same : task ≡ wanted = let asks = is.asks in cc in
      record {
        found = is.found;
        served = is.served;
        answers = subst (λ (t : T). lookup f t s.table ≡ Some value) same table;
        fits = tt;
        serving = tt;
      }
  look_answered s k q (stage.Looks wanted waiting) task answer.Missing is table =
      record { found = is.found; served = is.served; answers = tt; fits = tt; serving = tt }
  look_answered s k q (stage.Looks wanted waiting) task _ is table = absurd table
  look_answered s k q (stage.Loads wanted waiting) task answered is table = absurd (let asks = is.asks in cc)
  look_answered s k q stage.Ends task answered is table = absurd (let asks = is.asks.1 in cc)
  look_answered s k q _ task answered is table = absurd is.asks

  -- a load that is done, or failed
  pub load_answered : (s : State M T V P Q R F) (k : ℕ) (q : Q) (at : Stage Q T W (Cause M T V P Q R F)) (task : T)
      (answered : Answered V E (Cause M T V P Q R F)) → IsAsked f talks s k q at (op.Load task) →
      AnswersLoad f talks s task answered → IsAnswered f talks s k q at answered
  load_answered s k q (stage.Loads wanted waiting) task (answer.Failed error) is failed =
      let same : task ≡ wanted = let asks = is.asks in cc in
      record {
        found = is.found;
        served = is.served;
        answers = subst (λ (t : T). (f.known s.counts.program t ≡ None) × (error ≡ talks.blame s.counts.program t)) same
            failed;
        fits = tt;
        serving = tt;
      }
  load_answered s k q (stage.Loads wanted waiting) task answer.Done is failed =
      record { found = is.found; served = is.served; answers = tt; fits = tt; serving = tt }
  load_answered s k q (stage.Loads wanted waiting) task _ is failed = absurd failed
  load_answered s k q (stage.Looks wanted waiting) task answered is failed = absurd (let asks = is.asks in cc)
  load_answered s k q stage.Ends task answered is failed = absurd (let asks = is.asks.1 in cc)
  load_answered s k q _ task answered is failed = absurd is.asks

  -- a task that is to be loaded is one of the program's
  pub load_task : (s : State M T V P Q R F) (k : ℕ) (q : Q) (at : Stage Q T W (Cause M T V P Q R F)) (task : T) →
      IsAsked f talks s k q at (op.Load task) → Contains (f.tasks s.counts.program) task
  load_task s k q at task is = laws.tasks s.counts.program q task is.served.begins is.holds

  -- the request may end with the reply that it comes to
  pub reply_allowed : (s : State M T V P Q R F) (k : ℕ) (q : Q) (at : Stage Q T W (Cause M T V P Q R F)) (reply : R) →
      IsAsked f talks s k q at (op.End reply) → Condition f s k (kept.End reply)
  reply_allowed s k q at reply is = end_is_allowed f s k q is.found reply is.served.runs is.served.there is.holds

module _ {M T V P Q R F : Type 0} (f : Facts T V P Q R F) where
  -- nothing was loaded yet
  pub none_loaded : (k : ℕ) (q : Q) (p : P) (seen : List (Entry M T V P Q R F)) →
      (after f seat_limit seen).counts.program ≡ p → HasLoaded f k q p seen seen
  none_loaded k q p seen same = record {
    same = same;
    acts = [];
    gains = record { more = []; is = sym (append-nil seen); acts = refl };
    loads = no_loads;
  }

  -- one load more
  pub more_loaded : (k : ℕ) (q : Q) (p : P) (task : T) (acts : List (Kept M T V P Q R F))
      (start before now : List (Entry M T V P Q R F)) → HasLoaded f k q p start before → MayLoad task acts →
      Contains (f.request_asked p q) task → Gains k acts before now →
      (after f seat_limit now).counts.program ≡ (after f seat_limit before).counts.program →
      HasLoaded f k q p start now
  more_loaded k q p task acts start before now was may has gains stays = record {
    same = stays ∙ was.same;
    acts = was.acts ++ acts;
    gains = gains-trans k was.acts acts start before now was.gains gains;
    loads = loads_append (f.request_asked p q) acts was.loads (elim may [
      | inl none ↦ subst (AreLoads (f.request_asked p q)) (sym none) no_loads
      | inr is ↦ subst (AreLoads (f.request_asked p q)) (append-nil acts) (loads task acts [] has is no_loads)
    ]);
  }
