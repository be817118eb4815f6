-- From one step of a request to the next.
use Rattle.std.proofs.Common.{◌≡◌, ℕ, List, [], Option, Some, None, true, false, refl, sym, ap, ◌∙◌, subst}
use Rattle.std.specs.Prelude.{if◌then◌else◌}
use Rattle.by_need.specs.Asking.{Asking, Gives, Ask}
use Rattle.system_events.specs.declared.event.Act.{Act}
use Rattle.system_events.specs.declared.event.Applied.{Applied}
use Rattle.system_events.specs.declared.event.Applied.TheVariants.{Done, Refused}
use Rattle.system_events.specs.declared.event.Cause.{Cause}
use Rattle.system_events.specs.declared.event.Event.{Event}
use Rattle.system_seats.specs.declared.guard.Guard.{Guard}
use Rattle.system_events.specs.declared.event.Want.TheVariants.{Unload}
use Rattle.system_events.specs.Facts.{Facts, SameIsEqual}
use Rattle.system_events.specs.State.{State}
use Rattle.system_events.specs.Guards.{guard_of}
use Rattle.system_events.specs.Steps.{kept_of}
use Rattle.system_events.specs.Legal.{IsAfter}
use Rattle.request_actor.specs.Talks.{Talks, AreOf}
use Rattle.request_actor.specs.Order.{Goes, GoesOn, Runs, AfterCheck, AfterRelease, AfterLook, AfterLoad, after_reload}
use Rattle.request_actor.specs.Answers.{Holds, found_after}
use Rattle.request_actor.specs.declared.actor.After.{After}
use Rattle.request_actor.specs.declared.actor.After.TheVariants as after
use Rattle.request_actor.specs.declared.actor.Stage.{Stage}
use Rattle.request_actor.specs.declared.actor.Stage.TheVariants as stage
use Rattle.request_actor.specs.declared.op.Op.{Op}
use Rattle.request_actor.specs.declared.op.Op.TheVariants as op
use Rattle.request_actor.specs.declared.op.Answered.{Answered}
use Rattle.request_actor.specs.declared.op.Answered.TheVariants as answer
use Rattle.request_laws.specs.Standing.{IsServed}
use Rattle.served_requests.proofs.Serving.{answered_stays}
use Rattle.seat_requests.specs.declared.entering.Entered.TheVariants.{Waits, Full}
use Rattle.seat_requests.specs.Trying.{verdict, is_limit, IsRefused, IsLimited}
use Rattle.seat_requests.specs.Standing.{IsAskedAt, Stands, IsStanding, MayFollow, IsReady, IsCauseOf, IsEntered}

module _ {M T V P Q R F G W E : Type 0} (f : Facts T V P Q R F) (talks : Talks T V P Q R E G W)
    (s : State M T V P Q R F) (k : ℕ) where
  -- what is asked for, and the next stage, are these
  stands_at : (asked told : Op M T V P Q R F) (new next : Stage Q T W (Cause M T V P Q R F)) → asked ≡ told →
      new ≡ next → IsAskedAt next told → Stands f talks s k next told → IsStanding f talks s k new asked
  stands_at asked told new next is goes asks stands = record {
    asks = subst (λ (a : Stage Q T W (Cause M T V P Q R F)). IsAskedAt a asked) (sym goes)
        (subst (λ (o : Op M T V P Q R F). IsAskedAt next o) (sym is) asks);
    stands = subst (λ (a : Stage Q T W (Cause M T V P Q R F)). Stands f talks s k a asked) (sym goes)
        (subst (λ (o : Op M T V P Q R F). Stands f talks s k next o) (sym is) stands);
  }

  section_stands : (next : After Q (Cause M T V P Q R F)) (asked : Op M T V P Q R F)
      (new : Stage Q T W (Cause M T V P Q R F)) → MayFollow f next → GoesOn next asked new →
      IsStanding f talks s k new asked
  section_stands (after.Begins request) asked new may goes =
      stands_at asked op.Begin new (stage.Begins request) goes.0 goes.1 refl may
  section_stands (after.Refuses cause) asked new may goes =
      stands_at asked (op.Refuse cause) new stage.Refuses goes.0 goes.1 (cause, refl) (cause, (refl, may))

  check_stands : (answered : Answered V E (Cause M T V P Q R F)) (request : Q) (asked : Op M T V P Q R F)
      (new : Stage Q T W (Cause M T V P Q R F)) → f.IsRequest request → IsCauseOf f answered →
      AfterCheck request answered asked new → IsStanding f talks s k new asked
  check_stands answer.Same request asked new may allowed goes =
      stands_at asked op.Begin new (stage.Begins request) goes.0 goes.1 refl may
  check_stands answer.Differs request asked new may allowed goes =
      stands_at asked (op.Take Unload) new (stage.Takes request) goes.0 goes.1 refl may
  check_stands (answer.Fault cause) request asked new may allowed goes =
      stands_at asked (op.Refuse cause) new stage.Refuses goes.0 goes.1 (cause, refl) (cause, (refl, allowed))
  check_stands _ request asked new may allowed goes = absurd goes

  may_follow : (answered : Answered V E (Cause M T V P Q R F)) (request : Q) → f.IsRequest request →
      IsCauseOf f answered → MayFollow f (after_reload request answered)
  may_follow (answer.Fault cause) request may allowed = allowed
  may_follow _ request may allowed = may

  release_stands : (answered : Answered V E (Cause M T V P Q R F)) (next : After Q (Cause M T V P Q R F))
      (asked : Op M T V P Q R F) (new : Stage Q T W (Cause M T V P Q R F)) → MayFollow f next →
      AfterRelease next answered asked new → IsStanding f talks s k new asked
  release_stands answer.Waits next asked new may goes =
      stands_at asked op.Resume new (stage.Resumes next) goes.0 goes.1 refl may
  release_stands _ next asked new may goes = section_stands next asked new may goes

  -- what a run comes to, where the request is served behind it
  run_stands : (q : Q) (found : List T) (rest : Asking T V R) (asked : Op M T V P Q R F)
      (new : Stage Q T W (Cause M T V P Q R F)) → Runs talks.branch rest asked new →
      IsServed f talks s k q found new → Holds f s.counts.program q found asked → IsStanding f talks s k new asked
  run_stands q found (Gives reply) asked new goes served holds = record {
    asks = subst (λ (a : Stage Q T W (Cause M T V P Q R F)). IsAskedAt a asked) (sym goes.1) (reply, goes.0);
    stands = subst (λ (a : Stage Q T W (Cause M T V P Q R F)). Stands f talks s k a asked) (sym goes.1) (
      q,
      (
        found,
        (subst (λ (a : Stage Q T W (Cause M T V P Q R F)). IsServed f talks s k q found a) goes.1 served, holds),
      ),
    );
  }
  run_stands q found (Ask task branch) asked new goes served holds = record {
    asks = subst (λ (a : Stage Q T W (Cause M T V P Q R F)). IsAskedAt a asked) (sym goes.1.1.0) goes.0;
    stands = subst (λ (a : Stage Q T W (Cause M T V P Q R F)). Stands f talks s k a asked) (sym goes.1.1.0) (
      q,
      (
        found,
        (subst (λ (a : Stage Q T W (Cause M T V P Q R F)). IsServed f talks s k q found a) goes.1.1.0 served, holds),
      ),
    );
  }

  look_stands : (q : Q) (found : List T) (answered : Answered V E (Cause M T V P Q R F)) (task : T) (waiting : W)
      (asked : Op M T V P Q R F) (new : Stage Q T W (Cause M T V P Q R F)) →
      AfterLook talks task waiting answered asked new → IsServed f talks s k q found new →
      Holds f s.counts.program q found asked → IsStanding f talks s k new asked
  look_stands q found (answer.Found value) task waiting asked new goes served holds =
      run_stands q found (talks.branch waiting value) asked new goes served holds
  look_stands q found _ task waiting asked new goes served holds = record {
    asks = subst (λ (a : Stage Q T W (Cause M T V P Q R F)). IsAskedAt a asked) (sym goes.1) goes.0;
    stands = subst (λ (a : Stage Q T W (Cause M T V P Q R F)). Stands f talks s k a asked) (sym goes.1) (
      q,
      (
        found,
        (subst (λ (a : Stage Q T W (Cause M T V P Q R F)). IsServed f talks s k q found a) goes.1 served, holds),
      ),
    );
  }

  load_stands : (q : Q) (found : List T) (answered : Answered V E (Cause M T V P Q R F)) (task : T) (waiting : W)
      (asked : Op M T V P Q R F) (new : Stage Q T W (Cause M T V P Q R F)) →
      AfterLoad talks task waiting answered asked new → IsServed f talks s k q found new →
      Holds f s.counts.program q found asked → IsStanding f talks s k new asked
  load_stands q found (answer.Failed error) task waiting asked new goes served holds = record {
    asks = subst (λ (a : Stage Q T W (Cause M T V P Q R F)). IsAskedAt a asked) (sym goes.1)
        (talks.failed error, goes.0);
    stands = subst (λ (a : Stage Q T W (Cause M T V P Q R F)). Stands f talks s k a asked) (sym goes.1) (
      q,
      (
        found,
        (subst (λ (a : Stage Q T W (Cause M T V P Q R F)). IsServed f talks s k q found a) goes.1 served, holds),
      ),
    );
  }
  load_stands q found _ task waiting asked new goes served holds = record {
    asks = subst (λ (a : Stage Q T W (Cause M T V P Q R F)). IsAskedAt a asked) (sym goes.1) goes.0;
    stands = subst (λ (a : Stage Q T W (Cause M T V P Q R F)). Stands f talks s k a asked) (sym goes.1) (
      q,
      (
        found,
        (subst (λ (a : Stage Q T W (Cause M T V P Q R F)). IsServed f talks s k q found a) goes.1 served, holds),
      ),
    );
  }

module _ {M T V P Q R F G W E : Type 0} (f : Facts T V P Q R F) (equal : SameIsEqual f)
    (talks : Talks T V P Q R E G W) (laws : AreOf f talks) (seats : ℕ) (s : State M T V P Q R F) (k : ℕ)
    (is_after : IsAfter f seats s) where
  -- a request that is ready for an answer stands at what it asks for next
  pub ready_goes : (old : Stage Q T W (Cause M T V P Q R F)) (answered : Answered V E (Cause M T V P Q R F))
      (asked : Op M T V P Q R F) (new : Stage Q T W (Cause M T V P Q R F)) → IsReady f talks s k old answered →
      Goes talks s.counts.program old answered asked new → IsStanding f talks s k new asked
  ready_goes (stage.Fresh request) answered asked new ready goes =
      stands_at f talks s k asked op.Share new (stage.Shares request) goes.0 goes.1 refl ready
  ready_goes (stage.Shares request) answered asked new ready goes =
      stands_at f talks s k asked op.Check new (stage.Checks request) goes.0 goes.1 refl ready
  ready_goes (stage.Checks request) answered asked new ready goes =
      check_stands f talks s k answered request asked new ready.0 ready.1 goes
  ready_goes (stage.Takes request) answered asked new ready goes =
      stands_at f talks s k asked op.Reload new (stage.Reloads request) goes.0 goes.1 refl ready
  ready_goes (stage.Reloads request) answered asked new ready goes =
      stands_at f talks s k asked op.Release new (stage.Releases (after_reload request answered)) goes.0 goes.1 refl
      (may_follow f talks s k answered request ready.0 ready.1)
  ready_goes (stage.Releases next) answered asked new ready goes =
      release_stands f talks s k answered next asked new ready goes
  ready_goes (stage.Resumes next) answered asked new ready goes = section_stands f talks s k next asked new ready goes
  ready_goes (stage.Begins request) answered asked new ready goes =
      let kept = answered_stays f equal talks laws seats s k ready.0 [] (stage.Begins request) new answered asked
      is_after ready.1 tt goes in
      run_stands f talks s k ready.0 [] (talks.whole s.counts.program request) asked new goes kept.0 kept.1
  ready_goes (stage.Looks task waiting) answered asked new ready goes =
      let found_now = found_after (stage.Looks task waiting) answered ready.1.0 in
      let kept = answered_stays f equal talks laws seats s k ready.0 ready.1.0 (stage.Looks task waiting) new answered
      asked is_after ready.1.1.0 ready.1.1.1 goes in
      look_stands f talks s k ready.0 found_now answered task waiting asked new goes kept.0 kept.1
  ready_goes (stage.Loads task waiting) answered asked new ready goes =
      let kept = answered_stays f equal talks laws seats s k ready.0 ready.1.0 (stage.Loads task waiting) new answered
      asked is_after ready.1.1.0 ready.1.1.1 goes in
      load_stands f talks s k ready.0 ready.1.0 answered task waiting asked new goes kept.0 kept.1
  ready_goes stage.Ends answered asked new ready goes =
      stands_at f talks s k asked op.Unshare new stage.Unshares goes.0 goes.1 refl tt
  ready_goes stage.Refuses answered asked new ready goes =
      stands_at f talks s k asked op.Unshare new stage.Unshares goes.0 goes.1 refl tt
  ready_goes stage.Unshares answered asked new ready goes =
      stands_at f talks s k asked op.Finished new stage.Over goes.0 goes.1 refl tt
  ready_goes stage.Over answered asked new ready goes = absurd goes

-- the order on a program that is this one
pub goes_on_program : {M T V P Q R F G W E : Type 0} (talks : Talks T V P Q R E G W) (p q : P)
    (old : Stage Q T W (Cause M T V P Q R F)) (answered : Answered V E (Cause M T V P Q R F))
    (asked : Op M T V P Q R F) (new : Stage Q T W (Cause M T V P Q R F)) → p ≡ q →
    Goes talks p old answered asked new → Goes talks q old answered asked new
goes_on_program {P} talks p q old answered asked new same goes =
    subst (λ (x : P). Goes talks x old answered asked new) same goes

-- an act that was refused: by this guard, the first that is true, and nothing changed
pub record RefusedBy {M T V P Q R F : Type 0} (f : Facts T V P Q R F) (old new : State M T V P Q R F) (seat : ℕ)
    (act again : Act M T V P Q R F) (guard : Guard) : Type 0 where
  pub first : guard_of f old seat (kept_of act) ≡ Some guard
  pub same : new ≡ old
  pub back : again ≡ act

module _ {M T V P Q R F : Type 0} (f : Facts T V P Q R F) where
  -- an event that is refused is handed back, and its guard is the first that is true
  pub refused_by : (old new : State M T V P Q R F) (seat : ℕ) (act : Act M T V P Q R F)
      (result : Applied M T V P Q R F) (guard : Guard) (event : Event M T V P Q R F) → result ≡ Refused guard event →
      (guard_of f old seat (kept_of act) ≡ None → result ≡ Done) →
      ((other : Guard) → guard_of f old seat (kept_of act) ≡ Some other →
      (result ≡ Refused other (record { seat = seat; act = act })) × (new ≡ old)) →
      RefusedBy f old new seat act event.act guard
  refused_by old new seat act result guard event is done refused = by (guard_of f old seat (kept_of act)) refl
    where
      by : (o : Option Guard) → guard_of f old seat (kept_of act) ≡ o → RefusedBy f old new seat act event.act guard
      by None none = absurd (cc (done none, is))
      by (Some other) some =
          let r = refused other some in
          let same_guard : guard ≡ other = cc (is, r.0) in
          let same_event : event ≡ record { seat = seat; act = act } = cc (is, r.0) in
          record {
            first = some ∙ ap (λ (g : Guard). Some g) (sym same_guard);
            same = r.1;
            back = ap (λ (e : Event M T V P Q R F). e.act) same_event;
          }

  -- what comes of an act that is refused by a guard that is no limit
  pub is_refused : (s old new : State M T V P Q R F) (seat : ℕ) (act again : Act M T V P Q R F) (guard : Guard) →
      s ≡ old → RefusedBy f s new seat act again guard → is_limit guard ≡ false →
      IsEntered f old new seat (kept_of act) act (Waits again)
  is_refused s old new seat act again guard is by no_limit = (
    by.same ∙ is,
    by.back,
    ap (λ (x : State M T V P Q R F). verdict (guard_of f x seat (kept_of act))) (sym is) ∙ ap verdict by.first
        ∙ ap (λ b. if b then IsLimited else IsRefused) no_limit,
  )

  -- what comes of an act that is refused by a limit
  pub is_limited : (s old new : State M T V P Q R F) (seat : ℕ) (act again : Act M T V P Q R F) (guard : Guard) →
      s ≡ old → RefusedBy f s new seat act again guard → is_limit guard ≡ true →
      IsEntered f old new seat (kept_of act) act Full
  is_limited s old new seat act again guard is by limit = (
    by.same ∙ is,
    ap (λ (x : State M T V P Q R F). verdict (guard_of f x seat (kept_of act))) (sym is) ∙ ap verdict by.first
        ∙ ap (λ b. if b then IsLimited else IsRefused) limit,
  )
