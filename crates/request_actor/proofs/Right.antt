-- A request whose answers are right stays on its way.
use Rattle.std.proofs.Common.{◌≡◌, List, [], ◌∷◌, ◌++◌, Some, None, true, refl, sym, ap, ◌∙◌, subst, inl, inr}
use Rattle.std.proofs.Common.{append-nil, zero, suc, arith}
use Rattle.std.specs.Prelude.{is_some, Contains}
use Rattle.std.proofs.lemmas.Bool.{true≢false}
use Rattle.std.proofs.lemmas.List.{append_assoc}
use Rattle.std.proofs.lemmas.List.Elements.{Contains-append_right, Contains-append_cases}
use Rattle.by_need.specs.Asking.{Asking, Gives, Ask}
use Rattle.system_events.specs.Facts.{Facts}
use Rattle.system_events.specs.declared.event.Cause.{Cause}
use Rattle.system_events.specs.declared.event.Want.TheVariants.{Unload}
use Rattle.request_actor.specs.Talks.{Talks, AreOf, asked_over, asked_next, reply_over, reply_next}
use Rattle.request_actor.specs.Order.{Goes, GoesOn, Runs, AfterCheck, AfterRelease, AfterLook, AfterLoad, after_reload}
use Rattle.request_actor.specs.Answers.{IsLeft, IsAfter, IsOnWay, Holds, KeepsRight}
use Rattle.request_actor.specs.declared.actor.After.{After}
use Rattle.request_actor.specs.declared.actor.After.TheVariants as after
use Rattle.request_actor.specs.declared.actor.Stage.{Stage}
use Rattle.request_actor.specs.declared.actor.Stage.TheVariants as stage
use Rattle.request_actor.specs.declared.op.Op.{Op}
use Rattle.request_actor.specs.declared.op.Op.TheVariants as op
use Rattle.request_actor.specs.declared.op.Answered.{Answered}
use Rattle.request_actor.specs.declared.op.Answered.TheVariants as answer

-- a list has the task that stands in it
stands_in : {T : Type 0} (found more : List T) (task : T) → Contains (found ++ task ∷ more) task
stands_in found more task = Contains-append_right found (task ∷ more) task (0, omega arith, refl)

-- a list of one task has no other
pub is_only : {T : Type 0} (task other : T) → Contains (task ∷ []) other → task ≡ other
is_only task other (zero, below, here) = here
is_only task other (suc k, below, here) = absurd (omega arith)

module _ {T V P Q R F G W E : Type 0} (f : Facts T V P Q R F) (talks : Talks T V P Q R E G W) (p : P) where
  -- what a run asks for next is asked for by the request
  pub is_asked : (q : Q) (found : List T) (task : T) (next : V → Asking T V R) →
      IsLeft f talks p q found (Ask task next) → Contains (f.request_asked p q) task
  is_asked q found task next left =
      subst (λ tasks. Contains tasks task) (sym left.asks) (stands_in found _ task)

  -- a value that was found is the answer to the question
  left_found : (q : Q) (found : List T) (task : T) (value : V) (next : V → Asking T V R) →
      f.known p task ≡ Some value → IsLeft f talks p q found (Ask task next) →
      IsLeft f talks p q (found ++ task ∷ []) (next value)
  left_found q found task value next known left = record {
    asks = left.asks
        ∙ (ap (λ o. found ++ task ∷ asked_next (λ v. asked_over (f.known p) (next v)) o) known
        ∙ sym (append_assoc found (task ∷ []) (asked_over (f.known p) (next value))));
    replies = left.replies
        ∙ ap (reply_next (talks.failed (talks.blame p task))
        (λ v. reply_over (f.known p) (λ t. talks.failed (talks.blame p t)) (next v))) known;
  }

  -- a failed load ends the request with the reply of its blame
  reply_of_blame : (q : Q) (found : List T) (task : T) (error : E) (next : V → Asking T V R) →
      f.known p task ≡ None → error ≡ talks.blame p task → IsLeft f talks p q found (Ask task next) →
      talks.failed error ≡ f.reply p q
  reply_of_blame q found task error next unknown blame left =
      ap talks.failed blame
      ∙ sym (left.replies
      ∙ ap (reply_next (talks.failed (talks.blame p task))
      (λ v. reply_over (f.known p) (λ t. talks.failed (talks.blame p t)) (next v))) unknown)

  -- and what is known of what it asks for was found
  all_before_failure : (q : Q) (found : List T) (task other : T) (next : V → Asking T V R) →
      f.known p task ≡ None → IsLeft f talks p q found (Ask task next) → Contains (f.request_asked p q) other →
      is_some (f.known p other) ≡ true → Contains found other
  all_before_failure q found task other next unknown left asked known =
      let asks : f.request_asked p q ≡ found ++ task ∷ [] = left.asks
      ∙ ap (λ o. found ++ task ∷ asked_next (λ v. asked_over (f.known p) (next v)) o) unknown in
      elim (Contains-append_cases found (task ∷ []) other (subst (λ tasks. Contains tasks other) asks asked)) [
        | inl before ↦ before
        | inr last ↦
            let same : other ≡ task = sym (is_only task other last) in
            absurd (true≢false (sym known ∙ (ap (λ t. is_some (f.known p t)) same ∙ ap is_some unknown)))
      ]

  -- a request's whole run is left when it begins
  left_begun : (laws : AreOf f talks) (q request : Q) (found : List T) → request ≡ q → found ≡ [] →
      IsLeft f talks p q found (talks.whole p request)
  left_begun laws q request found same none = record {
    asks = laws.asked p q
        ∙ (ap (λ r. asked_over (f.known p) (talks.whole p r)) (sym same)
        ∙ ap (λ before. before ++ asked_over (f.known p) (talks.whole p request)) (sym none));
    replies = laws.reply p q
        ∙ ap (λ r. reply_over (f.known p) (λ t. talks.failed (talks.blame p t)) (talks.whole p r)) (sym same);
  }

module _ {M T V P Q R F G W E : Type 0} (f : Facts T V P Q R F) (talks : Talks T V P Q R E G W) (p : P) where
  -- what is asked for, and the next stage, are these
  both : (q : Q) (found : List T) (asked told : Op M T V P Q R F) (new next : Stage Q T W (Cause M T V P Q R F)) →
      asked ≡ told → new ≡ next → IsOnWay f talks p q found next → Holds f p q found told →
      IsOnWay f talks p q found new × Holds f p q found asked
  both q found asked told new next is goes way holds = (
    subst (λ (s : Stage Q T W (Cause M T V P Q R F)). IsOnWay f talks p q found s) (sym goes) way,
    subst (λ (o : Op M T V P Q R F). Holds f p q found o) (sym is) holds,
  )

  -- what a run comes to
  run_keeps : (q : Q) (found : List T) (rest : Asking T V R) (asked : Op M T V P Q R F)
      (new : Stage Q T W (Cause M T V P Q R F)) → IsLeft f talks p q found rest → Runs talks.branch rest asked new →
      IsOnWay f talks p q found new × Holds f p q found asked
  run_keeps q found (Gives reply) asked new left goes =
      both q found asked (op.End reply) new stage.Ends goes.0 goes.1 tt (
        sym left.replies,
        λ task wanted known. subst (λ tasks. Contains tasks task) (left.asks ∙ append-nil found) wanted,
      )
  run_keeps q found (Ask task next) asked new left goes =
      both q found asked (op.Look task) new (stage.Looks task goes.1.0) goes.0 goes.1.1.0
      (subst (λ (n : V → Asking T V R). IsLeft f talks p q found (Ask task n)) (sym goes.1.1.1) left)
      (is_asked f talks p q found task next left)

  -- what comes behind an unload section
  section_keeps : (next : After Q (Cause M T V P Q R F)) (q : Q) (found : List T) (asked : Op M T V P Q R F)
      (new : Stage Q T W (Cause M T V P Q R F)) → IsAfter q next → found ≡ [] → GoesOn next asked new →
      IsOnWay f talks p q found new × Holds f p q found asked
  section_keeps (after.Begins request) q found asked new same none goes =
      both q found asked op.Begin new (stage.Begins request) goes.0 goes.1 (same, none) tt
  section_keeps (after.Refuses cause) q found asked new same none goes =
      both q found asked (op.Refuse cause) new stage.Refuses goes.0 goes.1 tt tt

  check_keeps : (answered : Answered V E (Cause M T V P Q R F)) (request q : Q) (found : List T)
      (asked : Op M T V P Q R F) (new : Stage Q T W (Cause M T V P Q R F)) → request ≡ q → found ≡ [] →
      AfterCheck request answered asked new → IsOnWay f talks p q found new × Holds f p q found asked
  check_keeps answer.Same request q found asked new same none goes =
      both q found asked op.Begin new (stage.Begins request) goes.0 goes.1 (same, none) tt
  check_keeps answer.Differs request q found asked new same none goes =
      both q found asked (op.Take Unload) new (stage.Takes request) goes.0 goes.1 (same, none) tt
  check_keeps (answer.Fault cause) request q found asked new same none goes =
      both q found asked (op.Refuse cause) new stage.Refuses goes.0 goes.1 tt tt
  check_keeps _ request q found asked new same none goes = absurd goes

  is_after_reload : (answered : Answered V E (Cause M T V P Q R F)) (request q : Q) → request ≡ q →
      IsAfter q (after_reload request answered)
  is_after_reload (answer.Fault cause) request q same = tt
  is_after_reload _ request q same = same

  release_keeps : (answered : Answered V E (Cause M T V P Q R F)) (next : After Q (Cause M T V P Q R F)) (q : Q)
      (found : List T) (asked : Op M T V P Q R F) (new : Stage Q T W (Cause M T V P Q R F)) → IsAfter q next →
      found ≡ [] → AfterRelease next answered asked new →
      IsOnWay f talks p q found new × Holds f p q found asked
  release_keeps answer.Waits next q found asked new same none goes =
      both q found asked op.Resume new (stage.Resumes next) goes.0 goes.1 (same, none) tt
  release_keeps _ next q found asked new same none goes = section_keeps next q found asked new same none goes

  look_keeps : (answered : Answered V E (Cause M T V P Q R F)) (task : T) (waiting : W)
      (asked : Op M T V P Q R F) (new : Stage Q T W (Cause M T V P Q R F)) →
      AfterLook talks task waiting answered asked new →
      KeepsRight f talks p (stage.Looks task waiting) answered asked new
  look_keeps (answer.Found value) task waiting asked new goes = λ q found way right.
      run_keeps q (found ++ task ∷ []) (talks.branch waiting value) asked new
      (left_found f talks p q found task value (talks.branch waiting) right way) goes
  look_keeps _ task waiting asked new goes = λ q found way right.
      both q found asked (op.Load task) new (stage.Loads task waiting) goes.0 goes.1 way
      (is_asked f talks p q found task (talks.branch waiting) way)

  load_keeps : (answered : Answered V E (Cause M T V P Q R F)) (task : T) (waiting : W)
      (asked : Op M T V P Q R F) (new : Stage Q T W (Cause M T V P Q R F)) →
      AfterLoad talks task waiting answered asked new →
      KeepsRight f talks p (stage.Loads task waiting) answered asked new
  load_keeps (answer.Failed error) task waiting asked new goes = λ q found way right.
      both q found asked (op.End (talks.failed error)) new stage.Ends goes.0 goes.1 tt (
        reply_of_blame f talks p q found task error (talks.branch waiting) right.0 right.1 way,
        λ other wanted known. all_before_failure f talks p q found task other (talks.branch waiting) right.0 way
            wanted known,
      )
  load_keeps _ task waiting asked new goes = λ q found way right.
      both q found asked (op.Look task) new (stage.Looks task waiting) goes.0 goes.1 way
      (is_asked f talks p q found task (talks.branch waiting) way)

  -- a step of the order, with a right answer, keeps the request on its way
  pub keeps_right : (laws : AreOf f talks) (old : Stage Q T W (Cause M T V P Q R F))
      (answered : Answered V E (Cause M T V P Q R F)) (asked : Op M T V P Q R F)
      (new : Stage Q T W (Cause M T V P Q R F)) → Goes talks p old answered asked new →
      KeepsRight f talks p old answered asked new
  keeps_right laws (stage.Fresh request) answered asked new goes = λ q found way right.
      both q found asked op.Share new (stage.Shares request) goes.0 goes.1 way tt
  keeps_right laws (stage.Shares request) answered asked new goes = λ q found way right.
      both q found asked op.Check new (stage.Checks request) goes.0 goes.1 way tt
  keeps_right laws (stage.Checks request) answered asked new goes = λ q found way right.
      check_keeps answered request q found asked new way.0 way.1 goes
  keeps_right laws (stage.Takes request) answered asked new goes = λ q found way right.
      both q found asked op.Reload new (stage.Reloads request) goes.0 goes.1 way tt
  keeps_right laws (stage.Reloads request) answered asked new goes = λ q found way right.
      both q found asked op.Release new (stage.Releases (after_reload request answered)) goes.0 goes.1
      (is_after_reload answered request q way.0, way.1) tt
  keeps_right laws (stage.Releases next) answered asked new goes = λ q found way right.
      release_keeps answered next q found asked new way.0 way.1 goes
  keeps_right laws (stage.Resumes next) answered asked new goes = λ q found way right.
      section_keeps next q found asked new way.0 way.1 goes
  keeps_right laws (stage.Begins request) answered asked new goes = λ q found way right.
      run_keeps q found (talks.whole p request) asked new (left_begun f talks p laws q request found way.0 way.1) goes
  keeps_right laws (stage.Looks task waiting) answered asked new goes = look_keeps answered task waiting asked new goes
  keeps_right laws (stage.Loads task waiting) answered asked new goes = load_keeps answered task waiting asked new goes
  keeps_right laws stage.Ends answered asked new goes = λ q found way right.
      both q found asked op.Unshare new stage.Unshares goes.0 goes.1 tt tt
  keeps_right laws stage.Refuses answered asked new goes = λ q found way right.
      both q found asked op.Unshare new stage.Unshares goes.0 goes.1 tt tt
  keeps_right laws stage.Unshares answered asked new goes = λ q found way right.
      both q found asked op.Finished new stage.Over goes.0 goes.1 tt tt
  keeps_right laws stage.Over answered asked new goes = absurd goes

module _ {M T V P Q R F G W E : Type 0} (talks : Talks T V P Q R E G W) (p : P) where
  -- the order at a stage that is this one
  pub goes_at : (old this : Stage Q T W (Cause M T V P Q R F)) (answered : Answered V E (Cause M T V P Q R F))
      (asked : Op M T V P Q R F) (new : Stage Q T W (Cause M T V P Q R F)) → old ≡ this →
      Goes talks p this answered asked new → Goes talks p old answered asked new
  goes_at old this answered asked new same goes =
      subst (λ (s : Stage Q T W (Cause M T V P Q R F)). Goes talks p s answered asked new) (sym same) goes

-- what a run comes to of which this is left
pub runs_whole : {M T V P Q R F W : Type 0} (branch : W → V → Asking T V R) (rest whole : Asking T V R)
    (asked : Op M T V P Q R F) (new : Stage Q T W (Cause M T V P Q R F)) → rest ≡ whole →
    Runs branch rest asked new → Runs branch whole asked new
runs_whole {M} {T} {V} {P} {Q} {R} {F} {W} branch rest whole asked new same runs =
    subst (λ (r : Asking T V R). Runs branch r asked new) same runs
