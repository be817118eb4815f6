-- A request that a pass runs, after its next turns.
use Rattle.std.proofs.Common.{◌≡◌, ℕ, ◌==◌, Bool, true, false, if◌then◌else◌, List, [], ◌∷◌, ◌++◌, append_assoc}
use Rattle.std.proofs.Common.{refl, sym, ap, ◌∙◌, subst, inl, inr}
use Rattle.std.proofs.lemmas.Bool.{eq-eqb}
use Rattle.system_events.specs.declared.event.Cause.{Cause}
use Rattle.system_events.specs.declared.event.Entry.{Entry}
use Rattle.system_events.specs.declared.event.Kept.{Kept}
use Rattle.system_events.specs.declared.event.Kept.TheVariants.{Begin, End, Refuse}
use Rattle.system_events.specs.declared.event.Want.{Want}
use Rattle.system_events.specs.Facts.{Facts, SameIsEqual}
use Rattle.system_events.specs.State.{State}
use Rattle.system_events.specs.Steps.{effect}
use Rattle.system_events.specs.Legal.{start, after, after_from, IsLegal, IsAfter, AreSteps}
use Rattle.system_laws.proofs.Exclusion.{tidy-exclusive}
use Rattle.system_laws.proofs.Keeps.{Keeps, keeps_step, keeps_after, history_after}
use Rattle.request_actor.specs.Talks.{Talks}
use Rattle.request_actor.specs.declared.actor.Stage.{Stage}
use Rattle.request_laws.specs.Conduct.{Opens, at_once, sought, Closes, free, resumed, AreDefines, no_defines, defines}
use Rattle.request_laws.specs.Conduct.{IsLoad, AreLoads, no_loads, loads}
use Rattle.request_laws.specs.Standing.{LeavesRequest, IsNoEnd, IsServed}
use Rattle.request_laws.proofs.Standing.{request_goes_on, served_stays}
use Rattle.shop_base.specs.Passes.{own, seat_limit, Gains}
use Rattle.shop_base.proofs.Later.{after-append}
use Rattle.pass_history.specs.Courses.{IsQuiet, AreQuiet}
use Rattle.pass_requests.specs.Serving.{MayLoad}

module _ {M T V P Q R F : Type 0} where
  -- an act that is quiet ends no request
  quiet_ends_none : (kept : Kept M T V P Q R F) → IsQuiet kept → IsNoEnd kept
  quiet_ends_none (Begin request) quiet = absurd quiet
  quiet_ends_none (End reply) quiet = absurd quiet
  quiet_ends_none (Refuse cause) quiet = absurd quiet
  quiet_ends_none _ quiet = tt

  quiet_append : (xs ys : List (Kept M T V P Q R F)) → AreQuiet xs → AreQuiet ys → AreQuiet (xs ++ ys)
  quiet_append [] ys first second = second
  quiet_append (x ∷ xs) ys first second = (first.0, quiet_append xs ys first.1 second)

  defines_quiet : {xs : List (Kept M T V P Q R F)} → AreDefines xs → AreQuiet xs
  defines_quiet no_defines = tt
  defines_quiet (defines task more are) = (tt, defines_quiet are)

  opens_quiet : {want : Want M T V P Q R F} {xs : List (Kept M T V P Q R F)} → Opens want xs → AreQuiet xs
  opens_quiet at_once = (tt, tt)
  opens_quiet sought = (tt, (tt, tt))

  closes_quiet : {xs : List (Kept M T V P Q R F)} → Closes xs → AreQuiet xs
  closes_quiet free = (tt, tt)
  closes_quiet resumed = (tt, (tt, tt))

  -- a load section neither begins nor ends a request
  pub load_quiet : (task : T) (acts : List (Kept M T V P Q R F)) → IsLoad task acts → AreQuiet acts
  load_quiet task acts is =
      subst AreQuiet (sym is.is)
      (quiet_append is.opening (is.defined ++ is.closing) (opens_quiet is.opens)
      (quiet_append is.defined is.closing (defines_quiet is.are) (closes_quiet is.closes)))

  -- a load neither begins nor ends a request
  pub may_load_quiet : (task : T) (acts : List (Kept M T V P Q R F)) → MayLoad task acts → AreQuiet acts
  may_load_quiet task acts may = elim may [
    | inl none ↦ subst AreQuiet (sym none) tt
    | inr is ↦ load_quiet task acts is
  ]

  -- load sections after load sections
  pub loads_append : (asked : List T) (ys : List (Kept M T V P Q R F)) {xs : List (Kept M T V P Q R F)} →
      AreLoads asked xs → AreLoads asked ys → AreLoads asked (xs ++ ys)
  loads_append asked ys no_loads second = second
  loads_append asked ys (loads task section more has is rest) second =
      subst (AreLoads asked) (sym (append_assoc section more ys))
      (loads task section (more ++ ys) has is (loads_append asked ys rest second))

module _ {M T V P Q R F : Type 0} (f : Facts T V P Q R F) where
  steps_after : (s : State M T V P Q R F) (xs ys : List (Entry M T V P Q R F)) → AreSteps f s (xs ++ ys) →
      AreSteps f (after_from f s xs) ys
  steps_after s [] ys steps = steps
  steps_after s (x ∷ xs) ys steps = steps_after (effect f s x.seat x.kept) xs ys steps.1

  legal_steps : (n : ℕ) (h more : List (Entry M T V P Q R F)) → IsLegal f n h → IsLegal f n (h ++ more) →
      AreSteps f (after f n h) more
  legal_steps n [] more legal later = absurd (let opens = legal.opens in cc)
  legal_steps n (x ∷ xs) more legal later =
      let rest : xs ++ more ≡ later.entries = let opens = later.opens in cc in
      steps_after (start f n) xs more (subst (AreSteps f (start f n)) (sym rest) later.steps)

  -- the state after a legal history is one
  pub is_after : (n : ℕ) (h : List (Entry M T V P Q R F)) → IsLegal f n h → IsAfter f n (after f n h)
  is_after n h legal = record {
    legal = subst (IsLegal f n) (sym (history_after f n h legal)) legal;
    state = ap (after f n) (sym (history_after f n h legal));
  }

module _ {M T V P Q R F G W E : Type 0} (f : Facts T V P Q R F) (equal : SameIsEqual f)
    (talks : Talks T V P Q R E G W) where
  served_from : (s : State M T V P Q R F) (es : List (Entry M T V P Q R F)) (k : ℕ) (q : Q) (found : List T)
      (at : Stage Q T W (Cause M T V P Q R F)) → Keeps f s → AreSteps f s es → AreQuiet (own k es) →
      IsServed f talks s k q found at →
      IsServed f talks (after_from f s es) k q found at
      × ((after_from f s es).counts.program ≡ s.counts.program)
  served_from s [] k q found at keeps steps quiet served = (served, refl)
  served_from s (e ∷ es) k q found at keeps steps quiet served =
      let leaves : LeavesRequest k e =
      λ same. quiet_ends_none e.kept
      ((subst (λ b. AreQuiet (if b then (e.kept ∷ own k es) else own k es)) (eq-eqb e.seat k same) quiet).0) in
      let exclusive = tidy-exclusive s.seats keeps.tidy in
      let goes = request_goes_on f equal s _ e k q exclusive steps.0 served.runs leaves in
      let rest = served_from (effect f s e.seat e.kept) es k q found at (keeps_step f equal s e _ steps.0 keeps) steps.1
      (others (e.seat == k) quiet)
      (served_stays f talks equal s _ e k q found at exclusive steps.0 leaves served) in
      (rest.0, rest.1 ∙ goes.program)
    where
      others : (b : Bool) → AreQuiet (if b then (e.kept ∷ own k es) else own k es) → AreQuiet (own k es)
      others true both = both.1
      others false both = both

  -- A request that is served is served still, behind turns without an own Begin, End or Refuse, on the same program.
  pub served_later : (k : ℕ) (q : Q) (found : List T) (at : Stage Q T W (Cause M T V P Q R F))
      (acts : List (Kept M T V P Q R F)) (before now : List (Entry M T V P Q R F)) → IsLegal f seat_limit before →
      IsLegal f seat_limit now → AreQuiet acts → Gains k acts before now →
      IsServed f talks (after f seat_limit before) k q found at →
      IsServed f talks (after f seat_limit now) k q found at
      × ((after f seat_limit now).counts.program ≡ (after f seat_limit before).counts.program)
  served_later k q found at acts before now legal later quiet gains served =
      let is : after f seat_limit now ≡ after_from f (after f seat_limit before) gains.more =
      ap (after f seat_limit) gains.is ∙ after-append f seat_limit before gains.more legal in
      let steps : AreSteps f (after f seat_limit before) gains.more =
      legal_steps f seat_limit before gains.more legal (subst (IsLegal f seat_limit) gains.is later) in
      let all = served_from (after f seat_limit before) gains.more k q found at
      (keeps_after f equal seat_limit before legal) steps (subst AreQuiet (sym gains.acts) quiet) served in
      subst (λ (s : State M T V P Q R F). IsServed f talks s k q found at
      × (s.counts.program ≡ (after f seat_limit before).counts.program)) (sym is) all
