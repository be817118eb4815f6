-- From a check to the Begin or the Refuse of a head.
use Rattle.std.proofs.Common.{◌≡◌, ◌+◌, ◌⊎◌, inl, inr, ℕ, Bool, true, false, List, [], ◌∷◌, ◌++◌, length}
use Rattle.std.proofs.Common.{Option, Some, None, is_some, refl, sym, ap, ◌∙◌, subst, length-append, arith}
use Rattle.std.specs.Prelude.{Result, Ok, Err}
use Rattle.outside.specs.Tree.{Given}
use Rattle.outside.specs.declared.files.FileEntry.{FileEntry}
use Rattle.outside.specs.declared.files.Stamp.{Stamp}
use Rattle.system_events.specs.declared.event.Entry.{Entry}
use Rattle.system_events.specs.declared.event.Kept.{Kept}
use Rattle.system_events.specs.declared.event.Kept.TheVariants.{Share}
use Rattle.system_events.specs.declared.event.Want.TheVariants.{Unload}
use Rattle.system_events.specs.declared.event.Cause.{Cause}
use Rattle.system_events.specs.Facts.{Facts}
use Rattle.system_events.specs.Legal.{IsLegal}
use Rattle.reload_matter.specs.Sources.{Sources}
use Rattle.request_laws.specs.Conduct.{Opens, Closes, MayReload, IsUnload}
use Rattle.request_laws.specs.Conduct as conduct
use Rattle.shop_base.specs.Passes.{seat_limit, Made}
use Rattle.pass_history.specs.Freshness.{NoneReloads}
use Rattle.reload_checks.specs.declared.answers.Checked.{Checked}
use Rattle.reload_checks.specs.declared.answers.Checked.TheVariants.{Same, Reloaded}
use Rattle.reload_checks.specs.declared.answers.ReloadFault.{ReloadFault}
use Rattle.reload_checks.specs.Checks.{opening_acts, closing_acts, reload_acts, TellsReload, IsCourse, IsFresh, Check}
use Rattle.reload_checks.specs.Checks as checks
use Rattle.reload_checks.proofs.Courses.{check_acts}
use Rattle.head_promises.specs.Courses.{Wanted, Asks, Refused, IsOfCheck, last_stamps}
use Rattle.head_promises.specs.Courses.{Checked as Is-Checked}
use Rattle.head_promises.specs.Courses as courses
use Rattle.head_courses.specs.Standing.{HasShared, HasRefusal, reloaded_of}
use Rattle.head_courses.proofs.Keeping.{legal_between}

-- the stamps that a tree gave last are one thing
last_is : (given : List Given) → last_stamps given ≡ checks.last_stamps given
last_is [] = refl
last_is (item ∷ []) = refl
last_is (item ∷ (next ∷ more)) = last_is (next ∷ more)

-- an answer tells a Reload where there was one
answer_tells : {P F : Type 0} (answer : Result Checked (ReloadFault F)) (made : Option P) → TellsReload answer made →
    is_some made ≡ reloaded_of answer
answer_tells (Ok (Reloaded generation)) (Some program) tells = refl
answer_tells (Ok (Reloaded generation)) None tells = absurd tells
answer_tells (Ok Same) (Some program) tells = absurd tells
answer_tells (Ok Same) None tells = refl
answer_tells (Err fault) (Some program) tells = absurd tells
answer_tells (Err fault) None tells = refl

module _ {M T V P Q R F : Type 0} where
  opens_unload : (b : Bool) → Opens {M = M} {T = T} {V = V} {P = P} {Q = Q} {R = R} {F = F} Unload (opening_acts b)
  opens_unload true = conduct.sought
  opens_unload false = conduct.at_once

  closes_unload : (b : Bool) → Closes {M = M} {T = T} {V = V} {P = P} {Q = Q} {R = R} {F = F} (closing_acts b)
  closes_unload true = conduct.resumed
  closes_unload false = conduct.free

  may_reload : (made : Option P) → MayReload {M = M} {T = T} {V = V} {P = P} {Q = Q} {R = R} {F = F} (reload_acts made)
  may_reload None = conduct.unchanged
  may_reload (Some program) = conduct.reloads program

  -- an unload tells a Reload where it has one
  tells_reload : (acts : List (Kept M T V P Q R F)) (sought : Bool) (made : Option P) (waited : Bool) →
      acts ≡ opening_acts sought ++ (reload_acts made ++ closing_acts waited) →
      courses.reloads acts ≡ is_some made
  tells_reload acts sought made waited is = ap courses.reloads is ∙ by sought made waited
    where
      by : (sought : Bool) (made : Option P) (waited : Bool) →
          courses.reloads {M = M} {T = T} {V = V} {P = P} {Q = Q} {R = R} {F = F}
          (opening_acts sought ++ (reload_acts made ++ closing_acts waited)) ≡ is_some made
      by true None true = refl
      by true None false = refl
      by true (Some program) waited = refl
      by false None true = refl
      by false None false = refl
      by false (Some program) waited = refl

  -- what a check enters is none or an unload, and it has a Reload exactly where its answer says so
  pub course_is : (answer : Result Checked (ReloadFault F)) (acts : List (Kept M T V P Q R F)) →
      IsCourse answer acts → ((acts ≡ []) ⊎ IsUnload acts) × (reloaded_of answer ≡ courses.reloads acts)
  course_is answer acts is = elim is [
    | inl none ↦ (inl none.0, sym (answer_tells {P = P} answer None none.1) ∙ ap courses.reloads (sym none.0))
    | inr unload ↦ (
      inr (record {
        opening = opening_acts unload.0;
        reload = reload_acts unload.1.0;
        closing = closing_acts unload.1.1.0;
        is = unload.1.1.1.0;
        opens = opens_unload unload.0;
        may_reload = may_reload unload.1.0;
        closes = closes_unload unload.1.1.0;
      }),
      sym (answer_tells answer unload.1.0 unload.1.1.1.1)
          ∙ sym (tells_reload acts unload.0 unload.1.0 unload.1.1.0 unload.1.1.1.0),
    )
  ]

  -- what a check enters behind its last comparing turn has no Reload
  leaves_none : (acts : List (Kept M T V P Q R F)) → (acts ≡ []) ⊎ ((waited : Bool) × (acts ≡ closing_acts waited)) →
      NoneReloads acts
  leaves_none acts is = elim is [
    | inl none ↦ subst NoneReloads (sym none) tt
    | inr closes ↦ subst NoneReloads (sym closes.1) (by closes.0)
  ]
    where
      by : (waited : Bool) → NoneReloads {M = M} {T = T} {V = V} {P = P} {Q = Q} {R = R} {F = F} (closing_acts waited)
      by true = (tt, (tt, tt))
      by false = (tt, tt)

module _ {M T V P Q R F : Type 0} (f : Facts T V P Q R F) (s : Sources P F) (k : ℕ) where
  -- behind a check, whatever it answered
  pub shared_after : (held : Option (List FileEntry)) (before shared now : List (Entry M T V P Q R F))
      (answer : Result Checked (ReloadFault F)) (reads : List Given) → Made k Share before shared →
      Check f s k held shared answer reads now → HasShared k (reloaded_of answer) before now
  shared_after held before shared now answer reads made check =
      let acts = check_acts f s k held shared answer reads now check in
      let is = course_is answer acts.0 acts.1.1 in
      record {
        shared = shared;
        check = acts.0;
        shares = made;
        checks = acts.1.0;
        is_check = is.0;
        tells = is.1;
      }

  -- stamps that were in force at one of its turns
  pub checked_by : (shared now : List (Entry M T V P Q R F)) (reads : List Given) (stamps : List (List ℕ × Stamp)) →
      IsLegal f seat_limit shared → IsLegal f seat_limit now → checks.last_stamps reads ≡ Some stamps →
      IsFresh f s k stamps shared now → Is-Checked f s.has_stamps k reads (length shared) now
  checked_by shared now reads stamps legal later last fresh = record {
    stamps = stamps;
    last = last_is reads ∙ last;
    at = fresh.at;
    legal = legal_between f seat_limit shared fresh.at (fresh.later).more legal fresh.begins_it
        (subst (IsLegal f seat_limit) (fresh.later).is later);
    since = let longer : length fresh.at ≡ length shared + length (fresh.begins_it).0 =
        ap length (fresh.begins_it).1 ∙ length-append shared (fresh.begins_it).0 in omega (arith, longer);
    compared = fresh.compared;
    acts = fresh.acts;
    later = fresh.later;
    none = leaves_none fresh.acts fresh.only_leaves;
  }

  -- a refused check
  pub refusal_after : (held : Option (List FileEntry)) (before shared now : List (Entry M T V P Q R F))
      (answer : Result Checked (ReloadFault F)) (reads : List Given) (q : Q) (why : Cause M T V P Q R F) →
      Made k Share before shared → Check f s k held shared answer reads now → IsOfCheck why →
      HasRefusal k (Asks q) why reads (reloaded_of answer) before now
  refusal_after held before shared now answer reads q why made check is =
      record { has = shared_after held before shared now answer reads made check; fits = is }
