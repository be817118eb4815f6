-- The section of each seat, and the requests that run on, after every entry.
use Rattle.std.proofs.Common.{◌≡◌, ◌≢◌, ℕ, zero, suc, ◌<◌, ◌⊎◌, inl, inr, List, [], ◌∷◌, ◌++◌, length}
use Rattle.std.proofs.Common.{set, slice_get, Some, None, if◌then◌else◌, is_some, refl}
use Rattle.std.proofs.Common.{sym}
use Rattle.std.proofs.Common.{ap, ◌∙◌, subst, arith, get_or-set_same, get_or-set_other}
use Rattle.std.proofs.lemmas.Bool.{cases_eq, cond_both}
use Rattle.std.proofs.lemmas.Option.{none-some, same_Some}
use Rattle.share_lock.specs.Lock.{owns}
use Rattle.system_seats.specs.declared.guard.Guard.TheVariants.{Exclusive}
use Rattle.system_seats.specs.declared.guard.Marks.{Marks}
use Rattle.system_seats.specs.declared.guard.Purpose.{Purpose}
use Rattle.system_seats.specs.declared.guard.Purpose.TheVariants.{Load as For-Load, Unload as For-Unload}
use Rattle.system_seats.specs.Seats.{Seats, no_marks, mark_at, row, mark, is_owner, is_calm}
use Rattle.system_seats.specs.Guards.{◌when◌else◌, own_begin, own_end, begin_guard, end_guard}
use Rattle.system_seats.specs.Effects.{with_section, purpose_of_section}
use Rattle.system_seats.specs.Shapes.{HasShape, IsTidy, shape_runs, shape_section}
use Rattle.system_seats.proofs.From.{guard_false, begin_shape, begin_rest, end_shape}
use Rattle.system_seats.proofs.Events.{At, at_shape, none_of}
use Rattle.system_seats.proofs.Leaves.{seeks_from, seeks_as, seek-at, take-at}
use Rattle.system_events.specs.declared.event.Cause.TheVariants.{Memory}
use Rattle.system_events.specs.declared.event.Want.{Want}
use Rattle.system_events.specs.declared.event.Entry.{Entry}
use Rattle.system_events.specs.declared.event.Kept.{Kept}
use Rattle.system_events.specs.declared.event.Kept.TheVariants.{Share, Unshare, Yield, Retake, Seek, Take, Release}
use Rattle.system_events.specs.declared.event.Kept.TheVariants.{Resume, Define, Reload, Begin, End, Refuse}
use Rattle.system_events.specs.Facts.{Facts}
use Rattle.system_events.specs.State.{State, next_place, want_of, entry_want, want_at, purpose_of, in_table, is_wanted}
use Rattle.system_events.specs.Guards.{guard_of}
use Rattle.system_events.specs.Steps.{effect}
use Rattle.system_laws.specs.Lawful.{IsOpened, AreOpened, AreSteady, IsNoReload}
use Rattle.system_laws.proofs.Lists.{get_new}
use Rattle.system_laws.proofs.Tidy.{first_none}
use Rattle.system_laws.proofs.Runs.{runs_on, no_run}

-- WHICH SECTION IT IS

from_purpose : (p : Purpose) → p ≡ (if shape_runs (seeks_from p) then For-Load else For-Unload)
from_purpose For-Load = refl
from_purpose For-Unload = refl

as_purpose : (p : Purpose) → p ≡ (if shape_runs (seeks_as p) then For-Load else For-Unload)
as_purpose For-Load = refl
as_purpose For-Unload = refl

purpose_here : (s : Seats) (k : ℕ) (p : Purpose) → At s k (seeks_from p) → p ≡ purpose_of_section (mark s k)
purpose_here s k p f = from_purpose p ∙ ap (λ b. if b then For-Load else For-Unload) (sym f.running)

purpose_sought : (s : Seats) (k : ℕ) (p : Purpose) → At s k (seeks_as p) → p ≡ purpose_of_section (mark s k)
purpose_sought s k p f = as_purpose p ∙ ap (λ b. if b then For-Load else For-Unload) (sym f.running)

-- a seat that begins a request has no section
begin_none : (s : Seats) (k : ℕ) → IsTidy s → begin_guard s k ≡ None → (mark s k).section ≡ None
begin_none s k tidy passed =
    let h : HasShape (row s k) (mark s k) (is_owner s k) = tidy.shapes k in
    let p = at_shape s k h.shape (λ r runs o. own_begin r runs o (Exclusive when is_some s.lock.exclusive else None))
    h.fits passed in
    let none : s.lock.exclusive ≡ None = none_of _ (guard_false _ _ _ (begin_rest h.shape _ p)).0 in
    none_of _ (h.fits.section ∙ ap shape_section
    (begin_shape h.shape _ p (sym h.fits.owner ∙ ap (λ e. owns e k) none)).0)

-- a seat that ends a request has no section
end_none : (s : Seats) (k : ℕ) → IsTidy s → end_guard s k ≡ None → (mark s k).section ≡ None
end_none s k tidy passed =
    let h : HasShape (row s k) (mark s k) (is_owner s k) = tidy.shapes k in
    none_of _ (h.fits.section ∙ ap shape_section
    (end_shape h.shape None (at_shape s k h.shape (λ r runs o. own_end r runs o None) h.fits passed)).0)

-- HOW IT WAS OPENED

module _ {M T V P Q R F : Type 0} where
  want_grown : (es xs : List (Entry M T V P Q R F)) (place : ℕ) (w : Want M T V P Q R F) →
      want_at es (Some place) ≡ Some w → want_at (es ++ xs) (Some place) ≡ Some w
  want_grown [] xs place w is = absurd (none-some w is)
  want_grown (e ∷ es) xs zero w is = is
  want_grown (e ∷ es) xs (suc place) w is = want_grown es xs place w is

  opened_on : (es : List (Entry M T V P Q R F)) (e : Entry M T V P Q R F) (m : Marks) → IsOpened es m →
      IsOpened (es ++ e ∷ []) m
  opened_on es e m is place h =
      let t = is place h in (t.0, (want_grown es (e ∷ []) place t.0 t.1.0, t.1.1))

  opened_none : (es : List (Entry M T V P Q R F)) (m : Marks) → m.section ≡ None → IsOpened es m
  opened_none es m none place h = absurd (none-some place (sym none ∙ h))

  opened_now : (es : List (Entry M T V P Q R F)) (e : Entry M T V P Q R F) (m : Marks) (w : Want M T V P Q R F) →
      m.section ≡ Some (length es) → want_of e.kept ≡ Some w → purpose_of w ≡ purpose_of_section m →
      IsOpened (es ++ e ∷ []) m
  opened_now es e m w here is purpose place h = (
    w,
    (
      subst (λ p. entry_want (slice_get (es ++ e ∷ []) p) ≡ Some w) (same_Some _ _ (sym here ∙ h))
          (ap entry_want (get_new es e) ∙ is),
      purpose,
    ),
  )

  set_opened : (es : List (Entry M T V P Q R F)) (s : Seats) (k : ℕ) (m : Marks) → IsTidy s → k < length s.lock.rows →
      IsOpened es m → ((j : ℕ) → IsOpened es (mark s j)) → (j : ℕ) → IsOpened es (mark_at (set s.marks k m) j)
  set_opened es s k m tidy below here others j =
      elim (cases_eq j k) [
        | inl same ↦ subst (IsOpened es) (sym (ap (λ i. mark_at (set s.marks k m) i) same
            ∙ get_or-set_same s.marks k m no_marks (subst (λ n. k < n) (sym tidy.even) below))) here
        | inr other ↦ subst (IsOpened es) (sym (get_or-set_other s.marks k j m no_marks other)) (others j)
      ]

module _ {M T V P Q R F : Type 0} (f : Facts T V P Q R F) where
  -- an entry whose guards pass keeps each open section one that an entry with its want opened
  pub all_opened : (s : State M T V P Q R F) (k : ℕ) (kept : Kept M T V P Q R F) → IsTidy s.seats →
      k < length s.seats.lock.rows → guard_of f s k kept ≡ None → AreOpened s → AreOpened (effect f s k kept)
  all_opened s k (Seek want) tidy below passed is =
      set_opened _ s.seats k (with_section s.seats k (Some (length s.history))) tidy below
      (opened_now s.history (record { seat = k; kept = Seek want }) (with_section s.seats k (Some (length s.history)))
      want refl refl (purpose_here s.seats k (purpose_of want)
      (seek-at s.seats k (purpose_of want) (in_table f s want) tidy passed).0))
      (λ j. opened_on s.history _ (mark s.seats j) (is j))
  all_opened s k (Take want) tidy below passed is =
      let at = take-at s.seats k (purpose_of want) (in_table f s want) (is_wanted f s k want) tidy passed in
      let purpose : purpose_of want ≡ purpose_of_section (mark s.seats k) = elim at.0 [
        | inl calm ↦ purpose_here s.seats k (purpose_of want) calm
        | inr seeks ↦ purpose_sought s.seats k (purpose_of want) seeks
      ] in
      cond_both (is_calm (row s.seats k).phase) _ _
      (λ (x : Seats). (j : ℕ) → IsOpened (s.history ++ (record { seat = k; kept = Take want }) ∷ []) (mark x j))
      (λ _. set_opened _ s.seats k (with_section s.seats k (Some (length s.history))) tidy below
      (opened_now s.history (record { seat = k; kept = Take want }) (with_section s.seats k (Some (length s.history)))
      want refl refl purpose)
      (λ j. opened_on s.history _ (mark s.seats j) (is j)))
      (λ _ j. opened_on s.history _ (mark s.seats j) (is j))
  all_opened s k Release tidy below passed is =
      set_opened _ s.seats k (with_section s.seats k None) tidy below
      (opened_none _ (with_section s.seats k None) refl) (λ j. opened_on s.history _ (mark s.seats j) (is j))
  all_opened s k (Begin request) tidy below passed is =
      set_opened _ s.seats k (record (mark s.seats k) { running = Some (length s.history) }) tidy below
      (opened_none _ (record (mark s.seats k) { running = Some (length s.history) })
      (begin_none s.seats k tidy (first_none _ _ passed)))
      (λ j. opened_on s.history _ (mark s.seats j) (is j))
  all_opened s k (End reply) tidy below passed is =
      set_opened _ s.seats k (record (mark s.seats k) { running = None }) tidy below
      (opened_none _ (record (mark s.seats k) { running = None }) (end_none s.seats k tidy passed))
      (λ j. opened_on s.history _ (mark s.seats j) (is j))
  all_opened s k (Refuse Memory) tidy below passed is =
      set_opened _ s.seats k (record (mark s.seats k) { running = None }) tidy below
      (opened_none _ (record (mark s.seats k) { running = None }) (end_none s.seats k tidy passed))
      (λ j. opened_on s.history _ (mark s.seats j) (is j))
  all_opened s k _ tidy below passed is = λ j. opened_on s.history _ (mark s.seats j) (is j)

-- NO RELOAD WHILE A REQUEST RUNS

-- what stands at a later place of a history with one entry more stood there before, or is the new one
get_split : {A : Type 0} (es : List A) (e x : A) (place : ℕ) → slice_get (es ++ e ∷ []) place ≡ Some x →
    (slice_get es place ≡ Some x) ⊎ ((place ≡ length es) × (e ≡ x))
get_split [] e x zero is = inr (refl, same_Some e x is)
get_split [] e x (suc place) is = inl is
get_split (y ∷ es) e x zero is = inl is
get_split (y ∷ es) e x (suc place) is =
    elim (get_split es e x place is) [ inl before ↦ inl before | inr new ↦ inr (ap suc new.0, new.1) ]

-- nothing stands beyond the end
get_within : {A : Type 0} (es : List A) (x : A) (place : ℕ) → slice_get es place ≡ Some x → place < length es
get_within [] x place is = absurd (none-some x is)
get_within (y ∷ es) x zero is = omega arith
get_within (y ∷ es) x (suc place) is = let below : place < length es = get_within es x place is in omega (arith, below)

module _ {M T V P Q R F : Type 0} (f : Facts T V P Q R F) where
  steady_on : (s : State M T V P Q R F) (k : ℕ) (kept : Kept M T V P Q R F) → ((request : Q) → kept ≢ Begin request) →
      IsNoReload kept → AreSteady s → AreSteady (effect f s k kept)
  steady_on s k kept other no_reload is j place later entry runs over stands =
      elim (get_split s.history _ entry later stands) [
        | inl before ↦ is j place later entry (runs_on s.seats (next_place s) k kept other j place runs) over before
        | inr new ↦ subst (λ (e : Entry M T V P Q R F). IsNoReload e.kept) new.1 no_reload
      ]

  steady_begun : (s : State M T V P Q R F) (k : ℕ) (request : Q) → IsTidy s.seats → k < length s.seats.lock.rows →
      AreSteady s → AreSteady (effect f s k (Begin request))
  steady_begun s k request tidy below is j place later entry runs over stands =
      elim (get_split s.history _ entry later stands) [
        | inl before ↦ elim (cases_eq j k) [
          | inl same ↦
              let at : length s.history ≡ place = same_Some _ _
              (sym (ap (λ (m : Marks). m.running) (get_or-set_same s.seats.marks k
              (record (mark s.seats k) { running = Some (length s.history) }) no_marks
              (subst (λ n. k < n) (sym tidy.even) below)))
              ∙ (ap (λ i. (mark (effect f s k (Begin request)).seats i).running) (sym same) ∙ runs)) in
              let within : later < length s.history = get_within s.history entry later before in
              absurd (omega (arith, at, within, over))
          | inr other ↦ is j place later entry (ap (λ (m : Marks). m.running)
              (sym (get_or-set_other s.seats.marks k j
              (record (mark s.seats k) { running = Some (length s.history) }) no_marks other)) ∙ runs) over before
        ]
        | inr new ↦ subst (λ (e : Entry M T V P Q R F). IsNoReload e.kept) new.1 tt
      ]

  -- an entry whose guards pass lets no Reload stand after the Begin of a request that runs
  pub all_steady : (s : State M T V P Q R F) (k : ℕ) (kept : Kept M T V P Q R F) → IsTidy s.seats →
      k < length s.seats.lock.rows → guard_of f s k kept ≡ None → AreSteady s → AreSteady (effect f s k kept)
  all_steady s k (Begin request) tidy below p is = steady_begun s k request tidy below is
  all_steady s k (Reload next) tidy below p is =
      λ j place later entry runs over stands.
      absurd (none-some place (sym (no_run s.seats k tidy (first_none _ _ p) j) ∙ runs))
  all_steady s k Share tidy below p is = steady_on s k Share (λ r e. absurd (cc)) tt is
  all_steady s k Unshare tidy below p is = steady_on s k Unshare (λ r e. absurd (cc)) tt is
  all_steady s k Yield tidy below p is = steady_on s k Yield (λ r e. absurd (cc)) tt is
  all_steady s k Retake tidy below p is = steady_on s k Retake (λ r e. absurd (cc)) tt is
  all_steady s k (Seek want) tidy below p is = steady_on s k (Seek want) (λ r e. absurd (cc)) tt is
  all_steady s k (Take want) tidy below p is = steady_on s k (Take want) (λ r e. absurd (cc)) tt is
  all_steady s k Release tidy below p is = steady_on s k Release (λ r e. absurd (cc)) tt is
  all_steady s k Resume tidy below p is = steady_on s k Resume (λ r e. absurd (cc)) tt is
  all_steady s k (Define task) tidy below p is = steady_on s k (Define task) (λ r e. absurd (cc)) tt is
  all_steady s k (End reply) tidy below p is = steady_on s k (End reply) (λ r e. absurd (cc)) tt is
  all_steady s k (Refuse cause) tidy below p is = steady_on s k (Refuse cause) (λ r e. absurd (cc)) tt is
