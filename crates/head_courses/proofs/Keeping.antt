-- What stays between the turns of a pass.
use Rattle.std.proofs.Common.{◌≡◌, ◌≢◌, ℕ, true, not, List, [], ◌∷◌, ◌++◌, None}
use Rattle.std.proofs.Common.{refl, sym, ap, ◌∙◌, subst}
use Rattle.std.proofs.lemmas.Bool.{and_parts, not-false}
use Rattle.turn_lock.specs.Entries.{NoneOf, Lags, Begins}
use Rattle.system_seats.specs.declared.table.SystemRow.{SystemRow}
use Rattle.system_seats.specs.Seats.{is_owner, runs_at}
use Rattle.system_seats.proofs.From.{guard_false}
use Rattle.system_events.specs.declared.event.Cause.{Cause}
use Rattle.system_events.specs.declared.event.Cause.TheVariants.{Memory}
use Rattle.system_events.specs.declared.event.Counts.{Counts}
use Rattle.system_events.specs.declared.event.Entry.{Entry}
use Rattle.system_events.specs.declared.event.Kept.{Kept}
use Rattle.system_events.specs.declared.event.Kept.TheVariants.{Reload, Refuse}
use Rattle.system_events.specs.Facts.{Facts, SameIsEqual}
use Rattle.system_events.specs.State.{State, next_place}
use Rattle.system_events.specs.Guards.{guard_of}
use Rattle.system_events.specs.Steps.{effect, counts_after}
use Rattle.system_events.specs.Legal.{opening, start, after_from, AreSteps, after, IsLegal}
use Rattle.system_laws.specs.Lawful.{IsNoReload, NoReload, IsExclusive}
use Rattle.system_laws.proofs.Tidy.{first_none}
use Rattle.system_laws.proofs.Exclusion.{tidy-exclusive}
use Rattle.system_laws.proofs.Keeps.{Keeps, keeps_step, keeps_after}
use Rattle.shop_base.specs.Rows.{seat_row, sharing_seat}
use Rattle.shop_base.specs.Passes.{entry, seat_limit, seat_of, Made}
use Rattle.shop_base.proofs.Later.{after-append, program_stays, seat_row_stays}

module _ {M T V P Q R F : Type 0} (f : Facts T V P Q R F) where
  steps_front : (s : State M T V P Q R F) (xs ys : List (Entry M T V P Q R F)) → AreSteps f s (xs ++ ys) →
      AreSteps f s xs
  steps_front s [] ys steps = tt
  steps_front s (x ∷ xs) ys steps = (steps.0, steps_front (effect f s x.seat x.kept) xs ys steps.1)

  steps_after : (s : State M T V P Q R F) (xs ys : List (Entry M T V P Q R F)) → AreSteps f s (xs ++ ys) →
      AreSteps f (after_from f s xs) ys
  steps_after s [] ys steps = steps
  steps_after s (x ∷ xs) ys steps = steps_after (effect f s x.seat x.kept) xs ys steps.1

  -- what stands between two legal histories is legal
  pub legal_between : (n : ℕ) (a b c : List (Entry M T V P Q R F)) → IsLegal f n a → Begins a b →
      IsLegal f n (b ++ c) → IsLegal f n b
  legal_between n a b c legal begins later =
      let opened : b ≡ opening f ∷ (legal.entries ++ begins.0) =
      begins.1 ∙ ap (λ l. l ++ begins.0) legal.opens in
      let whole : opening f ∷ ((legal.entries ++ begins.0) ++ c) ≡ opening f ∷ later.entries =
      sym (ap (λ l. l ++ c) opened) ∙ later.opens in
      let rest : (legal.entries ++ begins.0) ++ c ≡ later.entries = cc in
      record {
        entries = legal.entries ++ begins.0;
        opens = opened;
        steps = steps_front (start f n) (legal.entries ++ begins.0) c
            (subst (AreSteps f (start f n)) (sym rest) later.steps);
      }

  -- later entries are steps
  pub legal_steps : (n : ℕ) (h more : List (Entry M T V P Q R F)) → IsLegal f n h → IsLegal f n (h ++ more) →
      AreSteps f (after f n h) more
  legal_steps n [] more legal later = absurd (let opens = legal.opens in cc)
  legal_steps n (x ∷ xs) more legal later =
      let rest : xs ++ more ≡ later.entries = let opens = later.opens in cc in
      steps_after (start f n) xs more (subst (AreSteps f (start f n)) (sym rest) later.steps)

  -- WHILE A SEAT SHARES

  -- an entry of another seat than one that shares is no Reload
  shares_quiet : (s : State M T V P Q R F) (j k : ℕ) (kept : Kept M T V P Q R F) → IsExclusive s.seats → k ≢ j →
      guard_of f s j kept ≡ None → seat_row s.seats k ≡ sharing_seat → IsNoReload kept
  shares_quiet s j k (Reload program) exclusive other passes shares =
      let both : (is_owner s.seats j ≡ true) × (not (runs_at s.seats j) ≡ true) =
      and_parts (is_owner s.seats j) (not (runs_at s.seats j))
      (not-false _ (guard_false _ _ _ (first_none _ _ passes)).0) in
      let none = exclusive.alone j k both.0 other in
      let one = ap (λ (r : SystemRow). r.lock.shares) shares in
      absurd (let no = sym none ∙ one in cc)
  shares_quiet s j k _ exclusive other passes shares = tt

  shares_from : SameIsEqual f → (s : State M T V P Q R F) (es : List (Entry M T V P Q R F)) (k : ℕ) → Keeps f s →
      AreSteps f s es → NoneOf seat_of k es → seat_row s.seats k ≡ sharing_seat → NoReload f es
  shares_from equal s [] k keeps steps none shares = tt
  shares_from equal s (e ∷ es) k keeps steps none shares = (
    shares_quiet s e.seat k e.kept (tidy-exclusive s.seats keeps.tidy) (λ is. none.0 (sym is)) (steps.0).passes shares,
    shares_from equal (effect f s e.seat e.kept) es k (keeps_step f equal s e _ steps.0 keeps) steps.1 none.1
        (seat_row_stays s.seats (next_place s) e.seat e.kept k (λ is. none.0 (sym is)) ∙ shares),
  )

  -- while a seat shares, others put no generation into force
  pub generation_shared : SameIsEqual f → (k : ℕ) (seen log : List (Entry M T V P Q R F)) → IsLegal f seat_limit seen →
      IsLegal f seat_limit log → Lags seat_of k seen log →
      seat_row (after f seat_limit seen).seats k ≡ sharing_seat →
      (after f seat_limit log).counts.generation ≡ (after f seat_limit seen).counts.generation
  generation_shared equal k seen log legal later lags shares =
      let none : NoReload f lags.more = shares_from equal (after f seat_limit seen) lags.more k
      (keeps_after f equal seat_limit seen legal)
      (legal_steps seat_limit seen lags.more legal (subst (IsLegal f seat_limit) lags.is later)) lags.none shares in
      ap (λ (s : State M T V P Q R F). s.counts.generation)
      (ap (after f seat_limit) lags.is ∙ after-append f seat_limit seen lags.more legal)
      ∙ (program_stays f (after f seat_limit seen) lags.more none).1

  -- ONE TURN

  refuse_generation : (c : Counts M T V P Q R F) (why : Cause M T V P Q R F) →
      (counts_after f c (Refuse why)).generation ≡ c.generation
  refuse_generation c Memory = refl
  refuse_generation c _ = refl

  kept_generation : (c : Counts M T V P Q R F) (kept : Kept M T V P Q R F) → IsNoReload kept →
      (counts_after f c kept).generation ≡ c.generation
  kept_generation c (Reload program) none = absurd none
  kept_generation c (Refuse why) none = refuse_generation c why
  kept_generation c _ none = refl

  -- an act that is no Reload leaves the generation that others left
  pub generation_made : (k : ℕ) (kept : Kept M T V P Q R F) (before now : List (Entry M T V P Q R F)) →
      IsNoReload kept → (made : Made k kept before now) → IsLegal f seat_limit (before ++ made.between) →
      (after f seat_limit now).counts.generation ≡ (after f seat_limit (before ++ made.between)).counts.generation
  generation_made k kept before now none made legal =
      ap (λ (s : State M T V P Q R F). s.counts.generation)
      (ap (after f seat_limit) made.is
      ∙ after-append f seat_limit (before ++ made.between) (entry k kept ∷ []) legal)
      ∙ kept_generation (after f seat_limit (before ++ made.between)).counts kept none

  -- what others entered before an act is legal
  pub legal_made : (k : ℕ) (kept : Kept M T V P Q R F) (before now : List (Entry M T V P Q R F)) →
      IsLegal f seat_limit before → IsLegal f seat_limit now → (made : Made k kept before now) →
      IsLegal f seat_limit (before ++ made.between)
  legal_made k kept before now legal later made =
      legal_between seat_limit before (before ++ made.between) (entry k kept ∷ []) legal (made.between, refl)
      (subst (IsLegal f seat_limit) made.is later)

  -- others that entered before an act
  abbrev pub lags_made : (k : ℕ) (kept : Kept M T V P Q R F) (before now : List (Entry M T V P Q R F)) →
      (made : Made k kept before now) → Lags seat_of k before (before ++ made.between)
  lags_made k kept before now made = record { more = made.between; is = refl; none = made.none }
