-- How the course of a head comes together of its turns.
use Rattle.std.proofs.Common.{◌≡◌, ◌⊎◌, ℕ, Bool, if◌then◌else◌, List, [], ◌∷◌, ◌++◌, append_assoc}
use Rattle.std.proofs.Common.{append-nil, length, refl, sym, ap, ◌∙◌, subst}
use Rattle.std.proofs.lemmas.Bool.{eq-eqb}
use Rattle.outside.specs.Tree.{Given}
use Rattle.outside.specs.declared.files.Stamp.{Stamp}
use Rattle.system_events.specs.declared.event.Cause.{Cause}
use Rattle.system_events.specs.declared.event.Cause.TheVariants as cause
use Rattle.system_events.specs.declared.event.Entry.{Entry}
use Rattle.system_events.specs.declared.event.Kept.{Kept}
use Rattle.system_events.specs.declared.event.Kept.TheVariants.{Share, Unshare, Begin, End, Refuse}
use Rattle.system_events.specs.Facts.{Facts}
use Rattle.system_events.specs.State.{State}
use Rattle.system_events.specs.Legal.{after, IsLegal}
use Rattle.request_laws.specs.Conduct.{IsUnload, AreLoads}
use Rattle.shop_base.specs.Passes.{seat_limit, entry, Made, Gains}
use Rattle.shop_base.proofs.Gaining.{gains_lags, gains_made, gains-trans}
use Rattle.shop_base.proofs.Later.{after-append}
use Rattle.pass_history.proofs.Freshness.{fresh_later}
use Rattle.head_promises.specs.Courses.{Wanted, Asks, Replied, Refused, Abandoned, Fits, IsRun}
use Rattle.head_promises.specs.Courses.{replied, refused, abandoned}
use Rattle.head_promises.specs.Courses.{Checked, IsFreshBy, HeadCourse, reloads}

module _ {M T V P Q R F : Type 0} where
  -- an entry of the seat is its act
  pub one_gained : (k : ℕ) (kept : Kept M T V P Q R F) (before : List (Entry M T V P Q R F)) →
      Gains k (kept ∷ []) before (before ++ entry k kept ∷ [])
  one_gained k kept before = record {
    more = entry k kept ∷ [];
    is = refl;
    acts = ap (λ b. if b then (kept ∷ []) else []) (eq-eqb k k refl);
  }

  -- turns, and then entries of other seats
  pub gains_later : (k : ℕ) (acts : List (Kept M T V P Q R F)) (a b : List (Entry M T V P Q R F))
      (kept : Kept M T V P Q R F) (c : List (Entry M T V P Q R F)) → Gains k acts a b → (made : Made k kept b c) →
      Gains k acts a (b ++ made.between)
  gains_later k acts a b kept c gains made =
      subst (λ l. Gains k l a (b ++ made.between)) (append-nil acts)
      (gains-trans k acts [] a b (b ++ made.between) gains (gains_lags k b (b ++ made.between)
      (record { more = made.between; is = refl; none = made.none })))

module _ {M T V P Q R F : Type 0} (f : Facts T V P Q R F) (has_stamps : P → List (List ℕ × Stamp) → Bool) where
  -- behind a check a request begins on a fresh generation, whatever other seats enter between
  pub begins_fresh : (k : ℕ) (given : List Given) (count : ℕ) (now begun : List (Entry M T V P Q R F))
      (kept : Kept M T V P Q R F) → Checked f has_stamps k given count now → (made : Made k kept now begun) →
      IsFreshBy f has_stamps k given count (now ++ made.between)
  begins_fresh k given count now begun kept checked made = (
    checked.stamps,
    (
      checked.last,
      fresh_later f has_stamps k checked.stamps count checked.at (now ++ made.between) checked.acts checked.legal
          checked.since checked.compared (gains_later k checked.acts checked.at now kept begun checked.later made)
          checked.none,
    ),
  )

  -- a Begin leaves the program
  pub begin_program : (h : List (Entry M T V P Q R F)) (k : ℕ) (q : Q) → IsLegal f seat_limit h →
      (after f seat_limit (h ++ entry k (Begin q) ∷ [])).counts.program ≡ (after f seat_limit h).counts.program
  begin_program h k q legal =
      ap (λ (s : State M T V P Q R F). s.counts.program) (after-append f seat_limit h (entry k (Begin q) ∷ []) legal)

  -- the acts of a run and the Unshare behind it, as they were gained
  pub run_gained : (k : ℕ) (first last : Kept M T V P Q R F) (sections : List (Kept M T V P Q R F))
      (checked begun loaded ended now : List (Entry M T V P Q R F)) (made : Made k first checked begun) →
      Gains k sections begun loaded → Made k last loaded ended → Made k Unshare ended now →
      Gains k ((first ∷ (sections ++ last ∷ [])) ++ Unshare ∷ []) (checked ++ made.between) now
      × ((rest : List (Entry M T V P Q R F)) × (now ≡ (checked ++ made.between) ++ entry k first ∷ rest))
  run_gained k first last sections checked begun loaded ended now made loads ends unshares =
      let tail : Gains k (sections ++ last ∷ Unshare ∷ []) begun now =
      gains-trans k sections (last ∷ Unshare ∷ []) begun loaded now loads
      (gains-trans k (last ∷ []) (Unshare ∷ []) loaded ended now (gains_made k last loaded ended ends)
      (gains_made k Unshare ended now unshares)) in
      let front : Gains k (first ∷ []) (checked ++ made.between) begun =
      subst (Gains k (first ∷ []) (checked ++ made.between)) (sym made.is)
      (one_gained k first (checked ++ made.between)) in
      let all : Gains k (first ∷ (sections ++ last ∷ Unshare ∷ [])) (checked ++ made.between) now =
      gains-trans k (first ∷ []) (sections ++ last ∷ Unshare ∷ []) (checked ++ made.between) begun now front tail in (
        subst (λ l. Gains k (first ∷ l) (checked ++ made.between) now)
            (sym (append_assoc sections (last ∷ []) (Unshare ∷ []))) all,
        (
          tail.more,
          tail.is ∙ (ap (λ l. l ++ tail.more) made.is
              ∙ append_assoc (checked ++ made.between) (entry k first ∷ []) tail.more),
        ),
      )

  -- THE COURSE OF A HEAD

  -- a request that ended with its reply
  pub replied_course : (k : ℕ) (q : Q) (reply : R) (given : List Given) (check sections : List (Kept M T V P Q R F))
      (before shared checked begun loaded ended now : List (Entry M T V P Q R F)) →
      Made k Share before shared → Gains k check shared checked →
      (check ≡ []) ⊎ IsUnload check → Checked f has_stamps k given (length shared) checked →
      (made : Made k (Begin q) checked begun) → IsLegal f seat_limit (checked ++ made.between) →
      reply ≡ f.reply (after f seat_limit begun).counts.program q →
      AreLoads (f.request_asked (after f seat_limit begun).counts.program q) sections →
      Gains k sections begun loaded → Made k (End reply) loaded ended → Made k Unshare ended now →
      HeadCourse f has_stamps k (Asks q) (Replied q reply) given (reloads check)
      (Share ∷ (check ++ ((Begin q ∷ (sections ++ End reply ∷ [])) ++ Unshare ∷ []))) before now
  replied_course k q reply given check sections before shared checked begun loaded ended now shares checks is_check
      fresh made legal_begun right are loads ends unshares =
      let run = run_gained k (Begin q) (End reply) sections checked begun loaded ended now made loads ends unshares in
      let program : (after f seat_limit begun).counts.program
      ≡ (after f seat_limit (checked ++ made.between)).counts.program =
      ap (λ h. (after f seat_limit h).counts.program) made.is
      ∙ begin_program (checked ++ made.between) k q legal_begun in
      record {
        shared = shared;
        begun = checked ++ made.between;
        check = check;
        run = Begin q ∷ (sections ++ End reply ∷ []);
        shares = shares;
        checks = gains_later k check shared checked (Begin q) begun checks made;
        is_check = is_check;
        tells_reload = refl;
        runs = run.0;
        is_run = subst (λ (p : P). IsRun f p (Replied q reply) (Begin q ∷ (sections ++ End reply ∷ []))) program
            (replied q reply sections right are);
        starts = run.1;
        fresh = begins_fresh k given (length shared) checked begun (Begin q) fresh made;
        fits = refl;
        acts_are = refl;
      }

  -- a request that was abandoned for want of memory
  pub abandoned_course : (k : ℕ) (q : Q) (given : List Given) (check sections : List (Kept M T V P Q R F))
      (before shared checked begun loaded ended now : List (Entry M T V P Q R F)) →
      Made k Share before shared → Gains k check shared checked →
      (check ≡ []) ⊎ IsUnload check → Checked f has_stamps k given (length shared) checked →
      (made : Made k (Begin q) checked begun) → IsLegal f seat_limit (checked ++ made.between) →
      AreLoads (f.request_asked (after f seat_limit begun).counts.program q) sections →
      Gains k sections begun loaded → Made k (Refuse cause.Memory) loaded ended → Made k Unshare ended now →
      HeadCourse f has_stamps k (Asks q) (Abandoned q) given (reloads check)
      (Share ∷ (check ++ ((Begin q ∷ (sections ++ Refuse cause.Memory ∷ [])) ++ Unshare ∷ []))) before now
  abandoned_course k q given check sections before shared checked begun loaded ended now shares checks is_check fresh
      made legal_begun are loads ends unshares =
      let run = run_gained k (Begin q) (Refuse cause.Memory) sections checked begun loaded ended now made loads ends
      unshares in
      let program : (after f seat_limit begun).counts.program
      ≡ (after f seat_limit (checked ++ made.between)).counts.program =
      ap (λ h. (after f seat_limit h).counts.program) made.is
      ∙ begin_program (checked ++ made.between) k q legal_begun in
      record {
        shared = shared;
        begun = checked ++ made.between;
        check = check;
        run = Begin q ∷ (sections ++ Refuse cause.Memory ∷ []);
        shares = shares;
        checks = gains_later k check shared checked (Begin q) begun checks made;
        is_check = is_check;
        tells_reload = refl;
        runs = run.0;
        is_run = subst (λ (p : P). IsRun f p (Abandoned q) (Begin q ∷ (sections ++ Refuse cause.Memory ∷ []))) program
            (abandoned q sections are);
        starts = run.1;
        fresh = begins_fresh k given (length shared) checked begun (Begin q) fresh made;
        fits = refl;
        acts_are = refl;
      }

  -- a head that was refused
  pub refused_course : (k : ℕ) (wanted : Wanted Q (Cause M T V P Q R F)) (why : Cause M T V P Q R F)
      (given : List Given) (check : List (Kept M T V P Q R F))
      (before shared checked ended now : List (Entry M T V P Q R F)) → Made k Share before shared →
      Gains k check shared checked → (check ≡ []) ⊎ IsUnload check →
      Fits wanted (Refused why) check given →
      Made k (Refuse why) checked ended → Made k Unshare ended now →
      HeadCourse f has_stamps k wanted (Refused why) given (reloads check)
      (Share ∷ (check ++ (Refuse why ∷ Unshare ∷ []))) before now
  refused_course k wanted why given check before shared checked ended now shares checks is_check fits made unshares =
      let tail = gains_made k Unshare ended now unshares in
      let front : Gains k (Refuse why ∷ []) (checked ++ made.between) ended =
      subst (Gains k (Refuse why ∷ []) (checked ++ made.between)) (sym made.is)
      (one_gained k (Refuse why) (checked ++ made.between)) in
      record {
        shared = shared;
        begun = checked ++ made.between;
        check = check;
        run = Refuse why ∷ [];
        shares = shares;
        checks = gains_later k check shared checked (Refuse why) ended checks made;
        is_check = is_check;
        tells_reload = refl;
        runs = gains-trans k (Refuse why ∷ []) (Unshare ∷ []) (checked ++ made.between) ended now front tail;
        is_run = refused why;
        starts = (
          tail.more,
          tail.is ∙ (ap (λ l. l ++ tail.more) made.is
              ∙ append_assoc (checked ++ made.between) (entry k (Refuse why) ∷ []) tail.more),
        );
        fresh = tt;
        fits = fits;
        acts_are = refl;
      }
