-- What a head comes to.
use Rattle.std.proofs.Common.{◌≡◌, ◌≢◌, ℕ, Bool, List, [], ◌∷◌, ◌++◌, append-nil, append_assoc, length, Some}
use Rattle.std.proofs.Common.{refl, sym, ap, ◌∙◌, subst}
use Rattle.outside.specs.Tree.{Given}
use Rattle.outside.specs.declared.files.Stamp.{Stamp}
use Rattle.system_events.specs.declared.event.Cause.{Cause}
use Rattle.system_events.specs.declared.event.Cause.TheVariants as cause
use Rattle.system_events.specs.declared.event.Entry.{Entry}
use Rattle.system_events.specs.declared.event.Kept.{Kept}
use Rattle.system_events.specs.declared.event.Kept.TheVariants.{Share, Unshare, Begin, End, Refuse}
use Rattle.system_events.specs.Facts.{Facts, SameIsEqual}
use Rattle.system_events.specs.Legal.{after, IsLegal}
use Rattle.shop_base.specs.Passes.{seat_limit, entry, Made, Gains}
use Rattle.shop_base.specs.Rows.{seat_row}
use Rattle.shop_base.specs.Mine.{Ended, Refused as Refused-Item, refused_item, item_of, mine}
use Rattle.shop_base.proofs.Gaining.{gains_made, gains-trans}
use Rattle.shop_base.proofs.Later.{lags_steady}
use Rattle.pass_history.specs.Courses.{generation_in, request_in}
use Rattle.pass_history.proofs.Courses.{quiet_course, made_course, generation_is}
use Rattle.head_promises.specs.Courses.{Wanted, Asks, Outcome, Replied, Refused, Abandoned, Unbegun, Fits, HeadCourse}
use Rattle.head_promises.specs.Courses.{IsRun, replied, refused, abandoned, unbegun}
use Rattle.head_promises.proofs.Courses.{begins_fresh, begin_program, gains_later, one_gained, run_gained}
use Rattle.head_courses.specs.Standing.{HasShared, HasRefusal, HasBegun, HasDone}
use Rattle.head_courses.proofs.Quiet.{check_quiet, loads_quiet}
use Rattle.head_courses.proofs.Keeping.{generation_made, legal_made, lags_made}

module _ {M T V P Q R F : Type 0} where
  -- a refusal for another cause than want of memory is an item
  refused_is : (why : Cause M T V P Q R F) (generation : ℕ) → why ≢ cause.Memory →
      refused_item {M = M} {T = T} {V = V} {P = P} {Q = Q} {R = R} {F = F} why generation
      ≡ Refused-Item why generation ∷ []
  refused_is cause.Memory generation other = absurd (other refl)
  refused_is _ generation other = refl

module _ {M T V P Q R F : Type 0} (f : Facts T V P Q R F) (has_stamps : P → List (List ℕ × Stamp) → Bool) where
  -- the acts of a course are what the seat gained
  pub course_gains : (k : ℕ) (wanted : Wanted Q (Cause M T V P Q R F)) (outcome : Outcome Q R (Cause M T V P Q R F))
      (given : List Given) (reloaded : Bool) (acts : List (Kept M T V P Q R F))
      (before now : List (Entry M T V P Q R F)) →
      HeadCourse f has_stamps k wanted outcome given reloaded acts before now → Gains k acts before now
  course_gains k wanted outcome given reloaded acts before now c =
      subst (λ l. Gains k l before now) (sym c.acts_are)
      (gains-trans k (Share ∷ []) (c.check ++ (c.run ++ Unshare ∷ [])) before c.shared now
      (gains_made k Share before c.shared c.shares)
      (gains-trans k c.check (c.run ++ Unshare ∷ []) c.shared c.begun now c.checks c.runs))

  -- up to its check a head adds no item, and runs nothing
  checked_items : (k : ℕ) (reloaded : Bool) (before now : List (Entry M T V P Q R F)) → IsLegal f seat_limit before →
      HasShared k reloaded before now → mine k now ≡ mine k before
  checked_items k reloaded before now legal has =
      let course = quiet_course f seat_limit k (Share ∷ has.check) before now legal
      (tt, check_quiet has.check has.is_check)
      (gains-trans k (Share ∷ []) has.check before has.shared now (gains_made k Share before has.shared has.shares)
      has.checks) in
      (course.0).items_are ∙ append-nil (mine k before)

  -- an Unshare adds none
  unshared_items : (k : ℕ) (before now : List (Entry M T V P Q R F)) → IsLegal f seat_limit before →
      Made k Unshare before now → mine k now ≡ mine k before
  unshared_items k before now legal made =
      let course = quiet_course f seat_limit k (Unshare ∷ []) before now legal (tt, tt)
      (gains_made k Unshare before now made) in
      (course.0).items_are ∙ append-nil (mine k before)

  -- A HEAD WITHOUT A REQUEST

  -- a head whose request wasn't begun, and which wasn't refused
  pub unbegun_done : (k : ℕ) (wanted : Wanted Q (Cause M T V P Q R F)) (given : List Given) (reloaded : Bool)
      (before checked now : List (Entry M T V P Q R F)) → IsLegal f seat_limit before → IsLegal f seat_limit checked →
      (has : HasShared k reloaded before checked) → Fits {R = R} wanted Unbegun has.check given →
      Made k Unshare checked now → HasDone f has_stamps k wanted Unbegun given reloaded before now
  unbegun_done k wanted given reloaded before checked now legal later has fits unshares =
      let course : HeadCourse f has_stamps k wanted Unbegun given reloaded
      (Share ∷ (has.check ++ ([] ++ Unshare ∷ []))) before now = record {
        shared = has.shared;
        begun = checked;
        check = has.check;
        run = [];
        shares = has.shares;
        checks = has.checks;
        is_check = has.is_check;
        tells_reload = has.tells;
        runs = gains_made k Unshare checked now unshares;
        is_run = unbegun;
        starts = tt;
        fresh = tt;
        fits = fits;
        acts_are = refl;
      } in
      record {
        acts = Share ∷ (has.check ++ ([] ++ Unshare ∷ []));
        course = course;
        gains = course_gains k wanted Unbegun given reloaded _ before now course;
        items = unshared_items k checked now later unshares
            ∙ (checked_items k reloaded before checked legal has ∙ sym (append-nil (mine k before)));
      }

  -- a head that was refused
  pub refused_done : (k : ℕ) (wanted : Wanted Q (Cause M T V P Q R F)) (why : Cause M T V P Q R F)
      (given : List Given) (reloaded : Bool) (before checked ended now : List (Entry M T V P Q R F)) →
      IsLegal f seat_limit before → IsLegal f seat_limit checked → IsLegal f seat_limit ended →
      why ≢ cause.Memory → HasRefusal k wanted why given reloaded before checked →
      Made k (Refuse why) checked ended → Made k Unshare ended now →
      HasDone f has_stamps k wanted (Refused why) given reloaded before now
  refused_done k wanted why given reloaded before checked ended now legal later last other is refuses unshares =
      let has = is.has in
      let front : Gains k (Refuse why ∷ []) (checked ++ refuses.between) ended =
      subst (Gains k (Refuse why ∷ []) (checked ++ refuses.between)) (sym refuses.is)
      (one_gained k (Refuse why) (checked ++ refuses.between)) in
      let tail = gains_made k Unshare ended now unshares in
      let course : HeadCourse f has_stamps k wanted (Refused why) given reloaded
      (Share ∷ (has.check ++ (Refuse why ∷ Unshare ∷ []))) before now = record {
        shared = has.shared;
        begun = checked ++ refuses.between;
        check = has.check;
        run = Refuse why ∷ [];
        shares = has.shares;
        checks = gains_later k has.check has.shared checked (Refuse why) ended has.checks refuses;
        is_check = has.is_check;
        tells_reload = has.tells;
        runs = gains-trans k (Refuse why ∷ []) (Unshare ∷ []) (checked ++ refuses.between) ended now front tail;
        is_run = refused why;
        starts = (
          tail.more,
          tail.is ∙ (ap (λ l. l ++ tail.more) refuses.is
              ∙ append_assoc (checked ++ refuses.between) (entry k (Refuse why) ∷ []) tail.more),
        );
        fresh = tt;
        fits = is.fits;
        acts_are = refl;
      } in
      let enters = made_course f seat_limit k (Refuse why) checked ended later refuses in
      record {
        acts = Share ∷ (has.check ++ (Refuse why ∷ Unshare ∷ []));
        course = course;
        gains = course_gains k wanted (Refused why) given reloaded _ before now course;
        items = unshared_items k ended now last unshares
            ∙ ((enters.1.1.0).items_are
            ∙ ((λ i. checked_items k reloaded before checked legal has i ++ refused_is why enters.0 other i)
            ∙ ap (λ g. mine k before ++ Refused-Item why g ∷ [])
            (enters.1.0 ∙ (sym (generation_is f seat_limit ended)
            ∙ (generation_made f k (Refuse why) checked ended tt refuses
            (legal_made f k (Refuse why) checked ended later last refuses)
            ∙ generation_is f seat_limit (checked ++ refuses.between))))));
      }

  -- A HEAD WITH A REQUEST

  -- what others entered before its Begin is legal
  begin_legal : (k : ℕ) (q : Q) (given : List Given) (reloaded : Bool) (before now : List (Entry M T V P Q R F)) →
      (has : HasBegun f has_stamps k q given reloaded before now) →
      IsLegal f seat_limit (has.checked ++ (has.made).between)
  begin_legal k q given reloaded before now has =
      legal_made f k (Begin q) has.checked has.begun has.checked_legal has.begun_legal has.made

  -- a Begin leaves the program
  begun_program : (k : ℕ) (q : Q) (given : List Given) (reloaded : Bool) (before now : List (Entry M T V P Q R F)) →
      (has : HasBegun f has_stamps k q given reloaded before now) →
      (after f seat_limit has.begun).counts.program
      ≡ (after f seat_limit (has.checked ++ (has.made).between)).counts.program
  begun_program k q given reloaded before now has =
      ap (λ h. (after f seat_limit h).counts.program) (has.made).is
      ∙ begin_program f has_stamps (has.checked ++ (has.made).between) k q
      (begin_legal k q given reloaded before now has)

  -- up to its End a request adds no item, and it runs
  begun_items : (k : ℕ) (q : Q) (given : List Given) (reloaded : Bool) (before now : List (Entry M T V P Q R F)) →
      IsLegal f seat_limit before → (has : HasBegun f has_stamps k q given reloaded before now) →
      (mine k now ≡ mine k before) × (request_in k now ≡ Some q)
  begun_items k q given reloaded before now legal has =
      let begins = made_course f seat_limit k (Begin q) has.checked has.begun has.checked_legal has.made in
      let loads = quiet_course f seat_limit k has.sections has.begun now has.begun_legal
      (loads_quiet (f.request_asked (after f seat_limit has.begun).counts.program q) has.are) has.loads in (
        ((loads.0).items_are ∙ append-nil (mine k has.begun))
            ∙ (((begins.1.1.0).items_are ∙ append-nil (mine k has.checked))
            ∙ checked_items k reloaded before has.checked legal (has.has).has),
        loads.1 ∙ begins.1.1.1,
      )

  module _ (equal : SameIsEqual f) where
    -- the generation of a request's Begin is in force at its end
    ended_generation : (k : ℕ) (q : Q) (given : List Given) (reloaded : Bool) (kept : Kept M T V P Q R F) (place : ℕ)
        (before loaded ended : List (Entry M T V P Q R F)) → IsLegal f seat_limit loaded → IsLegal f seat_limit ended →
        (has : HasBegun f has_stamps k q given reloaded before loaded) → (made : Made k kept loaded ended) →
        (seat_row (after f seat_limit loaded).seats k).running ≡ Some place →
        (after f seat_limit (loaded ++ made.between)).counts.generation
        ≡ generation_in (has.checked ++ (has.made).between)
    ended_generation k q given reloaded kept place before loaded ended legal later has made runs =
        let h = legal_made f k kept loaded ended legal later made in
        (lags_steady f equal seat_limit k loaded (loaded ++ made.between) place legal h (lags_made f k kept loaded ended
        made) runs).generation
        ∙ (has.generation
        ∙ (generation_made f k (Begin q) has.checked has.begun tt has.made
        (begin_legal k q given reloaded before loaded has)
        ∙ generation_is f seat_limit (has.checked ++ (has.made).between)))

    -- a request that ended with its reply
    pub replied_done : (k : ℕ) (q : Q) (reply : R) (given : List Given) (reloaded : Bool) (place : ℕ)
        (before loaded ended now : List (Entry M T V P Q R F)) → IsLegal f seat_limit before →
        IsLegal f seat_limit loaded → IsLegal f seat_limit ended →
        (has : HasBegun f has_stamps k q given reloaded before loaded) →
        (seat_row (after f seat_limit loaded).seats k).running ≡ Some place →
        reply ≡ f.reply (after f seat_limit has.begun).counts.program q → Made k (End reply) loaded ended →
        Made k Unshare ended now → HasDone f has_stamps k (Asks q) (Replied q reply) given reloaded before now
    replied_done k q reply given reloaded place before loaded ended now legal later last has runs right
        ends unshares =
        let shared = (has.has).has in
        let acts : List (Kept M T V P Q R F) =
        Share ∷ (shared.check ++ ((Begin q ∷ (has.sections ++ End reply ∷ [])) ++ Unshare ∷ [])) in
        let run : List (Kept M T V P Q R F) = Begin q ∷ (has.sections ++ End reply ∷ []) in
        let gained = run_gained f has_stamps k (Begin q) (End reply) has.sections has.checked has.begun loaded ended now
        has.made has.loads ends unshares in
        let program = begun_program k q given reloaded before loaded has in
        let made : HeadCourse f has_stamps k (Asks q) (Replied q reply) given reloaded acts before now = record {
          shared = shared.shared;
          begun = has.checked ++ (has.made).between;
          check = shared.check;
          run = run;
          shares = shared.shares;
          checks = gains_later k shared.check shared.shared has.checked (Begin q) has.begun shared.checks has.made;
          is_check = shared.is_check;
          tells_reload = shared.tells;
          runs = gained.0;
          is_run = subst (λ (p : P). IsRun f p (Replied q reply) run) program
              (replied q reply has.sections right has.are);
          starts = gained.1;
          fresh = begins_fresh f has_stamps k given (length shared.shared) has.checked has.begun (Begin q)
              (has.has).fresh has.made;
          fits = refl;
          acts_are = refl;
        } in
        let so_far = begun_items k q given reloaded before loaded legal has in
        let enters = made_course f seat_limit k (End reply) loaded ended later ends in
        let generation = enters.1.0 ∙ (sym (generation_is f seat_limit ended)
        ∙ (generation_made f k (End reply) loaded ended tt ends
        (legal_made f k (End reply) loaded ended later last ends)
        ∙ ended_generation k q given reloaded (End reply) place before loaded ended later last has ends runs)) in
        record {
          acts = acts;
          course = made;
          gains = course_gains k (Asks q) (Replied q reply) given reloaded acts before now made;
          items = unshared_items k ended now last unshares
              ∙ ((enters.1.1.0).items_are
              ∙ ((λ i. so_far.0 i ++ item_of (so_far.1 i) enters.0 (End reply))
              ∙ ap (λ g. mine k before ++ Ended q reply g ∷ []) generation));
        }

    -- a request that was abandoned for want of memory
    pub abandoned_done : (k : ℕ) (q : Q) (given : List Given) (reloaded : Bool)
        (before loaded ended now : List (Entry M T V P Q R F)) → IsLegal f seat_limit before →
        IsLegal f seat_limit loaded → IsLegal f seat_limit ended →
        HasBegun f has_stamps k q given reloaded before loaded → Made k (Refuse cause.Memory) loaded ended →
        Made k Unshare ended now → HasDone f has_stamps k (Asks q) (Abandoned q) given reloaded before now
    abandoned_done k q given reloaded before loaded ended now legal later last has ends unshares =
        let shared = (has.has).has in
        let acts : List (Kept M T V P Q R F) =
        Share ∷ (shared.check ++ ((Begin q ∷ (has.sections ++ Refuse cause.Memory ∷ [])) ++ Unshare ∷ [])) in
        let run : List (Kept M T V P Q R F) = Begin q ∷ (has.sections ++ Refuse cause.Memory ∷ []) in
        let gained = run_gained f has_stamps k (Begin q) (Refuse cause.Memory) has.sections has.checked has.begun loaded
        ended now has.made has.loads ends unshares in
        let program = begun_program k q given reloaded before loaded has in
        let made : HeadCourse f has_stamps k (Asks q) (Abandoned q) given reloaded acts before now = record {
          shared = shared.shared;
          begun = has.checked ++ (has.made).between;
          check = shared.check;
          run = run;
          shares = shared.shares;
          checks = gains_later k shared.check shared.shared has.checked (Begin q) has.begun shared.checks has.made;
          is_check = shared.is_check;
          tells_reload = shared.tells;
          runs = gained.0;
          is_run = subst (λ (p : P). IsRun f p (Abandoned q) run) program (abandoned q has.sections has.are);
          starts = gained.1;
          fresh = begins_fresh f has_stamps k given (length shared.shared) has.checked has.begun (Begin q)
              (has.has).fresh has.made;
          fits = refl;
          acts_are = refl;
        } in
        let so_far = begun_items k q given reloaded before loaded legal has in
        let enters = made_course f seat_limit k (Refuse cause.Memory) loaded ended later ends in
        record {
          acts = acts;
          course = made;
          gains = course_gains k (Asks q) (Abandoned q) given reloaded acts before now made;
          items = unshared_items k ended now last unshares
              ∙ ((enters.1.1.0).items_are ∙ ap (λ l. l ++ []) so_far.0);
        }
