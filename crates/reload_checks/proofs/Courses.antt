-- What follows of a check: its own events, and that the stamps which it read last were in force.
use Rattle.std.proofs.Common.{◌≡◌, inl, inr, ℕ, true, List, [], ◌∷◌, ◌++◌, Option, Some, None, refl, sym}
use Rattle.std.proofs.Common.{append_assoc, ◌∙◌, ap}
use Rattle.std.specs.Prelude.{Result, Ok, Err, IfOk}
use Rattle.std.proofs.lemmas.Option.{none-some}
use Rattle.outside.specs.Tree.{Given, stamps_of}
use Rattle.outside.specs.declared.files.FileEntry.{FileEntry}
use Rattle.outside.specs.declared.files.Stamp.{Stamp}
use Rattle.turn_lock.specs.Entries.{Lags, Begins}
use Rattle.turn_lock.proofs.Histories.{lags_refl}
use Rattle.system_events.specs.declared.event.Entry.{Entry}
use Rattle.system_events.specs.declared.event.Kept.{Kept}
use Rattle.system_events.specs.declared.event.Kept.TheVariants.{Reload}
use Rattle.system_events.specs.Facts.{Facts}
use Rattle.reload_matter.specs.Sources.{Sources}
use Rattle.shop_base.specs.Passes.{entry, seat_of, Gains}
use Rattle.shop_base.proofs.Gaining.{gains_lags, gains_made, gains-trans}
use Rattle.reload_checks.specs.declared.answers.Checked.{Checked}
use Rattle.reload_checks.specs.declared.answers.ReloadFault.{ReloadFault}
use Rattle.reload_checks.specs.Checks.{opening_acts, closing_acts, reload_acts, TellsReload, IsCourse, in_force}
use Rattle.reload_checks.specs.Checks.{stamps_read, last_stamps, IsFresh}
use Rattle.reload_checks.specs.Checks.{Tried, is_same, not_entered, is_entered, Look, unread_again, same_again, unbuilt}
use Rattle.reload_checks.specs.Checks.{built, Check, unread, same, unreserved, unloaded}

-- HISTORIES

-- what follows of what was given
if_ok : {A E : Type 0} (r : Result A E) (B C : Type 0) → (B → C) → IfOk r (λ _. B) → IfOk r (λ _. C)
if_ok (Ok a) B C follows is = follows is
if_ok (Err e) B C follows is = tt

-- a beginning of a beginning is one
begins-trans : {E : Type 0} (a b c : List E) → Begins a b → Begins b c → Begins a c
begins-trans a b c first second =
    (first.0 ++ second.0, second.1 ∙ (ap (λ l. l ++ second.0) first.1 ∙ append_assoc a first.0 second.0))

-- what was read last stays so with more read before it
last_after : (item : Given) (reads : List Given) (stamps : List (List ℕ × Stamp)) →
    last_stamps reads ≡ Some stamps → last_stamps (item ∷ reads) ≡ Some stamps
last_after item [] stamps is = absurd (none-some stamps is)
last_after item (x ∷ xs) stamps is = is

module _ {M T V P Q R F : Type 0} (f : Facts T V P Q R F) (s : Sources P F) (k : ℕ) where
  nothing : (es : List (Entry M T V P Q R F)) → Gains k [] es es
  nothing es = gains_lags k es es (lags_refl seat_of k es)

  -- EVENTS

  -- a program that was tried is entered exactly where that is answered
  tried_acts : (program : P) (before now : List (Entry M T V P Q R F)) (answer : Result Checked (ReloadFault F)) →
      Tried f k program before now answer →
      (made : Option P) × (TellsReload answer made × Gains k (reload_acts made) before now)
  tried_acts program before now answer (is_same lags equal) = (None, (tt, gains_lags k before now lags))
  tried_acts program before now answer (not_entered fault lags why) = (None, (tt, gains_lags k before now lags))
  tried_acts program before now answer (is_entered generation made program_is number) =
      (Some program, (tt, gains_made k (Reload program) before now made))

  -- a second look enters a Reload exactly where it answers that, and nothing else
  look_acts : (held : Option (List FileEntry)) (before : List (Entry M T V P Q R F))
      (answer : Result Checked (ReloadFault F)) (reads : List Given) (now : List (Entry M T V P Q R F)) →
      Look f s k held before answer reads now →
      (made : Option P) × (TellsReload answer made × Gains k (reload_acts made) before now)
  look_acts held before answer reads now (unread_again fault r why) = (None, (tt, nothing before))
  look_acts held before answer reads now (same_again stamps n is) = (None, (tt, gains_lags k before n is.lags))
  look_acts held before answer reads now (unbuilt stamps fault r n is why) =
      (None, (tt, gains_lags k before n is.lags))
  look_acts held before answer reads now (built stamps files program compared n a is builds fits tried) =
      let t = tried_acts program compared n a tried in (
        t.0,
        (
          t.1.0,
          gains-trans k [] (reload_acts t.0) before compared n (gains_lags k before compared is.lags) t.1.1,
        ),
      )

  -- the events of a check are none, or those of an unload, with a Reload exactly where it answers that
  pub check_acts : (held : Option (List FileEntry)) (before : List (Entry M T V P Q R F))
      (answer : Result Checked (ReloadFault F)) (reads : List Given) (now : List (Entry M T V P Q R F)) →
      Check f s k held before answer reads now →
      (acts : List (Kept M T V P Q R F)) × (Gains k acts before now × IsCourse answer acts)
  check_acts held before answer reads now (unread fault r why) = ([], (nothing before, inl (refl, tt)))
  check_acts held before answer reads now (same stamps n is) =
      ([], (gains_lags k before n is.lags, inl (refl, tt)))
  check_acts held before answer reads now (unreserved stamps n is) =
      ([], (gains_lags k before n is.lags, inl (refl, tt)))
  check_acts held before answer reads now
      (unloaded stamps compared taken left n sought waited a r is opens look closes) =
      let l = look_acts held taken a r left look in
      let rest : List (Kept M T V P Q R F) = reload_acts l.0 ++ closing_acts waited in (
        opening_acts sought ++ rest,
        (
          gains-trans k [] (opening_acts sought ++ rest) before compared n (gains_lags k before compared is.lags)
              (gains-trans k (opening_acts sought) rest compared taken n opens
              (gains-trans k (reload_acts l.0) (closing_acts waited) taken left n l.1.1 closes)),
          inr (sought, (l.0, (waited, (refl, l.1.0)))),
        ),
      )

  -- FRESHNESS

  -- What is built has the stamps of its files, and another program has the same stamps where it has those.
  module _ (has : (files : List FileEntry) (program : P) → s.Builds files (Ok program) →
      s.has_stamps program (stamps_of files) ≡ true)
      (same_are : (files : List FileEntry) (next program : P) → s.Builds files (Ok next) →
      f.same_stamps next program ≡ s.has_stamps program (stamps_of files)) where
    -- where a program was tried that wasn't refused, its stamps are those in force
    tried_fresh : (files : List FileEntry) (program : P) (before now : List (Entry M T V P Q R F))
        (answer : Result Checked (ReloadFault F)) → s.Builds files (Ok program) →
        Tried f k program before now answer →
        IfOk answer (λ _. (in_force f s now (stamps_of files) ≡ true) × Begins before now)
    tried_fresh files program before now answer builds (is_same lags equal) =
        (sym (same_are files program _ builds) ∙ equal, (lags.more, lags.is))
    tried_fresh files program before now answer builds (not_entered fault lags why) = tt
    tried_fresh files program before now answer builds (is_entered generation made program_is number) = (
      ap (λ p. s.has_stamps p (stamps_of files)) program_is ∙ has files program builds,
      (
        made.between ++ entry k (Reload program) ∷ [],
        made.is ∙ append_assoc before made.between (entry k (Reload program) ∷ []),
      ),
    )

    -- what was read last is in force after these entries
    abbrev LastInForce : List Given → List (Entry M T V P Q R F) → List (Entry M T V P Q R F) → Type 0
    LastInForce reads before now = (stamps : List (List ℕ × Stamp))
        × ((last_stamps reads ≡ Some stamps) × ((in_force f s now stamps ≡ true) × Begins before now))

    -- where a second look isn't refused, the stamps that it read last are those in force
    look_fresh : (held : Option (List FileEntry)) (before : List (Entry M T V P Q R F))
        (answer : Result Checked (ReloadFault F)) (reads : List Given) (now : List (Entry M T V P Q R F)) →
        Look f s k held before answer reads now → IfOk answer (λ _. LastInForce reads before now)
    look_fresh held before answer reads now (unread_again fault r why) = tt
    look_fresh held before answer reads now (same_again stamps n is) =
        (stamps, (refl, (is.agrees, (is.lags.more, is.lags.is))))
    look_fresh held before answer reads now (unbuilt stamps fault r n is why) = tt
    look_fresh held before answer reads now (built stamps files program compared n a is builds fits tried) =
        if_ok a _ _ (λ fresh. (
          stamps_of files,
          (refl, (fresh.0, begins-trans before compared n (is.lags.more, is.lags.is) fresh.1)),
        ))
        (tried_fresh files program compared n a builds tried)

    -- where a check isn't refused, the stamps that it read last were in force at one of its turns
    pub check_fresh : (held : Option (List FileEntry)) (before : List (Entry M T V P Q R F))
        (answer : Result Checked (ReloadFault F)) (reads : List Given) (now : List (Entry M T V P Q R F)) →
        Check f s k held before answer reads now → IfOk answer (λ _. (stamps : List (List ℕ × Stamp))
        × ((last_stamps reads ≡ Some stamps) × IsFresh f s k stamps before now))
    check_fresh held before answer reads now (unread fault r why) = tt
    check_fresh held before answer reads now (same stamps n is) = (
      stamps,
      (
        refl,
        record {
          at = n;
          begins_it = (is.lags.more, is.lags.is);
          compared = is.agrees;
          acts = [];
          later = nothing n;
          only_leaves = inl refl;
        },
      ),
    )
    check_fresh held before answer reads now (unreserved stamps n is) = tt
    check_fresh held before answer reads now
        (unloaded stamps compared taken left n sought waited a r is opens look closes) =
        if_ok a _ _ (λ fresh. (
          fresh.0,
          (
            last_after (stamps_read stamps) r fresh.0 fresh.1.0,
            record {
              at = left;
              begins_it = begins-trans before compared left (is.lags.more, is.lags.is)
                  (begins-trans compared taken left (opens.more, opens.is) fresh.1.1.1);
              compared = fresh.1.1.0;
              acts = closing_acts waited;
              later = closes;
              only_leaves = inr (waited, refl);
            },
          ),
        )) (look_fresh held taken a r left look)
