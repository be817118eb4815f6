-- What a check comes to, of what its parts did.
use Rattle.std.specs.Prelude.{Result, Ok, Err, IfSome}
use Rattle.std.proofs.Common.{◌≡◌, ◌⊎◌, inl, inr, ℕ, Bool, true, false, List, [], ◌∷◌, Option, None}
use Rattle.std.proofs.Common.{append-nil, ap, ◌∙◌, subst, ◌+◌, ◌-◌, arith}
use Rattle.outside.specs.Tree.{Given}
use Rattle.outside.specs.Told.{appended}
use Rattle.outside.proofs.ToldLaws.{appended-appended}
use Rattle.outside.specs.declared.files.FileEntry.{FileEntry}
use Rattle.outside.specs.declared.files.Stamp.{Stamp}
use Rattle.turn_lock.specs.Entries.{Lags}
use Rattle.system_events.specs.declared.event.Entry.{Entry}
use Rattle.system_events.specs.declared.event.Kept.{Kept}
use Rattle.system_events.specs.declared.event.Kept.TheVariants.{Take, Seek, Reload}
use Rattle.system_events.specs.declared.event.Want.TheVariants.{Unload}
use Rattle.system_events.specs.Facts.{Facts}
use Rattle.system_events.specs.Legal.{after}
use Rattle.reload_matter.specs.Sources.{Sources}
use Rattle.reload_checks.specs.declared.answers.Checked.{Checked}
use Rattle.reload_checks.specs.declared.answers.Checked.TheVariants.{Same, Reloaded}
use Rattle.reload_checks.specs.declared.answers.ReloadFault.{ReloadFault}
use Rattle.reload_checks.specs.Checks.{opening_acts, closing_acts, stamps_read, Tried, is_same, not_entered, is_entered}
use Rattle.reload_checks.specs.Checks.{Differs, Look, unread_again, same_again, unbuilt, built}
use Rattle.reload_checks.specs.Checks.{Check, unread, same, unreserved, unloaded}
use Rattle.shop_base.specs.declared.row.PassRow.{PassRow}
use Rattle.shop_base.specs.Rows.{seeking_unload_seat, unloading_seat, with_room}
use Rattle.shop_base.specs.Passes.{seat_limit, seat_of, Made, Gains}
use Rattle.shop_base.proofs.Gaining.{gains_lags, gains_made, gains-trans}
use Rattle.shop.specs.Leaving.{Leaves}
use Rattle.shop_checks.specs.Opened.{Unloads, Seeks, HasGained}
use Rattle.shop_checks.specs.Tries.{Rebuilds, gives_none, gives_one}
use Rattle.shop_checks.specs.Reloaded.{OnReloaded, HasReloaded}

-- what was told with an item and then more behind it
pub told_more : {A : Type 0} (first second third : Option (List A)) (item : A) (more : List A) →
    second ≡ appended first (item ∷ []) → third ≡ appended second more → third ≡ appended first (item ∷ more)
told_more first second third item more one rest =
    rest ∙ (ap (λ told. appended told more) one ∙ appended-appended first (item ∷ []) more)

on_map : {F : Type 0} (answer : Result Checked (ReloadFault F)) (Holds Follows : ℕ → Type 0) →
    ((generation : ℕ) → Holds generation → Follows generation) → OnReloaded answer Holds → OnReloaded answer Follows
on_map (Ok (Reloaded generation)) Holds Follows follows is = follows generation is
on_map _ Holds Follows follows is = tt

less_room : (n : ℕ) → n + 3 - 1 ≡ n + 2
less_room n = omega arith

-- a pass that takes the unload which it sought has two entries more set aside than before it sought it
pub sought_row_is : (old between new : PassRow) → Seeks old between → ((opened : ℕ) →
    between.seat ≡ seeking_unload_seat opened →
    new ≡ with_room (unloading_seat opened) (between.entries - 1) between.values) → Unloads old new
sought_row_is old between new seeks row = (
  seeks.0,
  row seeks.0 (ap (λ (r : PassRow). r.seat) seeks.1)
      ∙ ((λ i. with_room (unloading_seat seeks.0) ((seeks.1 i).entries - 1) ((seeks.1 i).values))
      ∙ ap (λ n. with_room (unloading_seat seeks.0) n old.values) (less_room old.entries)),
)

module _ {M T V P Q R F : Type 0} (f : Facts T V P Q R F) (s : Sources P F) (k : ℕ) where
  -- an unload that was sought is taken
  pub sought_is : (stamps : List (List ℕ × Stamp)) (before between now : List (Entry M T V P Q R F)) →
      HasGained f s k stamps (Seek Unload ∷ []) before between → Made k (Take Unload) between now →
      HasGained f s k stamps (opening_acts true) before now
  sought_is stamps before between now gained made = record {
    compared = gained.compared;
    lags = gained.lags;
    differs = gained.differs;
    gains = gains-trans k (Seek Unload ∷ []) (Take Unload ∷ []) gained.compared between now gained.gains
        (gains_made k (Take Unload) between now made);
  }

  leaves_is : (before now : List (Entry M T V P Q R F)) → Leaves k before now →
      (waited : Bool) × Gains k (closing_acts waited) before now
  leaves_is before now leaves = elim leaves [
    | inl free ↦ (false, free)
    | inr waits ↦ (true, waits)
  ]

  -- a second look whose stamps differ, and what came of the files then
  pub look_is : (held : Option (List FileEntry)) (stamps : List (List ℕ × Stamp))
      (before compared : List (Entry M T V P Q R F)) (answer : Result Checked (ReloadFault F)) (reads : List Given)
      (now : List (Entry M T V P Q R F)) → Differs f s k stamps before compared →
      Rebuilds f s k held compared answer reads now → Look f s k held before answer (stamps_read stamps ∷ reads) now
  look_is held stamps before compared answer reads now differs (gives_none fault r why) =
      unbuilt stamps fault r compared differs why
  look_is held stamps before compared answer reads now differs (gives_one files program a n builds fits tried) =
      built stamps files program compared n a differs builds fits tried

  -- a check that took an unload, looked again and left
  pub took_is : (held : Option (List FileEntry)) (stamps : List (List ℕ × Stamp)) (sought : Bool)
      (before taken left now : List (Entry M T V P Q R F)) (answer : Result Checked (ReloadFault F))
      (reads : List Given) → s.limit stamps ≡ None → HasGained f s k stamps (opening_acts sought) before taken →
      Look f s k held taken answer reads left → Leaves k left now →
      Check f s k held before answer (stamps_read stamps ∷ reads) now
  took_is held stamps sought before taken left now answer reads within gained look leaves =
      let l = leaves_is left now leaves in
      unloaded stamps gained.compared taken left now sought l.0 answer reads
      (record { within = within; lags = gained.lags; differs = gained.differs }) gained.gains look l.1

  -- THE RELOAD

  record Enters (held : Option (List FileEntry)) (generation : ℕ) (before now : List (Entry M T V P Q R F))
      : Type 0 where
    files : List FileEntry
    program : P
    builds : s.Builds files (Ok program)
    holds : IfSome held (λ all. files ≡ all)
    opened : List (Entry M T V P Q R F)
    lags : Lags seat_of k before opened
    reloads : Made k (Reload program) opened now
    number : generation ≡ (after f seat_limit now).counts.generation

  abbrev IsEntered : P → List (Entry M T V P Q R F) → List (Entry M T V P Q R F) → ℕ → Type 0
  IsEntered program before now generation =
      Made k (Reload program) before now × (generation ≡ (after f seat_limit now).counts.generation)

  tried_enters : (program : P) (before now : List (Entry M T V P Q R F)) (answer : Result Checked (ReloadFault F)) →
      Tried f k program before now answer → OnReloaded answer (IsEntered program before now)
  tried_enters program before now answer (is_same lags equal) = tt
  tried_enters program before now answer (not_entered fault lags why) = tt
  tried_enters program before now answer (is_entered generation made program_is number) = (made, number)

  look_enters : (held : Option (List FileEntry)) (before : List (Entry M T V P Q R F))
      (answer : Result Checked (ReloadFault F)) (reads : List Given) (now : List (Entry M T V P Q R F)) →
      Look f s k held before answer reads now → OnReloaded answer (λ generation. Enters held generation before now)
  look_enters held before answer reads now (unread_again fault r why) = tt
  look_enters held before answer reads now (same_again stamps n is) = tt
  look_enters held before answer reads now (unbuilt stamps fault r n is why) = tt
  look_enters held before answer reads now (built stamps files program compared n a is builds fits tried) =
      on_map a (IsEntered program compared n)
      (λ generation. Enters held generation before n) (λ generation entered. record {
        files = files;
        program = program;
        builds = builds;
        holds = fits;
        opened = compared;
        lags = is.lags;
        reloads = entered.0;
        number = entered.1;
      }) (tried_enters program compared n a tried)

  -- a check that answers Reloaded entered a Reload of the files that the tree holds
  pub check_reloaded : (held : Option (List FileEntry)) (before : List (Entry M T V P Q R F))
      (answer : Result Checked (ReloadFault F)) (reads : List Given) (now : List (Entry M T V P Q R F)) →
      Check f s k held before answer reads now →
      OnReloaded answer (λ generation. HasReloaded f s k held generation before now)
  check_reloaded held before answer reads now (unread fault r why) = tt
  check_reloaded held before answer reads now (same stamps n is) = tt
  check_reloaded held before answer reads now (unreserved stamps n is) = tt
  check_reloaded held before answer reads now
      (unloaded stamps compared taken left n sought waited a r is opens look closes) =
      on_map a (λ generation. Enters held generation taken left)
      (λ generation. HasReloaded f s k held generation before n) (λ generation e. record {
        files = e.files;
        program = e.program;
        builds = e.builds;
        holds = e.holds;
        sought = sought;
        waited = waited;
        opened = e.opened;
        entered = left;
        opens = gains-trans k [] (opening_acts sought) before compared e.opened (gains_lags k before compared is.lags)
            (subst (λ acts. Gains k acts compared e.opened) (append-nil (opening_acts sought))
            (gains-trans k (opening_acts sought) [] compared taken e.opened opens
            (gains_lags k taken e.opened e.lags)));
        reloads = e.reloads;
        number = e.number;
        leaves = closes;
      }) (look_enters held taken a r left look)
