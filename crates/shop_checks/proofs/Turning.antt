-- What a pass has after a turn of a check.
use Rattle.std.specs.Prelude.{Result, Ok, Err, OnErr}
use Rattle.std.specs.declared.alloc.AllocError.{AllocError}
use Rattle.std.proofs.Common.{◌≡◌, ℕ, ◌+◌, ◌-◌, Bool, true, false, List, [], ◌∷◌, ◌++◌, append-nil, sym, ap, ◌∙◌}
use Rattle.std.proofs.Common.{length, refl, subst}
use Rattle.outside.specs.declared.files.Stamp.{Stamp}
use Rattle.turn_lock.specs.Entries.{Lags}
use Rattle.turn_lock.proofs.Histories.{lags_refl, lags-trans}
use Rattle.system_events.specs.declared.event.Entry.{Entry}
use Rattle.system_events.specs.declared.event.Kept.{Kept}
use Rattle.system_events.specs.declared.event.Kept.TheVariants.{Take, Seek, Reload}
use Rattle.system_events.specs.declared.event.Want.TheVariants.{Unload}
use Rattle.system_events.specs.Facts.{Facts}
use Rattle.system_events.specs.Guards.{reload_limits}
use Rattle.system_events.specs.State.{State}
use Rattle.system_events.specs.Legal.{after}
use Rattle.reload_matter.specs.Sources.{Sources}
use Rattle.reload_checks.specs.declared.answers.Checked.{Checked}
use Rattle.reload_checks.specs.declared.answers.Checked.TheVariants.{Same, Reloaded}
use Rattle.reload_checks.specs.declared.answers.ReloadFault.{ReloadFault}
use Rattle.reload_checks.specs.Checks.{EntersNone, in_force, opening_acts, Tried, is_same}
use Rattle.reload_checks.specs.Checks.{not_entered, is_entered}
use Rattle.shop_base.specs.declared.row.PassRow.{PassRow}
use Rattle.shop_base.specs.Rows.{seeking_unload_seat, unloading_seat, with_room}
use Rattle.shop_base.specs.Passes.{PassView, entry, seat_of, seat_limit, moved, Made, Gains}
use Rattle.shop_base.proofs.Gaining.{gains_made}
use Rattle.shop_desk.specs.Ledgers.{Ledger, desk_row}
use Rattle.shop_desk.proofs.Acting.{on_err_map}
use Rattle.shop_reloads.specs.declared.opening.Opening.{Opening}
use Rattle.shop_reloads.specs.declared.opening.Opening.TheVariants as opening
use Rattle.shop.specs.Turned.{Turned}
use Rattle.shop.proofs.Loads.{state_pushed}
use Rattle.shop_checks.specs.Turns.{Opens, Takes, Compares, Tries}
use Rattle.shop_checks.specs.Opened.{Unloads, Seeks, HasGained}

module _ {M T V P Q R F : Type 0} where
  -- entries of others after entries of others
  pub lags_later : (k : ℕ) (a b c : List (Entry M T V P Q R F)) → Lags seat_of k a b → Lags seat_of k b c →
      Lags seat_of k a c
  lags_later k a b c first second = lags-trans seat_of k a b c first second

  -- nothing was seen since
  pub lags_self : (k : ℕ) (a : List (Entry M T V P Q R F)) → Lags seat_of k a a
  lags_self k a = lags_refl seat_of k a

module _ {M T V P Q R F : Type 0} (f : Facts T V P Q R F)
    (Makes : Ledger M T V P Q R F → Ledger M T V P Q R F → Type 0) (old new : PassView M T V P Q R F)
    (t : Turned f Makes old new) where
  -- the pass's row after the turn
  pub row_is : new.row ≡ desk_row t.now old.number
  row_is = ap (λ (p : PassView M T V P Q R F). p.row) t.is

  -- the pass has seen the history that the turn left
  pub seen_is : new.seen ≡ t.now.state.history
  seen_is = ap (λ (p : PassView M T V P Q R F). p.seen) t.is

  -- a turn changes the pass's row and what it has seen alone
  pub same_is : new ≡ moved old new.row new.seen
  same_is = t.is ∙ (λ i. moved old (sym row_is i) (sym seen_is i))

  -- a turn that left the row as it was changes what was seen alone
  pub same_row_is : desk_row t.now old.number ≡ desk_row t.before old.number → new ≡ moved old old.row new.seen
  same_row_is stays = t.is ∙ (λ i. moved old ((stays ∙ t.row) i) (sym seen_is i))

  -- the state after what the pass has seen is the one that the turn left
  pub state_is : after f seat_limit new.seen ≡ t.now.state
  state_is = ap (after f seat_limit) seen_is ∙ sym (t.is_after).state

  -- a turn with this event of the pass
  pub made_is : (kept : Kept M T V P Q R F) →
      t.now.state.history ≡ t.before.state.history ++ entry old.number kept ∷ [] →
      Made old.number kept old.seen new.seen
  made_is kept gained = record {
    between = (t.lags).more;
    is = seen_is ∙ (gained ∙ ap (λ l. l ++ entry old.number kept ∷ []) (t.lags).is);
    none = (t.lags).none;
  }

  -- a turn that left the desk as it was
  pub unmoved_is : t.now ≡ t.before → (new.row ≡ old.row) × Lags seat_of old.number old.seen new.seen
  unmoved_is stays = (
    row_is ∙ (ap (λ d. desk_row d old.number) stays ∙ t.row),
    subst (Lags seat_of old.number old.seen)
        (sym (seen_is ∙ ap (λ (d : Ledger M T V P Q R F). d.state.history) stays)) t.lags,
  )

  module _ (s : Sources P F) (stamps : List (List ℕ × Stamp)) where
    -- stamps are in force before the turn where the desk's program has them
    pub in_force_before :
        in_force f s t.before.state.history stamps ≡ s.has_stamps t.before.state.counts.program stamps
    in_force_before =
        ap (λ (x : State M T V P Q R F). s.has_stamps x.counts.program stamps) (sym (t.was_after).state)

    -- and so after a turn that left the desk as it was
    pub in_force_now : t.now ≡ t.before →
        in_force f s new.seen stamps ≡ s.has_stamps t.before.state.counts.program stamps
    in_force_now stays =
        ap (λ (x : State M T V P Q R F). s.has_stamps x.counts.program stamps) state_is
        ∙ ap (λ (d : Ledger M T V P Q R F). s.has_stamps d.state.counts.program stamps) stays

    -- a turn that compared the stamps, which weren't those in force, and entered this
    pub gained_is : (kept : Kept M T V P Q R F) → s.has_stamps t.before.state.counts.program stamps ≡ false →
        t.now.state.history ≡ t.before.state.history ++ entry old.number kept ∷ [] →
        HasGained f s old.number stamps (kept ∷ []) old.seen new.seen
    gained_is kept differs gained = record {
      compared = t.before.state.history;
      lags = t.lags;
      differs = in_force_before ∙ differs;
      gains = gains_made old.number kept t.before.state.history new.seen (record {
        between = [];
        is = seen_is ∙ (gained ∙ ap (λ l. l ++ entry old.number kept ∷ []) (sym (append-nil t.before.state.history)));
        none = tt;
      });
    }

module _ {M T V P Q R F : Type 0} (f : Facts T V P Q R F) (old new : PassView M T V P Q R F) (program : P) where
  -- a turn that tried a program
  pub tried_is : (answer : Result Checked (ReloadFault F)) →
      Turned f (λ before now. Tries f program old.number before answer now) old new →
      Tried f old.number program old.seen new.seen answer
  tried_is (Ok Same) t =
      let at = (t.makes_it).same refl in
      let stays = unmoved_is f _ old new t at.1 in
      is_same stays.1 (ap (λ (x : State M T V P Q R F). f.same_stamps program x.counts.program)
      (state_is f _ old new t ∙ ap (λ (d : Ledger M T V P Q R F). d.state) at.1) ∙ at.0)
  tried_is (Ok (Reloaded generation)) t =
      let at = (t.makes_it).reloaded generation refl in
      is_entered generation (made_is f _ old new t (Reload program) at.0)
      (ap (λ (x : State M T V P Q R F). x.counts.program) (state_is f _ old new t
      ∙ state_pushed f t.before.state t.now.state old.number (Reload program) t.was_after t.is_after at.0))
      (at.1 ∙ sym (ap (λ (x : State M T V P Q R F). x.counts.generation) (state_is f _ old new t)))
  tried_is (Err fault) t =
      let at = (t.makes_it).refused in
      let stays = unmoved_is f _ old new t at.1 in
      not_entered fault stays.1
      (subst (λ (x : State M T V P Q R F). EntersNone (reload_limits f x.counts program) fault)
      (sym (state_is f _ old new t ∙ ap (λ (d : Ledger M T V P Q R F). d.state) at.1)) at.0)

module _ {M T V P Q R F : Type 0} (f : Facts T V P Q R F) (s : Sources P F) (stamps : List (List ℕ × Stamp))
    (old new : PassView M T V P Q R F) where
  -- a turn that compared these stamps with those in force, which they were
  abbrev Agreed : Bool → Type 0
  Agreed answer = (new.row ≡ old.row) × (Lags seat_of old.number old.seen new.seen
      × (in_force f s new.seen stamps ≡ answer))

  agreed : (Makes : Ledger M T V P Q R F → Ledger M T V P Q R F → Type 0) (answer : Bool)
      (t : Turned f Makes old new) →
      (s.has_stamps t.before.state.counts.program stamps ≡ answer) × (t.now ≡ t.before) → Agreed answer
  agreed Makes answer t at =
      let stays = unmoved_is f Makes old new t at.1 in
      (stays.0, (stays.1, in_force_now f Makes old new t s stamps at.1 ∙ at.0))

  module _ (answer : Result Opening AllocError)
      (t : Turned f (λ before now. Opens s stamps old.number before answer now) old new) where
    -- the stamps were those in force
    pub open_agrees : answer ≡ Ok opening.Same → (new.row ≡ old.row) × (Lags seat_of old.number old.seen new.seen
        × (in_force f s new.seen stamps ≡ true))
    open_agrees is = agreed _ true t ((t.makes_it).same is)

    -- an unload was taken
    pub open_taken : answer ≡ Ok opening.Taken → Unloads old.row new.row
        × HasGained f s old.number stamps (opening_acts false) old.seen new.seen
    open_taken is =
        let at = (t.makes_it).taken is in (
          (
            length t.before.state.history,
            row_is f _ old new t ∙ ((t.makes_it).taken_row is
                ∙ (λ i. with_room (unloading_seat (length t.before.state.history)) ((t.row i).entries + 2)
                ((t.row i).values))),
          ),
          gained_is f _ old new t s stamps (Take Unload) at.0 at.1,
        )

    -- it was sought
    pub open_seeking : answer ≡ Ok opening.Seeking → Seeks old.row new.row
        × HasGained f s old.number stamps (Seek Unload ∷ []) old.seen new.seen
    open_seeking is =
        let at = (t.makes_it).seeking is in (
          (
            length t.before.state.history,
            row_is f _ old new t ∙ ((t.makes_it).seeking_row is
                ∙ (λ i. with_room (seeking_unload_seat (length t.before.state.history)) ((t.row i).entries + 3)
                ((t.row i).values))),
          ),
          gained_is f _ old new t s stamps (Seek Unload) at.0 at.1,
        )

    -- there was no memory for it
    pub open_refused : OnErr answer ((new.row ≡ old.row) × (Lags seat_of old.number old.seen new.seen
        × (in_force f s new.seen stamps ≡ false)))
    open_refused = on_err_map answer _ _ (agreed _ false t) (t.makes_it).refused

  -- a turn that compared them alone
  pub compare_is : (answer : Bool) → Turned f (λ before now. Compares s stamps before answer now) old new →
      (new ≡ moved old old.row new.seen) × (Lags seat_of old.number old.seen new.seen
      × (answer ≡ in_force f s new.seen stamps))
  compare_is answer t =
      let at = agreed _ (s.has_stamps t.before.state.counts.program stamps) t (refl, (t.makes_it).stays) in (
        same_row_is f _ old new t (ap (λ d. desk_row d old.number) (t.makes_it).stays),
        (at.1.0, (t.makes_it).answers ∙ sym at.1.1),
      )

module _ {M T V P Q R F : Type 0} (f : Facts T V P Q R F) (old new : PassView M T V P Q R F) (answer : Bool)
    (t : Turned f (λ before now. Takes old.number before answer now) old new) where
  -- the unload that was sought was taken
  pub sought_taken : answer ≡ true → Made old.number (Take Unload) old.seen new.seen
  sought_taken is = made_is f _ old new t (Take Unload) ((t.makes_it).taken is)

  -- the row then
  pub sought_row : answer ≡ true → (opened : ℕ) → old.row.seat ≡ seeking_unload_seat opened →
      new.row ≡ with_room (unloading_seat opened) (old.row.entries - 1) old.row.values
  sought_row is opened seeks =
      row_is f _ old new t ∙ ((t.makes_it).row is opened (ap (λ (r : PassRow). r.seat) t.row ∙ seeks)
      ∙ (λ i. with_room (unloading_seat opened) ((t.row i).entries - 1) ((t.row i).values)))

  -- the exclusive side was busy
  pub sought_busy : answer ≡ false → (new.row ≡ old.row) × Lags seat_of old.number old.seen new.seen
  sought_busy is = unmoved_is f _ old new t ((t.makes_it).busy is)
