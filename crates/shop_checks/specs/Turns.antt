-- What the turns of a check make of a desk.
use Rattle.std.specs.Prelude.{◌≡◌, ℕ, ◌+◌, ◌-◌, Bool, true, false, List, [], ◌∷◌, ◌++◌, length, slice_index}
use Rattle.std.specs.Prelude.{Result, Ok, Err, IfErr, OnErr}
use Rattle.std.specs.declared.alloc.AllocError.{AllocError}
use Rattle.outside.specs.declared.files.Stamp.{Stamp}
use Rattle.system_events.specs.declared.event.Kept.TheVariants.{Take, Seek, Reload}
use Rattle.system_events.specs.declared.event.Want.TheVariants.{Unload}
use Rattle.system_events.specs.Facts.{Facts}
use Rattle.system_events.specs.Guards.{reload_limits}
use Rattle.reload_matter.specs.Sources.{Sources}
use Rattle.reload_checks.specs.declared.answers.Checked.{Checked}
use Rattle.reload_checks.specs.declared.answers.Checked.TheVariants.{Same, Reloaded}
use Rattle.reload_checks.specs.declared.answers.ReloadFault.{ReloadFault}
use Rattle.reload_checks.specs.Checks.{EntersNone}
use Rattle.shop_base.specs.Rows.{seeking_unload_seat, unloading_seat, with_room}
use Rattle.shop_base.specs.Passes.{entry}
use Rattle.shop_desk.specs.Ledgers.{Ledger, desk_row}
use Rattle.shop_reloads.specs.declared.opening.Opening.{Opening}
use Rattle.shop_reloads.specs.declared.opening.Opening.TheVariants as opening

module _ {M T V P Q R F : Type 0} where
  -- Seat k's first turn, which compares these stamps.
  pub record Opens (s : Sources P F) (stamps : List (List ℕ × Stamp)) (k : ℕ) (before : Ledger M T V P Q R F)
      (answer : Result Opening AllocError) (now : Ledger M T V P Q R F) : Type 0 where
    pub same : answer ≡ Ok opening.Same →
        (s.has_stamps before.state.counts.program stamps ≡ true) × (now ≡ before)
    pub taken : answer ≡ Ok opening.Taken → (s.has_stamps before.state.counts.program stamps ≡ false)
        × (now.state.history ≡ before.state.history ++ entry k (Take Unload) ∷ [])
    pub taken_row : answer ≡ Ok opening.Taken → desk_row now k
        ≡ with_room (unloading_seat (length before.state.history))
        ((desk_row before k).entries + 2) (desk_row before k).values
    pub seeking : answer ≡ Ok opening.Seeking → (s.has_stamps before.state.counts.program stamps ≡ false)
        × (now.state.history ≡ before.state.history ++ entry k (Seek Unload) ∷ [])
    pub seeking_row : answer ≡ Ok opening.Seeking → desk_row now k
        ≡ with_room (seeking_unload_seat (length before.state.history))
        ((desk_row before k).entries + 3) (desk_row before k).values
    pub refused : OnErr answer
        ((s.has_stamps before.state.counts.program stamps ≡ false) × (now ≡ before))

  -- A turn that takes the unload which seat k seeks, or finds the exclusive side busy.
  pub record Takes (k : ℕ) (before : Ledger M T V P Q R F) (answer : Bool) (now : Ledger M T V P Q R F) : Type 0 where
    pub taken : answer ≡ true → now.state.history ≡ before.state.history ++ entry k (Take Unload) ∷ []
    pub row : answer ≡ true → (opened : ℕ) → (desk_row before k).seat ≡ seeking_unload_seat opened →
        desk_row now k ≡ with_room (unloading_seat opened)
        ((desk_row before k).entries - 1) (desk_row before k).values
    pub busy : answer ≡ false → now ≡ before

  -- A turn that compares these stamps, and answers whether they are those in force.
  pub record Compares (s : Sources P F) (stamps : List (List ℕ × Stamp)) (before : Ledger M T V P Q R F)
      (answer : Bool) (now : Ledger M T V P Q R F) : Type 0 where
    pub answers : answer ≡ s.has_stamps before.state.counts.program stamps
    pub stays : now ≡ before

  -- A turn of seat k that tries a program.
  pub record Tries (f : Facts T V P Q R F) (program : P) (k : ℕ) (before : Ledger M T V P Q R F)
      (answer : Result Checked (ReloadFault F)) (now : Ledger M T V P Q R F) : Type 0 where
    pub reloaded : (generation : ℕ) → answer ≡ Ok (Reloaded generation) →
        (now.state.history ≡ before.state.history ++ entry k (Reload program) ∷ [])
        × (generation ≡ now.state.counts.generation)
    pub same : answer ≡ Ok Same →
        (f.same_stamps program before.state.counts.program ≡ true) × (now ≡ before)
    pub refused : IfErr answer (λ fault. EntersNone (reload_limits f before.state.counts program) fault
        × (now ≡ before))
    pub row : desk_row now k ≡ desk_row before k
