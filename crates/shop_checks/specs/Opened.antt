-- What a pass has and has gained while its check opens an unload.
use Rattle.std.specs.Prelude.{◌≡◌, ℕ, ◌+◌, false, List}
use Rattle.outside.specs.declared.files.Stamp.{Stamp}
use Rattle.turn_lock.specs.Entries.{Lags}
use Rattle.system_events.specs.declared.event.Entry.{Entry}
use Rattle.system_events.specs.declared.event.Kept.{Kept}
use Rattle.system_events.specs.Facts.{Facts}
use Rattle.reload_matter.specs.Sources.{Sources}
use Rattle.reload_checks.specs.Checks.{in_force}
use Rattle.shop_base.specs.declared.row.PassRow.{PassRow}
use Rattle.shop_base.specs.Rows.{seeking_unload_seat, unloading_seat, with_room}
use Rattle.shop_base.specs.Passes.{seat_of, Gains}

-- it is exclusive for an unload, with two entries more set aside, for the Release and the Resume
abbrev pub Unloads : PassRow → PassRow → Type 0
Unloads old new = (opened : ℕ) × (new ≡ with_room (unloading_seat opened) (old.entries + 2) old.values)

-- it seeks an unload, with three entries more set aside, for the Take too
abbrev pub Seeks : PassRow → PassRow → Type 0
Seeks old new = (opened : ℕ) × (new ≡ with_room (seeking_unload_seat opened) (old.entries + 3) old.values)

module _ {M T V P Q R F : Type 0} (f : Facts T V P Q R F) (s : Sources P F) where
  -- At a turn these stamps weren't those in force, and from there on the seat entered these acts.
  pub record HasGained (k : ℕ) (stamps : List (List ℕ × Stamp)) (acts : List (Kept M T V P Q R F))
      (before now : List (Entry M T V P Q R F)) : Type 0 where
    pub compared : List (Entry M T V P Q R F)
    pub lags : Lags seat_of k before compared
    pub differs : in_force f s compared stamps ≡ false
    pub gains : Gains k acts compared now
