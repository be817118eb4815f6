-- What contracts see of a desk: the system's state, and the room that is set aside.
use Rattle.std.specs.Prelude.{◌≡◌, ◌≢◌, ◌⊎◌, ℕ, ◌≤◌, List, [], ◌∷◌, ◌++◌, length, sum, slice_index, slice_set}
use Rattle.system_events.specs.declared.event.Entry.{Entry}
use Rattle.system_events.specs.declared.event.Kept.{Kept}
use Rattle.system_events.specs.Facts.{Facts}
use Rattle.system_events.specs.State.{State}
use Rattle.system_events.specs.Steps.{effect}
use Rattle.system_events.specs.Legal.{IsAfter}
use Rattle.system_core.specs.Keeping.{Book}
use Rattle.shop_base.specs.declared.row.PassRow.{PassRow}
use Rattle.shop_base.specs.Rows.{seat_row, with_room}
use Rattle.shop_base.specs.Passes.{seat_limit, seat_of}

-- the system's state, and the entries and the values that are set aside for each seat
pub record Ledger (M T V P Q R F : Type 0) : Type 0 where
  pub state : State M T V P Q R F
  pub entries : List ℕ
  pub values : List ℕ

module _ {M T V P Q R F : Type 0} where
  -- a seat's row with the room that is set aside for it
  abbrev pub desk_row : Ledger M T V P Q R F → ℕ → PassRow
  desk_row d k = with_room (seat_row d.state.seats k) (slice_index d.entries k) (slice_index d.values k)

  -- the rows of the other seats are as they were
  abbrev pub OthersStay : ℕ → Ledger M T V P Q R F → Ledger M T V P Q R F → Type 0
  OthersStay k old new = (j : ℕ) → j ≢ k → desk_row new j ≡ desk_row old j

  -- the history is as it was, or has an entry of the seat more
  abbrev pub OneMore : ℕ → Ledger M T V P Q R F → Ledger M T V P Q R F → Type 0
  OneMore k old new = (new.state.history ≡ old.state.history)
      ⊎ ((e : Entry M T V P Q R F) × (seat_of e ≡ k) × (new.state.history ≡ old.state.history ++ e ∷ []))

  -- so many entries and values are set aside for a seat
  abbrev pub setting_aside : Ledger M T V P Q R F → ℕ → ℕ → ℕ → Ledger M T V P Q R F
  setting_aside d k entries values =
      record { state = d.state; entries = slice_set d.entries k entries; values = slice_set d.values k values }

module _ {M T V P Q R F : Type 0} (f : Facts T V P Q R F) where
  -- a seat has acted, and so many entries and values are left aside for it
  abbrev pub acted : Ledger M T V P Q R F → ℕ → Kept M T V P Q R F → ℕ → ℕ → Ledger M T V P Q R F
  acted d k kept entries values = record {
    state = effect f d.state k kept;
    entries = slice_set d.entries k entries;
    values = slice_set d.values k values;
  }

  -- What a desk keeps: the state is the one that a legal history leaves, and the system has room for all that is set
  -- aside.
  pub record IsCovered (book : Book M T V P Q R F) (entries values : List ℕ) : Type 0 where
    pub after : IsAfter f seat_limit book.state
    pub even : (length entries ≡ 64) × (length values ≡ 64)
    pub entries_room : sum entries ≤ book.room
    pub values_room : sum values ≤ book.values
