-- What contracts see of a system, and what its fields keep.
use Rattle.std.specs.Prelude.{◌≡◌, ℕ, ◌≤◌, List}
use Rattle.system_seats.specs.Seats.{Seats}
use Rattle.system_events.specs.declared.event.Entry.{Entry}
use Rattle.system_events.specs.declared.event.Act.{Act}
use Rattle.system_events.specs.declared.event.Act.TheVariants.{Define}
use Rattle.system_events.specs.declared.event.Counts.{Counts}
use Rattle.system_events.specs.Facts.{Facts}
use Rattle.system_events.specs.State.{State}
use Rattle.system_events.specs.Legal.{IsAfter}
use Rattle.system_core.specs.declared.fact.Fact.{Fact}
use Rattle.system_core.specs.Tables.{table_of, IsPlaced, hashes_of}

-- its state, and for how many entries and how many values it has room
pub record Book (M T V P Q R F : Type 0) : Type 0 where
  pub state : State M T V P Q R F
  pub room : ℕ
  pub values : ℕ

module _ {M T V P Q R F : Type 0} where
  -- how many values an act needs room for
  abbrev pub values_used : Act M T V P Q R F → ℕ
  values_used (Define task value) = 1
  values_used _ = 0

  -- the state, from the fields
  abbrev pub state_of : List (Entry M T V P Q R F) → Seats → List (Fact M T V P Q R F) → Counts M T V P Q R F →
      State M T V P Q R F
  state_of entries seats facts counts =
      record { history = entries; seats = seats; table = table_of entries facts; counts = counts }

  -- no more generations and requests than there may be
  abbrev pub CountsFit : Counts M T V P Q R F → Type 0
  CountsFit c = (c.generation ≤ 4096) × (c.requests ≤ 100000)

module _ {M T V P Q R F : Type 0} (f : Facts T V P Q R F) where
  -- what the fields keep: the history is legal, and they are the state after it
  pub record IsKept (entries : List (Entry M T V P Q R F)) (seats : Seats) (facts : List (Fact M T V P Q R F))
      (hashes : List ℕ) (counts : Counts M T V P Q R F) : Type 0 where
    pub placed : IsPlaced entries facts
    pub hashed : hashes ≡ hashes_of f entries facts
    pub fit : CountsFit counts
    pub number : ℕ
    pub after : IsAfter f number (state_of entries seats facts counts)
