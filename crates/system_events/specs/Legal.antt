-- Which histories are legal, and the state that each leaves.
use Rattle.std.specs.Prelude.{◌≡◌, ℕ, List, [], ◌∷◌, ◌<◌, length, None}
use Rattle.system_seats.specs.Seats.{seats_at_rest}
use Rattle.system_events.specs.declared.event.Entry.{Entry}
use Rattle.system_events.specs.declared.event.Kept.TheVariants.{Reload}
use Rattle.system_events.specs.Facts.{Facts}
use Rattle.system_events.specs.State.{State}
use Rattle.system_events.specs.Guards.{guard_of}
use Rattle.system_events.specs.Steps.{effect, Condition}

module _ {M T V P Q R F : Type 0} (f : Facts T V P Q R F) where
  -- A history opens with a Reload of generation 0, which is the empty snapshot. It has seat 0.
  abbrev pub opening : Entry M T V P Q R F
  opening = record { seat = 0; kept = Reload f.empty }

  -- so many seats at rest, after the opening Reload
  abbrev pub start : ℕ → State M T V P Q R F
  start seats = record {
    history = opening ∷ [];
    seats = seats_at_rest seats;
    table = [];
    counts = record { generation = 0; program = f.empty; requests = 0; reply_bytes = 0; changed_bytes = 0 };
  }

  -- A step: the entry is of one of the seats, no guard of its row is true, its caller's condition holds, and the new
  -- state is the old one with the row's effect.
  pub record IsStep (old : State M T V P Q R F) (entry : Entry M T V P Q R F) (new : State M T V P Q R F) : Type 0 where
    pub seated : entry.seat < length old.seats.lock.rows
    pub passes : guard_of f old entry.seat entry.kept ≡ None
    pub allowed : Condition f old entry.seat entry.kept
    pub is : new ≡ effect f old entry.seat entry.kept

  -- the state after these entries, from a state
  abbrev pub after_from : State M T V P Q R F → List (Entry M T V P Q R F) → State M T V P Q R F
  after_from s [] = s
  after_from s (entry ∷ entries) = after_from (effect f s entry.seat entry.kept) entries

  -- each entry is a step from the state that those before it leave
  abbrev pub AreSteps : State M T V P Q R F → List (Entry M T V P Q R F) → Type 0
  AreSteps s [] = Unit {0}
  AreSteps s (entry ∷ entries) =
      IsStep s entry (effect f s entry.seat entry.kept) × AreSteps (effect f s entry.seat entry.kept) entries

  -- the state that a history leaves
  abbrev pub after : ℕ → List (Entry M T V P Q R F) → State M T V P Q R F
  after seats [] = start seats
  after seats (opened ∷ entries) = after_from (start seats) entries

  -- a legal history: the opening, and then steps
  pub record IsLegal (seats : ℕ) (history : List (Entry M T V P Q R F)) : Type 0 where
    pub entries : List (Entry M T V P Q R F)
    pub opens : history ≡ opening ∷ entries
    pub steps : AreSteps (start seats) entries

  -- a legal history, and the state that it leaves
  pub record IsAfter (seats : ℕ) (s : State M T V P Q R F) : Type 0 where
    pub legal : IsLegal seats s.history
    pub state : s ≡ after seats s.history
