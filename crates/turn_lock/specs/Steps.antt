-- What each step tells its seat, and what a seat is between two steps.
use Rattle.std.specs.Prelude.{◌≡◌, ◌≢◌, ℕ, ◌+◌, ◌%◌, ◌^◌, Bool, true, false, List, [], ◌∷◌, ◌++◌, Option, Some, None}
use Rattle.std.specs.Prelude.{IsSome}
use Rattle.atomic_table.specs.Table.{Me, Step}
use Rattle.turn_lock.specs.declared.view.View.{View}
use Rattle.turn_lock.specs.Entries.{NoneFrom, Lags, Begins, longer}

-- a view, and the slots in the seat's hand
abbrev pub SeatState : Type 0 → Type 0 → Type 0 → Type 0
SeatState B E W = Me (Option B) (View B E W)

-- the number, or 0 where there is none
abbrev pub number_or_0 : Option ℕ → ℕ
number_or_0 (Some t) = t
number_or_0 None = 0

-- the history, and the row, of the value that a seat has in its hand
abbrev pub seen_held : {B E : Type 0} → (B → List E) → List E → List (ℕ × Option B) → List E
seen_held history seen ((k, Some b) ∷ xs) = history b
seen_held history seen _ = seen

-- the seat's row in the value that it has in its hand; where it has none there, the row that it had
abbrev pub row_held : {B W : Type 0} → (B → ℕ → W) → ℕ → W → List (ℕ × Option B) → W
row_held rows number row ((k, Some b) ∷ xs) = rows b number
row_held rows number row _ = row

module _ {B E W : Type 0} where
  -- of the view of number 0: the entries' numbers are below its next one
  abbrev pub Unused : (E → ℕ) → View B E W → List E → Type 0
  Unused seat_of v es = v.number ≡ 0 → NoneFrom seat_of v.next es

  -- the view at the start
  abbrev pub first_view : (B → List E) → (B → ℕ → W) → B → View B E W
  first_view history rows value = record {
    live = true;
    number = 0;
    next = 1;
    ticket = None;
    turn = None;
    seen = history value;
    heard = [];
    row = rows value 0;
  }

  -- Each of the next ones is of a step: what it acted with, the seat before it, the number that it found, and the seat
  -- after it. Here the seat has the ticket that the word held.
  abbrev pub DrawsTicket : Step (Option B) → SeatState B E W → ℕ → SeatState B E W → Type 0
  DrawsTicket st m r n = (t : ℕ) × (r ≡ t % 2 ^ 64) × (n ≡ (record m.0 { ticket = Some t }, m.1))

  -- the turn of the seat has come: it took the slot with the value b
  abbrev pub HasTurn : (B → List E) → (E → ℕ) → (B → ℕ → W) → SeatState B E W → SeatState B E W → Type 0
  HasTurn history seat_of rows m n =
      (b : B) × (n ≡ (record m.0 { turn = Some b; seen = history b }, (0, Some b) ∷ m.1))
      × Lags seat_of m.0.number m.0.seen (history b) × (rows b m.0.number ≡ m.0.row) × Unused seat_of m.0 (history b)

  -- the word is the seat's ticket exactly where its turn has come
  abbrev pub LooksForTurn :
      (B → List E) → (E → ℕ) → (B → ℕ → W) → Step (Option B) → SeatState B E W → ℕ → SeatState B E W → Type 0
  LooksForTurn history seat_of rows st m r n =
      (r ≡ number_or_0 m.0.ticket % 2 ^ 64 → HasTurn history seat_of rows m n)
      × (r ≢ number_or_0 m.0.ticket % 2 ^ 64 → n ≡ m)

  -- the seat has seen the history of the value that it put home
  abbrev pub RecordsEntry : (B → List E) → Step (Option B) → SeatState B E W → ℕ → SeatState B E W → Type 0
  RecordsEntry history st m r n = n ≡ (record m.0 { seen = seen_held history m.0.seen m.1 }, m.1)

  -- the seat gave the slot back, and its row is that of the value that it put home
  abbrev pub EndsTurn : (B → ℕ → W) → Step (Option B) → SeatState B E W → ℕ → SeatState B E W → Type 0
  EndsTurn rows st m r n = n
      ≡ (record m.0 { ticket = None; turn = None; row = row_held rows m.0.number m.0.row m.1 }, [])

  -- what was seen and what was heard are beginnings of one history, and in a turn all of it was seen
  abbrev pub ComparesHeard : (E → ℕ) → Step (Option B) → SeatState B E W → ℕ → SeatState B E W → Type 0
  ComparesHeard seat_of st m r n =
      (n ≡ (record m.0 { seen = longer m.0.seen m.0.heard }, m.1))
      × Lags seat_of m.0.number m.0.seen (longer m.0.seen m.0.heard) × Begins m.0.heard (longer m.0.seen m.0.heard)
      × Unused seat_of m.0 (longer m.0.seen m.0.heard) × (IsSome m.0.turn → longer m.0.seen m.0.heard ≡ m.0.seen)

  -- the view of number 0 after it gave a number
  abbrev pub after_giving : View B E W → View B E W
  after_giving v = record v { next = v.next + 1 }

  -- the view that is given the number
  abbrev pub newcomer : W → View B E W → View B E W
  newcomer rest v = record {
    live = true;
    number = v.next;
    next = 0;
    ticket = None;
    turn = None;
    seen = v.seen;
    heard = [];
    row = rest;
  }

  -- the view after it took in another one
  abbrev pub after_taking_in : View B E W → View B E W → View B E W
  after_taking_in v w = record v { heard = w.seen }

  -- the view of a seat that was joined to another one
  abbrev pub spent_view : W → View B E W
  spent_view rest = record {
    live = false;
    number = 0;
    next = 0;
    ticket = None;
    turn = None;
    seen = [];
    heard = [];
    row = rest;
  }

  -- what a seat knows of its number, the history and its row is as before
  abbrev pub KnowsTheSame : View B E W → View B E W → Type 0
  KnowsTheSame old new =
      (new.number ≡ old.number) × (new.next ≡ old.next) × (new.seen ≡ old.seen) × (new.row ≡ old.row)
      × (new.live ≡ true)

  -- the seat has no ticket and no turn
  abbrev pub IsIdle : SeatState B E W → Type 0
  IsIdle m = (m.0.ticket ≡ None) × (m.0.turn ≡ None) × (m.1 ≡ [])

  -- the seat has drawn this ticket, and it is not yet its turn
  abbrev pub IsWaiting : ℕ → SeatState B E W → Type 0
  IsWaiting drawn m = (t : ℕ) × (m.0.ticket ≡ Some t) × (drawn ≡ t % 2 ^ 64) × (m.0.turn ≡ None) × (m.1 ≡ [])

  -- the seat is in a turn, whose value is out
  abbrev pub IsTaken : SeatState B E W → Type 0
  IsTaken m = IsSome m.0.turn × (m.1 ≡ (0, None) ∷ [])

  -- whether an entry of the seat was added to what was seen
  abbrev pub Added : (B → List E) → (E → ℕ) → Bool → B → View B E W → Type 0
  Added history seat_of true value v = (e : E) × (seat_of e ≡ v.number) × (history value ≡ v.seen ++ e ∷ [])
  Added history seat_of false value v = history value ≡ v.seen

  -- the seat is in a turn, and has put this value into the slot
  abbrev pub holding : (B → List E) → B → View B E W → SeatState B E W
  holding history value v = (record v { seen = history value }, (0, Some value) ∷ [])
