-- What contracts see of a ticket, and what the calls need of the value.
use Rattle.std.specs.Prelude.{◌≡◌, ◌≢◌, ◌⊎◌, ℕ, ◌<◌, ◌≤◌, true, List, [], ◌∷◌, ◌++◌, length, Option, Some, None, IsSome}
use base.Stored.{Coded}
use Rattle.atomic_table.specs.Seated.{TableId, table_id_coded}
use Rattle.atomic_table.specs.declared.shared.Seat.{Seat}
use Rattle.turn_lock.specs.declared.view.View.{View}
use Rattle.turn_lock.specs.Entries.{NoneFrom}
use Rattle.turn_lock.specs.Steps.{SeatState}

-- what tells one lock from another
abbrev pub LockId : Type 0
LockId = TableId

-- A type that holds a lock can have the lock's identity as what contracts see of it: this is its `coded`.
abbrev pub lock_id_coded : Coded LockId
lock_id_coded = table_id_coded

-- what contracts see of a ticket
pub record TicketView (B E W : Type 0) : Type 0 where
  -- the lock that the ticket is of
  pub lock : LockId
  pub number : ℕ
  -- in the ticket of number 0, the next number that it gives
  pub next : ℕ
  -- the history as far as the ticket has seen it
  pub seen : List E
  -- the row that the value has for the number
  pub row : W
  -- between `enter` and `leave`, the value that `enter` gave
  pub turn : Option B

module _ {B E W : Type 0} where
  -- a ticket's view is that of its seat
  abbrev pub ticket_view : Seat (Option B) (View B E W) → TicketView B E W
  ticket_view s = record {
    lock = s.table_id;
    number = s.me.0.number;
    next = s.me.0.next;
    seen = s.me.0.seen;
    row = s.me.0.row;
    turn = s.me.0.turn;
  }

  -- the first ticket of a lock
  abbrev pub first_ticket : (B → List E) → (B → ℕ → W) → LockId → B → TicketView B E W
  first_ticket history rows lock value = record {
    lock = lock;
    number = 0;
    next = 1;
    seen = history value;
    row = rows value 0;
    turn = None;
  }

  -- the ticket that is split off: it has the next number and a row at rest, and has seen as much
  abbrev pub split_ticket : W → TicketView B E W → TicketView B E W
  split_ticket rest t = record {
    lock = t.lock;
    number = t.next;
    next = 0;
    seen = t.seen;
    row = rest;
    turn = None;
  }

  -- the ticket after a turn that left this value
  abbrev pub after_leaving : (B → List E) → (B → ℕ → W) → B → TicketView B E W → TicketView B E W
  after_leaving history rows value t = record t { seen = history value; row = rows value t.number; turn = None }

-- the fields of a ticket tell what its seat knows
pub record Backed {B E W : Type 0} (seat_of : E → ℕ) (number seen_count next : ℕ) (m : SeatState B E W) : Type 0 where
  pub live : m.0.live ≡ true
  pub numbered : number ≡ m.0.number
  pub counted : seen_count ≡ length m.0.seen
  pub given : next ≡ m.0.next
  pub small : number < 64
  pub few : next ≤ 64
  pub begun : number ≡ 0 → 1 ≤ next
  pub unused : number ≡ 0 → NoneFrom seat_of next m.0.seen
  pub idle : m.0.turn ≡ None → (m.0.ticket ≡ None) × (m.1 ≡ [])
  pub busy : IsSome m.0.turn → m.1 ≡ (0, None) ∷ []

-- the rows of the numbers 1 to 63 are at rest
abbrev pub AtRest : {B W : Type 0} → (B → ℕ → W) → W → B → Type 0
AtRest rows rest value = (k : ℕ) → 1 ≤ k → k < 64 → rows value k ≡ rest

module _ {B E W : Type 0} where
  -- the rows of the other numbers are as `enter` gave them
  abbrev pub KeepsRows : (B → ℕ → W) → TicketView B E W → B → Type 0
  KeepsRows rows t value =
      (b : B) (k : ℕ) → t.turn ≡ Some b → k < 64 → k ≢ t.number → rows value k ≡ rows b k

  -- the history is the one that `enter` gave, which the ticket has seen, or that one with one entry of its number
  -- after it
  abbrev pub GainsOne : (B → List E) → (E → ℕ) → TicketView B E W → B → Type 0
  GainsOne history seat_of t value =
      (history value ≡ t.seen) ⊎ ((e : E) × (seat_of e ≡ t.number) × (history value ≡ t.seen ++ e ∷ []))
