-- A ticket that may enter.
use Rattle.std.specs.Prelude.{◌≡◌, List, None}
use Rattle.turn_lock.specs.Entries.{Begins}
use Rattle.turn_lock.specs.Tickets.{LockId, TicketView}

-- a ticket of this lock that is in no turn
abbrev pub IsReady : {B E W : Type 0} → LockId → TicketView B E W → Type 0
IsReady lock t = (t.lock ≡ lock) × (t.turn ≡ None)

-- what the ticket has seen begins the list
abbrev pub WasSeenIn : {B E W : Type 0} → List E → TicketView B E W → Type 0
WasSeenIn log t = Begins t.seen log
