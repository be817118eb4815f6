-- The seats of a system: the lock, and for each seat the places in the history of its running Begin and of the entry
-- that opened its section.
use Rattle.std.specs.Prelude.{ℕ, nat_lt, Bool, true, false, None, is_some, List, length, slice_index_or}
use Rattle.std.specs.Prelude.{replicate}
use Rattle.share_lock.specs.declared.seat.Row.{Row}
use Rattle.share_lock.specs.declared.seat.Phase.{Phase}
use Rattle.share_lock.specs.declared.seat.Phase.TheVariants.{Calm, Seeking, Releasing}
use Rattle.share_lock.specs.Lock.{Lock, lock_at_rest, owns, row_of}
pub use Rattle.system_seats.specs.declared.guard.Marks.{Marks}
use Rattle.system_seats.specs.declared.guard.Purpose.{Purpose}
use Rattle.system_seats.specs.declared.guard.Purpose.TheVariants.{Load, Unload}

-- the lock, and the places of each seat
pub record Seats : Type 0 where
  pub lock : Lock
  pub marks : List Marks

-- a seat that runs nothing and has no section
abbrev pub no_marks : Marks
no_marks = record { running = None; section = None }

-- the places of a seat; beyond the end there are none
abbrev pub mark_at : List Marks → ℕ → Marks
mark_at marks seat = slice_index_or marks seat no_marks

-- the lock's row of a seat
abbrev pub row : Seats → ℕ → Row
row seats seat = row_of seats.lock seat

-- the places of a seat
abbrev pub mark : Seats → ℕ → Marks
mark seats seat = mark_at seats.marks seat

-- the seat runs a request
abbrev pub runs_at : Seats → ℕ → Bool
runs_at seats seat = is_some (mark seats seat).running

-- the seat is exclusive
abbrev pub is_owner : Seats → ℕ → Bool
is_owner seats seat = owns seats.lock.exclusive seat

-- the seat neither seeks nor waits after a release
abbrev pub is_calm : Phase → Bool
is_calm Calm = true
is_calm (Seeking purpose) = false
is_calm (Releasing list) = false

-- the seat waits after a release
abbrev pub is_releasing : Phase → Bool
is_releasing Calm = false
is_releasing (Seeking purpose) = false
is_releasing (Releasing list) = true

-- a yield of the seat is open
abbrev pub has_yield : Row → Bool
has_yield row = nat_lt 0 (length row.yields)

-- a load is purpose 0, an unload purpose 1
abbrev pub purpose_bit : Purpose → ℕ
purpose_bit Load = 0
purpose_bit Unload = 1

-- a load admits loads, which is the list {0}; an unload admits both, which is {0, 1}
abbrev pub purpose_list : Purpose → ℕ
purpose_list Load = 1
purpose_list Unload = 3

-- seats that do nothing
abbrev pub seats_at_rest : ℕ → Seats
seats_at_rest seats = record { lock = lock_at_rest seats; marks = replicate seats no_marks }
