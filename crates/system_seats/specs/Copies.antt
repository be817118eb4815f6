-- The rows that are lent to callers, each with a copy of the lock's row.
use Rattle.std.specs.Prelude.{ℕ, None, List, map}
use Rattle.share_lock.specs.declared.seat.Row.{Row}
use Rattle.share_lock.specs.Rows.{resting_row}
use Rattle.share_lock.specs.Lock.{Lock, row_of}
use Rattle.system_seats.specs.declared.table.SystemRow.{SystemRow}
use Rattle.system_seats.specs.Seats.{Seats, Marks}

-- the copy of the lock's row
abbrev pub lock_part : SystemRow → Row
lock_part r = r.lock

-- the places
abbrev pub mark_part : SystemRow → Marks
mark_part r = record { running = r.running; section = r.section }

-- the seats, from the lock and the rows beside it
abbrev pub seats_of : Lock → List SystemRow → Seats
seats_of lock rows = record { lock = lock; marks = map mark_part rows }

-- the row of a seat, as the lock has it, with these places
abbrev pub copied : Lock → ℕ → Marks → SystemRow
copied lock k m = record { lock = row_of lock k; running = m.running; section = m.section }

-- the row of a seat that does nothing
abbrev pub resting : SystemRow
resting = record { lock = resting_row; running = None; section = None }
