-- The rows of passes: a seat's row, and the room that is set aside for the seat.
use Rattle.std.specs.Prelude.{◌≡◌, ℕ, Option, Some, None, is_some, Bool, ◌&&◌}
use Rattle.share_lock.specs.declared.seat.Phase.TheVariants.{Calm, Seeking, Releasing}
use Rattle.system_seats.specs.declared.table.SystemRow.{SystemRow}
use Rattle.system_seats.specs.Seats.{Seats, row, mark, is_calm}
use Rattle.system_seats.specs.Shapes.{sharing, waiting}
pub use Rattle.system_seats.specs.Copies.{resting}
use Rattle.shop_base.specs.declared.row.PassRow.{PassRow}

-- the row of a seat of a system
abbrev pub seat_row : Seats → ℕ → SystemRow
seat_row s k = record { lock = row s k; running = (mark s k).running; section = (mark s k).section }

-- the row tells whether its seat is exclusive: it is calm and has a section
abbrev pub is_exclusive : SystemRow → Bool
is_exclusive r = is_calm r.lock.phase && is_some r.section

-- WHAT A SEAT DOES

-- it shares, and runs a request or not
abbrev pub calm_seat : Option ℕ → SystemRow
calm_seat running = record { lock = sharing; running = running; section = None }

-- it shares, and runs nothing
abbrev pub sharing_seat : SystemRow
sharing_seat = calm_seat None

-- it runs the request whose Begin stands at this place
abbrev pub running_seat : ℕ → SystemRow
running_seat begun = calm_seat (Some begun)

-- it runs a request, and has put its share aside
abbrev pub yielding_seat : ℕ → SystemRow
yielding_seat begun = record { lock = waiting None 129 Calm; running = Some begun; section = None }

-- it runs a request, and seeks a load since the entry at the second place
abbrev pub seeking_seat : ℕ → ℕ → SystemRow
seeking_seat begun opened =
    record { lock = waiting (Some 0) 1 (Seeking 0); running = Some begun; section = Some opened }

-- it runs nothing, and seeks an unload since the entry at this place
abbrev pub seeking_unload_seat : ℕ → SystemRow
seeking_unload_seat opened =
    record { lock = waiting (Some 1) 3 (Seeking 1); running = None; section = Some opened }

-- it is exclusive: for a load where it runs a request, else for an unload
abbrev pub exclusive_seat : Option ℕ → ℕ → SystemRow
exclusive_seat running opened = record { lock = sharing; running = running; section = Some opened }

-- it runs a request, and is exclusive for a load
abbrev pub loading_seat : ℕ → ℕ → SystemRow
loading_seat begun opened = exclusive_seat (Some begun) opened

-- it runs nothing, and is exclusive for an unload
abbrev pub unloading_seat : ℕ → SystemRow
unloading_seat opened = exclusive_seat None opened

-- the kinds of exclusion that a seat lets go first after a release: loads, and where it ran nothing unloads too
abbrev pub list_released : Option ℕ → ℕ
list_released None = 3
list_released (Some begun) = 1

-- it was exclusive, and waits for those that go first
abbrev pub leaving_seat : Option ℕ → SystemRow
leaving_seat running = record {
  lock = waiting None (list_released running) (Releasing (list_released running));
  running = running;
  section = None;
}

-- it runs a request, and is calm and not exclusive
abbrev pub IsRunning : SystemRow → Type 0
IsRunning r = (begun : ℕ) × (r ≡ running_seat begun)

-- it runs a request, and has put its share aside
abbrev pub IsYielding : SystemRow → Type 0
IsYielding r = (begun : ℕ) × (r ≡ yielding_seat begun)

-- it seeks a load
abbrev pub IsSeeking : SystemRow → Type 0
IsSeeking r = (begun : ℕ) × ((opened : ℕ) × (r ≡ seeking_seat begun opened))

-- it is exclusive for a load
abbrev pub IsLoading : SystemRow → Type 0
IsLoading r = (begun : ℕ) × ((opened : ℕ) × (r ≡ loading_seat begun opened))

-- ROOM

-- a seat's row with so many entries and values set aside
abbrev pub with_room : SystemRow → ℕ → ℕ → PassRow
with_room r entries values = record { seat = r; entries = entries; values = values }

-- a pass that does nothing
abbrev pub at_rest : PassRow
at_rest = with_room resting 0 0
