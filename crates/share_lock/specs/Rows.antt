-- The rows of a share lock, one for each seat, after ActiveSupport's ShareLock, whose threads are the seats here.
use Rattle.std.specs.Prelude.{ℕ, ◌-◌, zero, suc, nat_lt, ◌==◌, bit_and, bit_or, Bool, true, false, not, ◌&&◌, ◌||◌}
use Rattle.std.specs.Prelude.{if◌then◌else◌, List, [], ◌∷◌, ◌++◌, length, take, Option, Some, None, is_none}
use Rattle.std.specs.Prelude.{slice_index_or}
use Rattle.std.specs.Int.{bit_at}
use Rattle.std.specs.List.{list_any, enumerate_from}
use Rattle.share_lock.specs.declared.seat.Wait.{Wait}
use Rattle.share_lock.specs.declared.seat.Saved.{Saved}
use Rattle.share_lock.specs.declared.seat.Phase.{Phase}
use Rattle.share_lock.specs.declared.seat.Phase.TheVariants.{Calm}
use Rattle.share_lock.specs.declared.seat.Row.{Row}

-- A list is a number of eight bits: bit p admits the purpose p, bit 7 new shares.
abbrev pub has_bit : ℕ → ℕ → Bool
has_bit list bit = bit_at list bit == 1

-- the row of a seat that does nothing
abbrev pub resting_row : Row
resting_row = record { shares = 0; wait = None; yields = []; phase = Calm }

-- the row of a seat; beyond the end nothing is done
abbrev pub row_at : List Row → ℕ → Row
row_at rows seat = slice_index_or rows seat resting_row

-- the seat shares
abbrev pub holds_shares : Row → Bool
holds_shares row = nat_lt 0 row.shares

-- a wait with a list that lacks the bit
abbrev pub lacks_bit : Option Wait → ℕ → Bool
lacks_bit None bit = false
lacks_bit (Some wait) bit = not (has_bit wait.list bit)

-- the seat waits with a list that lacks the bit
abbrev pub waits_without : ℕ → Row → Bool
waits_without bit row = lacks_bit row.wait bit

-- the row of some seat other than this one passes the test
abbrev pub another : (Row → Bool) → List Row → ℕ → Bool
another test [] seat = false
another test (row ∷ rows) zero = list_any test rows
another test (row ∷ rows) (suc seat) = test row || another test rows seat

-- BUSY: what keeps a seat from a share, and from being exclusive

-- a seat other than this one is exclusive
abbrev pub another_exclusive : Option ℕ → ℕ → Bool
another_exclusive None seat = false
another_exclusive (Some owner) seat = not (owner == seat)

-- another seat is exclusive, or another seat waits with a list that lacks the bit
abbrev pub busy_share : List Row → Option ℕ → ℕ → ℕ → Bool
busy_share rows exclusive seat bit = another_exclusive exclusive seat || another (waits_without bit) rows seat

-- busy for a share of that bit, or another seat has shares
abbrev pub busy_exclusive : List Row → Option ℕ → ℕ → ℕ → Bool
busy_exclusive rows exclusive seat purpose = busy_share rows exclusive seat purpose || another holds_shares rows seat

-- ELIGIBLE: whether a seat that was exclusive lets others go first

-- what a seat waits for, if it waits for something of its own
abbrev pub purpose_of : Option Wait → Option ℕ
purpose_of None = None
purpose_of (Some wait) = wait.purpose

-- the purpose is in the list, and every waiting seat's list but this seat's has that purpose
abbrev pub is_open_to : ℕ → List Row → ℕ → Option ℕ → Bool
is_open_to list rows seat None = false
is_open_to list rows seat (Some purpose) = has_bit list purpose && not (another (waits_without purpose) rows seat)

-- some seat waits with a purpose in the list, and every other waiting seat's list has that purpose
abbrev pub eligible : ℕ → List Row → Bool
eligible list rows = list_any (λ place. is_open_to list rows place.0 (purpose_of place.1.wait)) (enumerate_from 0 rows)

-- YIELDING AND RESTORING

-- what a yield of a seat without shares puts aside
abbrev pub nothing_saved : Saved
nothing_saved = record { shares = 0; wait = None }

-- it was put aside by a seat without shares
abbrev pub is_nothing : Saved → Bool
is_nothing saved = saved.shares == 0 && is_none saved.wait

-- the purpose, if both have it
abbrev pub common_purpose : Option ℕ → Option ℕ → Option ℕ
common_purpose None purpose = None
common_purpose (Some outer) None = None
common_purpose (Some outer) (Some purpose) = if outer == purpose then Some purpose else None

-- A wait inside another one has a purpose only where it is that one's too, and a list of what both admit.
abbrev pub wait_inside : Option Wait → Wait → Wait
wait_inside None wait = wait
wait_inside (Some outer) wait =
    record { purpose = common_purpose outer.purpose wait.purpose; list = bit_and wait.list outer.list }

-- a wait that doesn't block new shares admits them
abbrev pub wait_admitting : Bool → Wait → Wait
wait_admitting true wait = wait
wait_admitting false wait = record wait { list = bit_or wait.list 128 }

-- The seat puts its shares and its wait aside, and waits. The last argument says whether it blocks new shares.
-- Without shares it puts nothing aside, and stays as it is.
abbrev pub yielding : Row → Wait → Bool → Row
yielding row wait blocks =
    if row.shares == 0
    then record row { yields = row.yields ++ nothing_saved ∷ [] }
    else record {
      shares = 0;
      wait = Some (wait_admitting blocks (wait_inside row.wait wait));
      yields = row.yields ++ (record { shares = row.shares; wait = row.wait }) ∷ [];
      phase = row.phase;
    }

-- the last that was put aside
abbrev pub last_saved : Row → Saved
last_saved row = slice_index_or row.yields (length row.yields - 1) nothing_saved

-- The last that was put aside comes back: its shares and its wait, or nothing.
abbrev pub restoring : Row → Row
restoring row =
    let rest_of = take (length row.yields - 1) row.yields in
    if is_nothing (last_saved row)
    then record row { yields = rest_of }
    else record { shares = (last_saved row).shares; wait = (last_saved row).wait; yields = rest_of; phase = row.phase }

-- the same row, in this phase
abbrev pub in_phase : Phase → Row → Row
in_phase phase row = record row { phase = phase }
