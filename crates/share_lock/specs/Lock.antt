-- The whole lock, and what its calls make of it.
use Rattle.std.specs.Prelude.{◌≡◌, ℕ, ◌+◌, ◌-◌, ◌<◌, ◌≤◌, ◌==◌, Bool, true, false, ◌||◌, if◌then◌else◌, List, length}
use Rattle.std.specs.Prelude.{replicate, Option, Some, None, is_some, slice_set, All}
use Rattle.share_lock.specs.declared.seat.Wait.{Wait}
use Rattle.share_lock.specs.declared.seat.Phase.{Phase}
use Rattle.share_lock.specs.declared.seat.Phase.TheVariants.{Calm, Seeking, Releasing}
use Rattle.share_lock.specs.declared.seat.Row.{Row}
use Rattle.share_lock.specs.Rows.{resting_row, row_at, holds_shares, another, another_exclusive, busy_share, eligible}
use Rattle.share_lock.specs.Rows.{yielding, restoring, in_phase}

-- the rows of all seats, the exclusive seat, and how many times over it is exclusive, which is 0 where none is
pub record Lock : Type 0 where
  pub rows : List Row
  pub exclusive : Option ℕ
  pub depth : ℕ

-- a lock whose seats do nothing
abbrev pub lock_at_rest : ℕ → Lock
lock_at_rest seats = record { rows = replicate seats resting_row; exclusive = None; depth = 0 }

-- the seat is the exclusive one
abbrev pub owns : Option ℕ → ℕ → Bool
owns None seat = false
owns (Some owner) seat = owner == seat

-- the row of a seat
abbrev pub row_of : Lock → ℕ → Row
row_of lock seat = row_at lock.rows seat

-- the same lock, with this change of the seat's own row: the other rows, the exclusive seat and the depth stay
abbrev pub changed_at : Lock → ℕ → (Row → Row) → Lock
changed_at lock seat change = record lock { rows = slice_set lock.rows seat (change (row_of lock seat)) }

-- the same rows, with this seat exclusive once
abbrev pub taken_by : ℕ → Lock → Lock
taken_by seat lock = record lock { exclusive = Some seat; depth = 1 }

-- the same rows, with no seat exclusive
abbrev pub released : Lock → Lock
released lock = record lock { exclusive = None; depth = 0 }

-- A seat that has shares or is exclusive is never refused another share. One that waits is refused where another seat
-- is exclusive, and any other one where a new share is busy.
abbrev pub refuses_share : List Row → Option ℕ → ℕ → Bool
refuses_share rows exclusive seat =
    if holds_shares (row_at rows seat) || owns exclusive seat then false
    else if is_some (row_at rows seat).wait then another_exclusive exclusive seat
    else busy_share rows exclusive seat 7

-- a seat that released waits on: some seat is exclusive, or one can still go first
abbrev pub holds_back : List Row → Option ℕ → ℕ → Bool
holds_back rows exclusive list = is_some exclusive || eligible list rows

-- THE SEAT'S OWN ROW, what a call makes of it

-- one share more
abbrev pub with_share : Row → Row
with_share row = record row { shares = row.shares + 1 }

-- one share less
abbrev pub without_share : Row → Row
without_share row = record row { shares = row.shares - 1 }

-- a wait for a purpose, which admits what is in the list
abbrev pub wait_for : Option ℕ → ℕ → Wait
wait_for purpose list = record { purpose = purpose; list = list }

-- it yields to seats whose purposes are in the list, blocks new shares, and seeks to be exclusive
abbrev pub seeking : ℕ → ℕ → Row → Row
seeking purpose list row = in_phase (Seeking purpose) (yielding row (wait_for (Some purpose) list) true)

-- it was exclusive and lets seats with purposes in the list go first
abbrev pub releasing : ℕ → Row → Row
releasing list row = in_phase (Releasing list) (yielding row (wait_for None list) true)

-- it yields, admits new shares, and stays calm
abbrev pub yielded : ℕ → Row → Row
yielded list row = in_phase Calm (yielding row (wait_for None list) false)

-- it took back what it put aside last, and is calm
abbrev pub restored : Row → Row
restored row = in_phase Calm (restoring row)

-- WHAT EVERY LOCK KEEPS

-- While a seat waits to be exclusive or to have released, it has no shares, and its own yield to take back.
abbrev pub FitsPhase : Phase → Row → Type 0
FitsPhase Calm row = Unit {0}
FitsPhase (Seeking purpose) row = (purpose ≤ 6) × (row.shares ≡ 0) × (0 < length row.yields)
FitsPhase (Releasing list) row = (row.shares ≡ 0) × (0 < length row.yields)

-- the row is one that its phase allows
abbrev pub IsPlausible : Row → Type 0
IsPlausible row = FitsPhase row.phase row

-- The exclusive seat has a row, is calm, is exclusive one to 1,000 times over, and no other seat has shares.
pub record IsAlone (rows : List Row) (owner depth : ℕ) : Type 0 where
  pub seated : owner < length rows
  pub calm : (row_at rows owner).phase ≡ Calm
  pub deep : (0 < depth) × (depth ≤ 1000)
  pub alone : another holds_shares rows owner ≡ false

-- where no seat is exclusive the depth is 0, and an exclusive one is alone
abbrev pub FitsOwner : Option ℕ → List Row → ℕ → Type 0
FitsOwner None rows depth = depth ≡ 0
FitsOwner (Some owner) rows depth = IsAlone rows owner depth

-- 1 to 64 rows, each one that its phase allows, and an exclusive seat that is alone
pub record IsSound (lock : Lock) : Type 0 where
  pub seats : (0 < length lock.rows) × (length lock.rows ≤ 64)
  pub rows : All IsPlausible lock.rows
  pub owner : FitsOwner lock.exclusive lock.rows lock.depth
