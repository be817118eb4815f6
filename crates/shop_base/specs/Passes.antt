-- What contracts see of a pass, and what its turns do.
use Rattle.std.specs.Prelude.{◌≡◌, ℕ, ◌+◌, ◌==◌, if◌then◌else◌, List, [], ◌∷◌, ◌++◌, Option}
use Rattle.turn_lock.specs.Entries.{NoneOf}
use Rattle.turn_lock.specs.Tickets.{LockId}
use Rattle.system_events.specs.declared.event.Entry.{Entry}
use Rattle.system_events.specs.declared.event.Kept.{Kept}
use Rattle.system_events.specs.declared.event.Kept.TheVariants.{Begin}
use Rattle.system_events.specs.Facts.{Facts}
use Rattle.system_events.specs.State.{State}
use Rattle.system_events.specs.Legal.{after, IsLegal}
use Rattle.shop_base.specs.declared.row.PassRow.{PassRow}
use Rattle.shop_base.specs.Rows.{seat_row, at_rest}

-- what contracts see of a pass
pub record PassView (M T V P Q R F : Type 0) : Type 0 where
  -- the shop that it is of
  pub shop : LockId
  pub number : ℕ
  -- in the pass of number 0, the next number that it gives
  pub next : ℕ
  -- the history as far as it has seen it
  pub seen : List (Entry M T V P Q R F)
  -- its seat's row, and the room that is set aside for it
  pub row : PassRow
  -- while it seeks a load, the task
  pub sought : Option T

-- there are 64 seats
abbrev pub seat_limit : ℕ
seat_limit = 64

module _ {M T V P Q R F : Type 0} where
  -- an entry of a seat
  abbrev pub entry : ℕ → Kept M T V P Q R F → Entry M T V P Q R F
  entry k kept = record { seat = k; kept = kept }

  -- the seat of an entry
  abbrev pub seat_of : Entry M T V P Q R F → ℕ
  seat_of e = e.seat

  -- the acts of a seat, in order
  abbrev pub own : ℕ → List (Entry M T V P Q R F) → List (Kept M T V P Q R F)
  own k [] = []
  own k (e ∷ es) = if e.seat == k then (e.kept ∷ own k es) else own k es

  -- an act that begins a request counts
  abbrev pub begins_of : Kept M T V P Q R F → ℕ
  begins_of (Begin request) = 1
  begins_of _ = 0

  -- how many requests a seat has begun
  abbrev pub begins : ℕ → List (Entry M T V P Q R F) → ℕ
  begins k [] = 0
  begins k (e ∷ es) = (if e.seat == k then begins_of e.kept else 0) + begins k es

  -- The same pass, with this row and this history seen. It seeks what it sought.
  abbrev pub moved : PassView M T V P Q R F → PassRow → List (Entry M T V P Q R F) → PassView M T V P Q R F
  moved p row seen = record p { row = row; seen = seen }

  -- a turn with an event: what was seen before, entries of other seats, and then this act of the seat
  pub record Made (k : ℕ) (kept : Kept M T V P Q R F) (before now : List (Entry M T V P Q R F)) : Type 0 where
    pub between : List (Entry M T V P Q R F)
    pub is : now ≡ (before ++ between) ++ entry k kept ∷ []
    pub none : NoneOf seat_of k between

  -- several turns: what was seen before, and then entries of which these acts are the seat's own
  pub record Gains (k : ℕ) (kepts : List (Kept M T V P Q R F)) (before now : List (Entry M T V P Q R F)) : Type 0 where
    pub more : List (Entry M T V P Q R F)
    pub is : now ≡ before ++ more
    pub acts : own k more ≡ kepts

  -- a pass of this shop, at rest
  abbrev pub IsReady : LockId → PassView M T V P Q R F → Type 0
  IsReady shop p = (p.shop ≡ shop) × (p.row ≡ at_rest)

module _ {M T V P Q R F : Type 0} (f : Facts T V P Q R F) where
  -- the state of the system after what the pass has seen
  abbrev pub seen_state : PassView M T V P Q R F → State M T V P Q R F
  seen_state p = after f seat_limit p.seen

  -- What every pass keeps: what it has seen is a legal history, and its row is the one that the seat has after it.
  pub record IsPass (p : PassView M T V P Q R F) : Type 0 where
    pub legal : IsLegal f seat_limit p.seen
    pub row : p.row.seat ≡ seat_row (after f seat_limit p.seen).seats p.number
