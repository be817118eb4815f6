-- What every state of the seats that events can reach keeps: each row has one of ten shapes, and at most one seat is
-- exclusive.
use Rattle.std.specs.Prelude.{◌≡◌, ◌≢◌, ℕ, Bool, true, false, if◌then◌else◌, Option, Some, None, is_some, [], ◌∷◌}
use Rattle.std.specs.Prelude.{length}
use Rattle.share_lock.specs.declared.seat.Row.{Row}
use Rattle.share_lock.specs.declared.seat.Phase.{Phase}
use Rattle.share_lock.specs.declared.seat.Phase.TheVariants.{Calm, Seeking, Releasing}
use Rattle.share_lock.specs.Rows.{resting_row}
use Rattle.system_seats.specs.Seats.{Seats, Marks, row, mark, is_owner}

-- The ten shapes. In the columns: shares; what the seat waits for and admits; the yield that is open; the phase; its
-- section; whether it runs a request; whether it is exclusive. Y is one share put aside.
--
-- | Shape | shares | waits | yields | phase | section | runs | exclusive |
-- |---|---|---|---|---|---|---|---|
-- | Rests | 0 | no | no | Calm | no | no | no |
-- | Shares | 1 | no | no | Calm | no | no | no |
-- | Runs | 1 | no | no | Calm | no | yes | no |
-- | Yields | 0 | for nothing, admits loads and new shares | Y | Calm | no | yes | no |
-- | SeeksLoad | 0 | for a load, admits loads | Y | Seeking | load | yes | no |
-- | SeeksUnload | 0 | for an unload, admits loads and unloads | Y | Seeking | unload | no | no |
-- | Loads | 1 | no | no | Calm | load | yes | yes |
-- | Unloads | 1 | no | no | Calm | unload | no | yes |
-- | LeavesLoad | 0 | for nothing, admits loads | Y | Releasing | no | yes | no |
-- | LeavesUnload | 0 | for nothing, admits loads and unloads | Y | Releasing | no | no | no |
pub data Shape : Type 0 where
  Rests : Shape
  Shares : Shape
  Runs : Shape
  Yields : Shape
  SeeksLoad : Shape
  SeeksUnload : Shape
  Loads : Shape
  Unloads : Shape
  LeavesLoad : Shape
  LeavesUnload : Shape

-- calm, with one share
abbrev pub sharing : Row
sharing = record { shares = 1; wait = None; yields = []; phase = Calm }

-- without shares, one share put aside
abbrev pub waiting : Option ℕ → ℕ → Phase → Row
waiting purpose list phase = record {
  shares = 0;
  wait = Some (record { purpose = purpose; list = list });
  yields = record { shares = 1; wait = None } ∷ [];
  phase = phase;
}

-- the row of the column shares to phase
abbrev pub shape_row : Shape → Row
shape_row Rests = resting_row
shape_row Shares = sharing
shape_row Runs = sharing
shape_row Yields = waiting None 129 Calm
shape_row SeeksLoad = waiting (Some 0) 1 (Seeking 0)
shape_row SeeksUnload = waiting (Some 1) 3 (Seeking 1)
shape_row Loads = sharing
shape_row Unloads = sharing
shape_row LeavesLoad = waiting None 1 (Releasing 1)
shape_row LeavesUnload = waiting None 3 (Releasing 3)

-- whether a seat of the shape runs a request
abbrev pub shape_runs : Shape → Bool
shape_runs Rests = false
shape_runs Shares = false
shape_runs Runs = true
shape_runs Yields = true
shape_runs SeeksLoad = true
shape_runs SeeksUnload = false
shape_runs Loads = true
shape_runs Unloads = false
shape_runs LeavesLoad = true
shape_runs LeavesUnload = false

-- whether it has a section
abbrev pub shape_section : Shape → Bool
shape_section Rests = false
shape_section Shares = false
shape_section Runs = false
shape_section Yields = false
shape_section SeeksLoad = true
shape_section SeeksUnload = true
shape_section Loads = true
shape_section Unloads = true
shape_section LeavesLoad = false
shape_section LeavesUnload = false

-- whether it is exclusive
abbrev pub shape_owns : Shape → Bool
shape_owns Rests = false
shape_owns Shares = false
shape_owns Runs = false
shape_owns Yields = false
shape_owns SeeksLoad = false
shape_owns SeeksUnload = false
shape_owns Loads = true
shape_owns Unloads = true
shape_owns LeavesLoad = false
shape_owns LeavesUnload = false

-- a seat's row, its places and whether it is exclusive are those of the shape
pub record Fits (shape : Shape) (r : Row) (m : Marks) (exclusive : Bool) : Type 0 where
  pub row : r ≡ shape_row shape
  pub running : is_some m.running ≡ shape_runs shape
  pub section : is_some m.section ≡ shape_section shape
  pub owner : exclusive ≡ shape_owns shape

-- a seat has one of the shapes
pub record HasShape (r : Row) (m : Marks) (exclusive : Bool) : Type 0 where
  pub shape : Shape
  pub fits : Fits shape r m exclusive

-- what every state of the seats keeps
pub record IsTidy (s : Seats) : Type 0 where
  pub even : length s.marks ≡ length s.lock.rows
  pub shapes : (k : ℕ) → HasShape (row s k) (mark s k) (is_owner s k)
  -- beside an exclusive seat no other one has shares
  pub alone : (owner k : ℕ) → is_owner s owner ≡ true → k ≢ owner → (row s k).shares ≡ 0
  -- beside a seat that unloads none runs
  pub quiet : (owner k : ℕ) → is_owner s owner ≡ true → (mark s owner).running ≡ None → (mark s k).running ≡ None
  -- no seat is exclusive twice over
  pub once : s.lock.depth ≡ (if is_some s.lock.exclusive then 1 else 0)
