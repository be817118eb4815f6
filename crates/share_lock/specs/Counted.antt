-- The counts that the rows of a lock are kept with.
use Rattle.std.specs.Prelude.{◌≡◌, ℕ, ◌<◌, Bool, cond, List, slice_index, count_by}
use Rattle.share_lock.specs.declared.counts.Counts.{Counts}
use Rattle.share_lock.specs.declared.seat.Row.{Row}
use Rattle.share_lock.specs.Rows.{holds_shares, waits_without}

-- what one row adds to the count of a test
abbrev pub count_one : (Row → Bool) → Row → ℕ
count_one test row = cond (test row) 1 0

-- how many rows hold shares, and how many wait without each bit
pub record IsCountOf (rows : List Row) (counts : Counts) : Type 0 where
  pub sharing : counts.sharing ≡ count_by holds_shares rows
  pub lacking : (bit : ℕ) → bit < 8 → slice_index counts.lacking bit ≡ count_by (waits_without bit) rows
