-- Links: one that was not used yet, and what contracts see of one in memory.
use Rattle.std.specs.Prelude.{◌≡◌, ℕ, List, [], Option, Bool, IfSome}
use Rattle.outside.specs.CallState.{CallState}

-- Nothing was read from the link or written to it, as far as it tells, and no call of it failed.
pub record IsUnused (read_faults write_faults : ℕ) (was_read was_written : Option (List ℕ)) : Type 0 where
  pub reads : read_faults ≡ 0
  pub writes : write_faults ≡ 0
  pub nothing_read : IfSome was_read (λ bytes. bytes ≡ [])
  pub nothing_written : IfSome was_written (λ bytes. bytes ≡ [])

-- A link in memory: the bytes that were read, those that are left, those that were written, the greatest piece of a
-- read, whether some write found no memory for its bytes, its calls, and how many of its reads and of its writes
-- failed.
pub record LinkState : Type 0 where
  pub was_read : List ℕ
  pub left : List ℕ
  pub written : List ℕ
  pub piece : ℕ
  pub starved : Bool
  pub calls : CallState
  pub read_faults : ℕ
  pub write_faults : ℕ
