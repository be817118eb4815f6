-- What contracts see of the objects in memory.
use Rattle.std.specs.Prelude.{ℕ, List, Bool}
use Rattle.outside.specs.CallState.{CallState}

-- a source: the bytes that are left, the greatest piece of a read, its calls
pub record SourceState : Type 0 where
  pub left : List ℕ
  pub piece : ℕ
  pub calls : CallState

-- a sink: the bytes that were written, whether some write found no memory for its bytes, its calls
pub record SinkState : Type 0 where
  pub written : List ℕ
  pub starved : Bool
  pub calls : CallState
