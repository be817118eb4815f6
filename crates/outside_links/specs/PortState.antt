-- What contracts see of a port in memory.
use Rattle.std.specs.Prelude.{ℕ, List, Bool}
use Rattle.outside.specs.CallState.{CallState}

-- the links that are left, how many it gave, whether it has answered End, its calls
pub record PortState (L : Type 0) : Type 0 where
  pub left : List L
  pub given : ℕ
  pub ended : Bool
  pub calls : CallState
