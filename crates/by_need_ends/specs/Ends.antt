-- What a load still has before it.
use Rattle.std.specs.Prelude.{List, ◌++◌, Option, Bool}
use Rattle.by_need.specs.Order.{Load}
use Rattle.by_need.specs.Rounds.{Rules}

-- A load of t over the table J, which has defined these values, still defines some more, in a load's order, and then
-- comes to its end (true) or fails (false).
pub record ComesToEnd {T V E O : Type 0} (r : Rules T V E O) (J : T → Option V) (t : T)
    (made : List (T × V)) : Type 0 where
  pub ahead : List (T × V)
  pub table : T → Option V
  pub done : Bool
  pub order : Load r J t (made ++ ahead) table done
