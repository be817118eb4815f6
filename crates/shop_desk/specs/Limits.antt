-- What a fault of a begin tells.
use Rattle.std.specs.Prelude.{◌≡◌, Option, Some, ⊤}
use Rattle.system_seats.specs.declared.guard.Guard.{Guard}
use Rattle.system_seats.specs.declared.guard.Guard.TheVariants as guard
use Rattle.shop_desk.specs.declared.running.BeginFault.{BeginFault}
use Rattle.shop_desk.specs.declared.running.BeginFault.TheVariants.{RequestsFull, RepliesFull, Memory}

-- The fault is this limit. Want of memory tells nothing.
abbrev pub IsLimit : Option Guard → BeginFault → Type 0
IsLimit limit (RequestsFull n) = limit ≡ Some (guard.RequestsFull n)
IsLimit limit (RepliesFull n) = limit ≡ Some (guard.RepliesFull n)
IsLimit limit Memory = ⊤
