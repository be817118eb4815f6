-- What a shared list holds: nothing, or a list that it shares.
use Rattle.std.specs.Prelude.{List, [], Option, Some, None}

-- the members of the list that is shared, and none where nothing is held
abbrev pub members : {T : Type 0} → Option (List T) → List T
members None = []
members (Some list) = list
