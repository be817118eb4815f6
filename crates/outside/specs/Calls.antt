-- How the calls of an object in memory are counted.
use Rattle.std.specs.Prelude.{ℕ, ◌+◌, min, Bool, true, false, Contains}
use Rattle.outside.specs.CallState.{CallState, most}

-- one more, or the same at the end
abbrev pub one_more : ℕ → ℕ
one_more n = min (n + 1) most

-- the number of the next call is among those that are to fail
abbrev pub IsDue : CallState → Type 0
IsDue calls = Contains calls.fails (one_more calls.made)

-- the calls after one more
abbrev pub counted : (failed : Bool) → CallState → CallState
counted true calls = record { fails = calls.fails; made = one_more calls.made; faults = one_more calls.faults }
counted false calls = record { fails = calls.fails; made = one_more calls.made; faults = calls.faults }
