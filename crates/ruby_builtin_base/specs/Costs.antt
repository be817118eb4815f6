-- What a call of a built-in method costs, by the sizes of what it touches.
use Rattle.std.specs.Prelude.{ℕ, ◌+◌, ◌-◌, ◌/◌, ◌^◌, min, List, map}
use Rattle.std.specs.List.{sum}
use Rattle.ruby_types.specs.Size.{size}
use Rattle.ruby_types.specs.declared.value.Value.{Value}

-- the sizes of a receiver and of arguments together
abbrev pub call_sizes : Value → List Value → ℕ
call_sizes on args = size on + sum (map size args)

-- The cost of a call in turns: a sixteenth of the sizes of all that it touches and of what it makes, of which 2^64 - 1
-- count at most.
abbrev pub cost : ℕ → ℕ → ℕ
cost touched made = min (touched + made) (2 ^ 64 - 1) / 16
