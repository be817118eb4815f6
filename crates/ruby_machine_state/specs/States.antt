-- What code changes, as the machine keeps it.
use Rattle.std.specs.Prelude.{◌≡◌, ◌<◌, ◌++◌, ◌∷◌, [], ℕ, Bool, List, length, slice_get, slice_set, Some, bytes_eq}
use Rattle.ruby_types.specs.declared.value.Value.{Value, out-Value}
use Rattle.ruby_types.specs.declared.value.Value.TheVariants.{Sym}
use Rattle.program_places.specs.Paths.{Name}
use Rattle.ruby_runs.specs.Bodies.{State, Variables, set_pair, symbol_layer, with_local}
use Rattle.ruby_machine_state.specs.declared.state.StateCode.{StateCode}

-- a variable of an object has this name; what is no symbol has the empty one
abbrev pub has_name : Value → Name → Bool
has_name key name = bytes_eq (symbol_layer (out-Value key)) name

-- what code changes, as its meaning has it
abbrev pub state_of : StateCode → State
state_of state = record { self = state.itself; locals = state.locals.items }

-- no local has this name: an assignment comes behind the others
abbrev pub NewLocal : Variables → Name → Type 0
NewLocal locals name = (v : Value) → with_local locals name v ≡ locals ++ (name, v) ∷ []

-- the local of this name stands at this place, where an assignment puts its value
abbrev pub LocalAt : Variables → Name → ℕ → Type 0
LocalAt locals name place =
    (place < length locals) × ((v : Value) → with_local locals name v ≡ slice_set locals place (name, v))

-- no instance variable has this name
abbrev pub NewVariable : List (Value × Value) → Name → Type 0
NewVariable variables name = (v : Value) → set_pair variables name v ≡ variables ++ (Sym name, v) ∷ []

-- the instance variable of this name stands at this place
abbrev pub VariableAt : List (Value × Value) → Name → ℕ → Type 0
VariableAt variables name place = (place < length variables) × ((pair : Value × Value) (v : Value) →
    slice_get variables place ≡ Some pair → set_pair variables name v ≡ slice_set variables place (pair.0, v))
