use Rattle.std.proofs.Common.{◌≡◌, ◌++◌, take, drop}
use Rattle.ruby_types.specs.declared.value.Value.{Value}
use Rattle.ruby_runs.specs.Bodies as spec
use Rattle.ruby_machine_state.proofs.state.variable_place.Given as goal

abbrev pub invariant-variables : goal.invariant-variables
invariant-variables l = (v : Value) → spec.set_pair l.variables l.name v
    ≡ take l.place l.variables ++ spec.set_pair (drop l.place l.variables) l.name v
