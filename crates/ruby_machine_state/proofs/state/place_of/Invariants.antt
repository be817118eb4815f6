use Rattle.std.proofs.Common.{◌≡◌, ◌++◌, take, drop}
use Rattle.ruby_types.specs.declared.value.Value.{Value}
use Rattle.ruby_runs.specs.Bodies as spec
use Rattle.ruby_machine_state.proofs.state.place_of.Given as goal

abbrev pub invariant-locals : goal.invariant-locals
invariant-locals l = (v : Value) → spec.with_local l.locals l.name v
    ≡ take l.place l.locals ++ spec.with_local (drop l.place l.locals) l.name v
