use Rattle.std.proofs.Common.{◌≡◌, drop}
use Rattle.ruby_runs.specs.Bodies as spec
use Rattle.ruby_machine_state.proofs.state.variable_in.Given as goal

abbrev pub invariant-variables : goal.invariant-variables
invariant-variables l = spec.ivar_in (drop l.key-index l.variables) l.name ≡ spec.ivar_in l.variables l.name
