use Rattle.std.proofs.Common.{◌≡◌, take}
use Rattle.ruby_runs.specs.Bodies as spec
use Rattle.ruby_machine_state.proofs.state.bind.Given as goal

abbrev pub invariant-params : goal.invariant-params
invariant-params l = l.locals.items ≡ spec.bound (take l.at l.params) (take l.at l.args)
