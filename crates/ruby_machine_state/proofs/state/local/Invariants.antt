use Rattle.std.proofs.Common.{◌≡◌, drop}
use Rattle.ruby_runs.specs.Bodies as spec
use Rattle.ruby_machine_state.proofs.state.local.Given as goal

abbrev pub invariant-locals : goal.invariant-locals
invariant-locals l = spec.local_of (drop l.own-index l.locals) l.name ≡ spec.local_of l.locals l.name
