use Rattle.std.proofs.Common.{true}
use Rattle.ruby_machine_names.specs.Names.{begun}
use Rattle.ruby_machine_names.specs.Steps.{here_of}
use Rattle.ruby_machine_operators.proofs.constants.name_begun.Goals as goal

pub returns : goal.returns
returns g c =
    let i = g.P.Lookups.index c.args.program.now in
    let k = g.P.Lookups.entries c.args.program.now in
    let m = c.args.core.now in
    c.resolved.ensures i k (begun i (here_of m.here) true c.args.constant.now.top c.args.constant.now.path) m.turns
    c.resolve_begun-step.ensures
