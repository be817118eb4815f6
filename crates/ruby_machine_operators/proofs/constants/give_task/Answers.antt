use Rattle.ruby_machine_names.specs.Names.{later}
use Rattle.ruby_machine_names.specs.Steps.{here_of}
use Rattle.ruby_machine_operators.proofs.constants.give_task.Goals as goal

pub returns : goal.returns
returns g c =
    let i = g.P.Lookups.index c.args.program.now in
    let k = g.P.Lookups.entries c.args.program.now in
    let m = c.args.core.now in
    c.resolved.ensures i k (later i (here_of m.here) c.args.wait c.args.value) m.turns c.resume-step.ensures
