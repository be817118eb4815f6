use Rattle.ruby_machine_ancestors.specs.Ancestors.{waited}
use Rattle.ruby_machine_ancestors.proofs.run.resume.Goals as goal

pub returns-in-Ok : goal.returns-in-Ok
returns-in-Ok g c =
    let wait = c.args.wait in
    c.step.ensures (waited (g.P.Lookups.index c.args.program.now) wait.run.file wait.role wait.awaits c.args.value)
    wait.run.turns c.in-Ok.ensures
