use Rattle.ruby_machine_methods.proofs.Finds.{instance_asks_at_path}
use Rattle.ruby_machine_methods.proofs.instances.without_own.Goals as goal

pub returns-then-asks_ancestors : goal.returns-then-asks_ancestors
returns-then-asks_ancestors g c =
    instance_asks_at_path (g.P.Lookups.index c.args.program.now) c.args.path.now c.args.name.now c.requires
    (rw c.if-asks_ancestors.true at c.asks_ancestors.ensures)
