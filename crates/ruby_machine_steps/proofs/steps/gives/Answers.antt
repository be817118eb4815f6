use Rattle.ruby_machine_steps.proofs.Popping.{gives_kept}
use Rattle.ruby_machine_steps.proofs.steps.gives.Goals as goal

pub returns-in-Some : goal.returns-in-Some
returns-in-Some g c =
    gives_kept (g.P.Lookups.index c.args.program.now) (g.P.Lookups.entries c.args.program.now) c.args.core.now
    c.pop.new.self c.in-Some.frame c.give.result c.give.new.core c.args.value c.in-Some.ensures.items c.give.ensures
