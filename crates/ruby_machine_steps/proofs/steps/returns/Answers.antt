use Rattle.ruby_machine_steps.proofs.Popping.{returns_kept}
use Rattle.ruby_machine_steps.proofs.steps.returns.Goals as goal

pub returns-in-Some : goal.returns-in-Some
returns-in-Some g c =
    returns_kept (g.P.Lookups.index c.args.program.now) (g.P.Lookups.entries c.args.program.now) c.args.core.now
    c.pop.new.self c.in-Some.frame c.pass.result c.pass.new.core c.args.value c.in-Some.ensures.items c.pass.ensures
