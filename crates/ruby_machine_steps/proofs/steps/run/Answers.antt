use Rattle.std.proofs.Common.{refl, ◌∙◌, arith}
use Rattle.ruby_machine_steps.proofs.Popping.{ran, fallen}
use Rattle.ruby_machine_steps.proofs.steps.run.Goals as goal

pub returns-in-Err : goal.returns-in-Err
returns-in-Err g c =
    let i = g.P.Lookups.index c.args.program.now in
    let k = g.P.Lookups.entries c.args.program.now in
    record {
      runs = ran i k c.args.core.now c.args.now c.steps.core c.steps.next c.in-Err.stop c.step.new.core
          c.steps.invariant.keeps c.in-Err.ensures;
      falls = fallen i k c.args.core.now c.args.now c.steps.core c.steps.next c.in-Err.stop c.step.new.core
          c.steps.invariant.falls c.in-Err.ensures;
    }

pub steps-init : goal.steps-init
steps-init g c = record { keeps = refl; falls = omega arith }

pub steps-preserved : goal.steps-preserved
steps-preserved g c = record {
  keeps = c.steps.invariant.keeps ∙ c.in-Ok.ensures.0;
  falls = omega (arith, c.in-Ok.ensures.1, c.steps.invariant.falls);
}
