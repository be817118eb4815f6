use Rattle.shop_base.specs.Passes.{IsPass}
use Rattle.pass_loads.specs.Loading.{LoadsOn, HasLoader, left_of}
use Rattle.pass_loads.proofs.section.define_all.Given as goal

abbrev pub invariant-steps : goal.invariant-steps
invariant-steps g l = record {
  on : LoadsOn g.M.Matter.facts l.initial.pass l.pass;
  is : IsPass g.M.Matter.facts l.pass;
  has : HasLoader g.M.Matter.facts (g.Y.Theory.rules l.theory) (g.Y.Program.runs l.theory) l.pass l.fn.task l.loader;
}

abbrev pub decreases-steps : goal.decreases-steps
decreases-steps g l =
    left_of g.M.Matter.facts (g.Y.Theory.rules l.theory) (g.Y.Program.runs l.theory) l.pass l.loader
