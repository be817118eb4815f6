use Rattle.std.proofs.Common.{arith, ◌<◌, length}
use Rattle.by_need_loader.proofs.Rings.{task_at, starts_least, keeps_least, takes_least, ends_least}
use Rattle.by_need_loader.proofs.ring.least_place.Goals as goal

pub loop-i-init : goal.loop-i-init
loop-i-init g c = record {
  within = omega arith;
  least = λ all. starts_least (g.Y.Theory.rules c.args.theory.now) (g.Y.Theory.laws c.args.theory.now)
      c.args.tasks.now;
}

pub loop-i-preserved : goal.loop-i-preserved
loop-i-preserved g c =
    let r = g.Y.Theory.rules c.args.theory.now in
    let ts = c.args.tasks.now in
    let l = c.loop-i.invariant.within in
    let lt : c.loop-i.best < length ts = omega (arith, l, c.loop-i-test.true) in
    record {
      within = omega arith;
      least = λ all. takes_least r (g.Y.Theory.laws c.args.theory.now) ts c.loop-i.best c.loop-i.i
          c.index-tasks-best.result c.index-tasks-i.result c.at_most.result c.index-tasks-best.is c.index-tasks-i.is l
          c.loop-i-test.true
          (c.at_most.ensures (task_at r ts c.loop-i.best _ all lt c.index-tasks-best.is)
          (task_at r ts c.loop-i.i _ all c.loop-i-test.true c.index-tasks-i.is)) (c.loop-i.invariant.least all)
          c.if-at_most.false;
    }

pub loop-i-preserved-then-at_most : goal.loop-i-preserved-then-at_most
loop-i-preserved-then-at_most g c =
    let r = g.Y.Theory.rules c.args.theory.now in
    let ts = c.args.tasks.now in
    let l = c.loop-i.invariant.within in
    let lt : c.loop-i.best < length ts = omega (arith, l, c.loop-i-test.true) in
    record {
      within = omega (arith, l);
      least = λ all. keeps_least r (g.Y.Theory.laws c.args.theory.now) ts c.loop-i.best c.loop-i.i
          c.index-tasks-best.result c.index-tasks-i.result c.at_most.result c.index-tasks-best.is c.index-tasks-i.is l
          c.loop-i-test.true
          (c.at_most.ensures (task_at r ts c.loop-i.best _ all lt c.index-tasks-best.is)
          (task_at r ts c.loop-i.i _ all c.loop-i-test.true c.index-tasks-i.is)) (c.loop-i.invariant.least all)
          c.if-at_most.true;
    }

pub returns-clause-least : goal.returns-clause-least
returns-clause-least g c = λ all. ends_least (g.Y.Theory.rules c.args.theory.now).at_most c.args.tasks.now
    c.loop-i.best c.loop-i.i c.loop-i-test.false (c.loop-i.invariant.least all)
