use Rattle.tree_scan_names.proofs.WithinLaws.{way_step}
use Rattle.tree_scan_names.proofs.CountLaws.{passed-inside, passed-next, passed-end, passed-found}
use Rattle.tree_scan_names.proofs.counts.is_passed_over.Goals as goal

pub returns-then-is_passed : goal.returns-then-is_passed
returns-then-is_passed c =
    let step = c.step_below-step in
    c.steps.invariant.back (passed-found c.args.rules.now c.steps.directory.now step.result.name.now
    c.steps.left.now step.result.place.now step.result.below
    step.ensures.piece step.ensures.parts step.ensures.place c.if-is_passed.ensures)

pub returns-in_default : goal.returns-in_default
returns-in_default c =
    let step = c.step_below-step in
    let whole = rw c.in_default.is at step.ensures.parts in
    λ h. passed-end c.args.rules.now c.steps.directory.now step.result.name.now c.steps.left.now step.result.place.now
    step.ensures.piece whole step.ensures.place c.if-is_passed.ensures (c.steps.invariant.on h)

pub steps-preserved : goal.steps-preserved
steps-preserved c =
    let step = c.step_below-step in
    let cut = rw c.in-Some.is at step.ensures.parts in
    record {
      way = way_step c.args.path.now c.steps.directory.now c.steps.left.now step.result.name.now
          step.result.place.now c.in-Some.rest.now c.steps.invariant.way cut step.ensures.place;
      back = λ h. c.steps.invariant.back
          (passed-inside c.args.rules.now c.steps.directory.now step.result.name.now c.in-Some.rest.now
          c.steps.left.now step.result.place.now step.ensures.piece cut step.ensures.place h);
      on = λ h. passed-next c.args.rules.now c.steps.directory.now step.result.name.now c.in-Some.rest.now
          c.steps.left.now step.result.place.now step.ensures.piece cut step.ensures.place c.if-is_passed.ensures
          (c.steps.invariant.on h);
    }
