use Rattle.eager_plan.specs.Chosen.{IsChosen, AreChosen}
use Rattle.eager_plan.proofs.plan.chosen_files.Given as goal

abbrev pub invariant-files : goal.invariant-files
invariant-files l = AreChosen (IsChosen l.roots l.skipped l.files l.only_plan l.constants) l.number l.numbers.items
