use Rattle.std.proofs.Common.{◌≡◌, ◌<◌, Some, length, slice_get, refl}
use Rattle.std.proofs.lemmas.Option.{slice_get_read}
use Rattle.eager_plan.specs.Chosen.{IsChosen}
use Rattle.eager_plan.proofs.ChosenLaws.{chosen_more, chosen_same}
use Rattle.eager_plan.proofs.PlanLaws.{chosen_as, not_chosen_as}
use Rattle.eager_plan.proofs.plan.chosen_files.Goals as goal
use Rattle.eager_plan.proofs.plan.chosen_files.Goals.{then-is_chosen+in_ok-push, else-is_chosen}

pub files-preserved : goal.files-preserved
files-preserved c =
    let roots = c.args.roots.now in
    let patterns = c.args.skipped.now in
    let files = c.args.files.now in
    let constants = c.args.constants.now in
    let number = c.files.number in
    let constant = c.index-constants-number.result in
    let Is = IsChosen roots patterns files c.args.only_plan constants in
    let within : number < length constants = rw c.requires.sized c.files-test.true in
    let at : slice_get constants number ≡ Some constant =
    slice_get_read constants _ number constant refl within c.index-constants-number.is in
    elim c.if-is_chosen.branch [
      | then-is_chosen+in_ok-push w ↦ rw (w.numbers-is, w.in_ok-push.ensures.items)
          (chosen_more Is number c.files.numbers.items c.files.invariant
          (chosen_as roots patterns files c.args.only_plan constants number constant at w.if-is_chosen.ensures))
      | else-is_chosen w ↦ rw w.numbers-is
          (chosen_same Is number c.files.numbers.items c.files.invariant
          (not_chosen_as roots patterns files c.args.only_plan constants number constant at w.if-is_chosen.ensures))
    ]
