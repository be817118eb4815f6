use Rattle.std.proofs.Common.{◌≡◌, ◌∙◌, Some, slice_get, length, refl}
use Rattle.std.proofs.lemmas.Option.{slice_get_read}
use Rattle.program_tasks.proofs.PlacedLaws.{placed_step}
use Rattle.program_tasks.proofs.tasks.push_placed.Goals as goal

pub places-preserved : goal.places-preserved
places-preserved c =
    let stands : slice_get c.args.constants.now c.places.place ≡ Some c.index-constants-place.result =
    slice_get_read c.args.constants.now (length c.args.constants.now) c.places.place
    c.index-constants-place.result refl c.places-test.true c.index-constants-place.is in
    c.in_ok-push_kept.ensures ∙ rw c.places.invariant
    (placed_step _ c.args.constant.now c.args.table.now c.args.constants.now c.args.kinds.now c.places.place
    c.index-constants-place.result c.kind_at.result stands c.kind_at.ensures)
