use Rattle.std.proofs.Common.{◌≡◌, ◌∙◌, ◌<◌, ℕ, List, Option, Some, slice_get, length, refl, sym, ap, map, take}
use Rattle.std.proofs.Common.{add-one, ◌++◌, ◌∷◌, [], arith}
use Rattle.std.specs.Option.{option_map}
use Rattle.std.proofs.lemmas.Option.{slice_get_read}
use Rattle.std.proofs.lemmas.List.{take_all, map-append}
use Rattle.program_faults.specs.Read.{used}
use Rattle.program_used.specs.Rows.{all_used}
use Rattle.program_used.proofs.RowLaws.{used_more}
use Rattle.program_used.proofs.rows.read_files.Goals as goal

pub places-preserved : goal.places-preserved
places-preserved c =
    let file : slice_get c.args.files.now c.places.place ≡ Some c.index-files-place.result =
    slice_get_read c.args.files.now (length c.args.files.now) c.places.place c.index-files-place.result refl
    c.places-test.true c.index-files-place.is in
    let row : slice_get c.args.rows.now c.places.place ≡ Some c.index-rows-place.result =
    slice_get_read c.args.rows.now (length c.args.files.now) c.places.place c.index-rows-place.result
    (sym c.requires) c.places-test.true c.index-rows-place.is in
    rw (c.in_ok-push.ensures.items, map-append, c.places.invariant, c.in_ok-read_file.ensures, add-one)
    (sym (used_more c.args.files.now c.args.rows.now c.places.place c.index-files-place.result
    c.index-rows-place.result file row))

pub returns : goal.returns
returns c =
    c.places.invariant
    ∙ ap (λ fs. all_used fs (take c.places.place c.args.rows.now))
    (take_all c.places.place c.args.files.now c.places-test.false)
    ∙ ap (all_used c.args.files.now)
    (take_all c.places.place c.args.rows.now (omega (arith, c.places-test.false, c.requires)))
