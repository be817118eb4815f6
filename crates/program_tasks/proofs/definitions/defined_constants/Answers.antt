use Rattle.std.proofs.Common.{◌≡◌, ◌∙◌, Some, slice_get, length, refl, sym, add-one}
use Rattle.std.proofs.lemmas.Option.{slice_get_read}
use Rattle.program_files.specs.Faults.{is_definition, kind_of}
use Rattle.program_entries.specs.Seen.{seen}
use Rattle.program_tasks.proofs.PlacedLaws.{filter_more}
use Rattle.program_tasks.proofs.definitions.defined_constants.Goals as goal

pub places-preserved : goal.places-preserved
places-preserved c =
    let stands : slice_get c.args.entries.now c.places.place ≡ Some c.index-entries-place.result =
    slice_get_read c.args.entries.now (length c.args.entries.now) c.places.place c.index-entries-place.result refl
    c.places-test.true c.index-entries-place.is in
    c.in_ok-push_constant.ensures ∙ rw (c.places.invariant, add-one)
    (sym (filter_more seen (λ e. e.constant) is_definition c.args.entries.now c.places.place
    c.index-entries-place.result stands))
