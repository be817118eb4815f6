use Rattle.std.proofs.Common.{◌≡◌, ◌∙◌, Some, slice_get, length, refl, sym, ap, find, add-one}
use Rattle.std.proofs.lemmas.Option.{slice_get_read}
use Rattle.std.proofs.lemmas.List.Folds.{flat_map-map}
use Rattle.program_files.specs.Files.{has_site}
use Rattle.program_files.specs.Faults.{levels_inside}
use Rattle.program_entries.specs.Seen.{seen}
use Rattle.program_entries.specs.declared.entry.Entry.{Entry}
use Rattle.program_faults.specs.Read.{used_all}
use Rattle.program_faults.proofs.InnerLaws.{none_more, found_there, none_at_all}
use Rattle.program_faults.proofs.inner.inner_site.Goals as goal

pub returns-in-Some : goal.returns-in-Some
returns-in-Some c =
    let stands : slice_get c.args.entries.now c.places.place ≡ Some c.index-entries-place.result =
    slice_get_read c.args.entries.now (length c.args.entries.now) c.places.place c.index-entries-place.result refl
    c.places-test.true c.index-entries-place.is in
    sym (ap (find (has_site (used_all c.args.files.now.files.now)))
    (flat_map-map (levels_inside c.args.constant.now) seen c.args.entries.now)
    ∙ found_there (λ (e : Entry). levels_inside c.args.constant.now (seen e))
    (has_site (used_all c.args.files.now.files.now)) c.args.entries.now c.places.place c.index-entries-place.result
    c.in-Some.path stands c.places.invariant (sym c.in_ok-path.ensures ∙ c.in-Some.is))

pub places-preserved : goal.places-preserved
places-preserved c =
    let stands : slice_get c.args.entries.now c.places.place ≡ Some c.index-entries-place.result =
    slice_get_read c.args.entries.now (length c.args.entries.now) c.places.place c.index-entries-place.result refl
    c.places-test.true c.index-entries-place.is in
    rw add-one (none_more (λ (e : Entry). levels_inside c.args.constant.now (seen e))
    (has_site (used_all c.args.files.now.files.now)) c.args.entries.now c.places.place c.index-entries-place.result
    stands c.places.invariant (sym c.in_ok-path.ensures ∙ c.in-None.is))

pub returns : goal.returns
returns c =
    sym (ap (find (has_site (used_all c.args.files.now.files.now)))
    (flat_map-map (levels_inside c.args.constant.now) seen c.args.entries.now)
    ∙ none_at_all (λ (e : Entry). levels_inside c.args.constant.now (seen e))
    (has_site (used_all c.args.files.now.files.now)) c.args.entries.now c.places.place c.places-test.false
    c.places.invariant)
