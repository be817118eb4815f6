use Rattle.std.proofs.Common.{◌≡◌, List, Option, Some, slice_get, length, refl, subst, map, take, add-one}
use Rattle.std.specs.Option.{option_map}
use Rattle.std.proofs.lemmas.Option.{slice_get_read}
use Rattle.std.proofs.lemmas.List.{take_all}
use Rattle.program_faults.specs.Read.{used, used_all}
use Rattle.program_faults.specs.declared.read.ReadFile.{ReadFile}
use Rattle.program_outcomes.specs.Outcomes.{HaveOutcomes}
use Rattle.program_outcomes.proofs.OutcomeLaws.{outcomes_more, mapped_more}
use Rattle.program_outcomes.proofs.outcomes.outcomes_among.Goals as goal

pub places-preserved : goal.places-preserved
places-preserved c =
    let read : slice_get c.args.reads.now c.places.place ≡ Some c.index-reads-place.result =
    slice_get_read c.args.reads.now (length c.args.reads.now) c.places.place c.index-reads-place.result refl
    c.places-test.true c.index-reads-place.is in
    rw (
      c.in_ok-push.ensures.items,
      add-one,
      mapped_more (option_map used) c.args.reads.now c.places.place c.index-reads-place.result read,
    )
    (outcomes_more (used_all c.args.files.now.files.now) (map (option_map used) (take c.places.place c.args.reads.now))
    c.places.outcomes.items (option_map used c.index-reads-place.result) c.in_ok-outcome_at.field-0
    c.places.invariant c.in_ok-outcome_at.ensures)

pub returns : goal.returns
returns c =
    subst (λ (reads : List (Option ReadFile)). HaveOutcomes (used_all c.args.files.now.files.now)
    (map (option_map used) reads) c.places.outcomes.items)
    (take_all c.places.place c.args.reads.now c.places-test.false) c.places.invariant
