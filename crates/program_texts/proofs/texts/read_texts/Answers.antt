use Rattle.std.proofs.Common.{take}
use Rattle.std.proofs.lemmas.List.{take_more}
use Rattle.program_texts.proofs.ReadLaws.{used_more, read_more}
use Rattle.program_texts.proofs.texts.read_texts.Goals as goal

pub places-preserved : goal.places-preserved
places-preserved c =
    let cs = c.args.constants.now in
    let fs = c.args.files.now in
    let constant = c.index-constants-place.result in
    let file = c.index-files-place.result in
    let row = c.in_ok-read_row.field-0 in
    rw (
      c.in_ok-push.ensures.items,
      take_more cs c.places.place constant (rw c.requires.each c.places-test.true),
      take_more fs c.places.place file c.places-test.true,
      ← c.index-constants-place.is,
      ← c.index-files-place.is,
    ) (
      used_more (take c.places.place cs) c.places.texts.items constant row c.places.invariant.0
          c.in_ok-read_row.ensures.used,
      read_more (take c.places.place fs) c.places.texts.items file row c.places.invariant.1
          c.in_ok-read_row.ensures.read,
    )
