use Rattle.std.proofs.Common.{Option, Some, ◌∙◌, sym, subst}
use Rattle.std.proofs.lemmas.Bool.{both_ways}
use Rattle.std.proofs.lemmas.Bool.Decides.{Decides-eqb}
use Rattle.std.proofs.lemmas.Slice.Eq.{slice_eq-Decides}
use Rattle.load_rules.specs.declared.reading.Reading.{Reading}
use Rattle.load_rules.specs.Readings.{FindsFileReading}
use Rattle.load_rules.proofs.Readable.{reading_of_asked}
use Rattle.load_rules.proofs.Found.{passed, met}
use Rattle.load_rules.proofs.first.find_reply.Goals.{then-eq+in_ok-file_reply, else-eq}
use Rattle.load_rules.proofs.first.find_reply.Goals as goal

pub file_reply-requires : goal.file_reply-requires
file_reply-requires c =
    let same = (slice_eq-Decides Decides-eqb _ _ _ c.eq.ensures).0 c.if-eq.true in
    let F : Option Reading → Type 0 = FindsFileReading c.file-item.result in
    let found : F (Some c.in-Some.reading) = subst F c.in-Some.is c.in_ok-reading.ensures in
    reading_of_asked c.file-item.result c.in-Some.reading c.args.asked.now c.requires.asked.0
    c.requires.asked.1 c.requires.asked.2
    (sym c.as_bytes.ensures ∙ same ∙ c.as_bytes-in-files.ensures) found.1

pub files-preserved : goal.files-preserved
files-preserved c =
    let F : Option Reading → Type 0 = FindsFileReading c.file-item.result in
    let found : F (Some c.in-Some.reading) = subst F c.in-Some.is c.in_ok-reading.ensures in
    elim c.if-eq.branch [
      | then-eq+in_ok-file_reply w ↦
          let same = (slice_eq-Decides Decides-eqb _ _ _ c.eq.ensures).0 w.if-eq.true in
          met c.args.files.now c.files.file-index c.args.asked.now c.file-item.result c.files.reply c.if-eq.reply
          w.in_ok-file_reply.field-0 c.files-test.true c.file-item.is
          found.0 (sym c.as_bytes.ensures ∙ same ∙ c.as_bytes-in-files.ensures)
          w.in_ok-file_reply.ensures c.files.invariant w.reply-is
      | else-eq w ↦
          passed c.args.files.now c.files.file-index c.args.asked.now c.file-item.result c.files.reply c.if-eq.reply
          c.files-test.true c.file-item.is
          found.0
          (λ e. both_ways c.eq.result w.if-eq.false
          ((slice_eq-Decides Decides-eqb _ _ _ c.eq.ensures).1 (c.as_bytes.ensures ∙ e
          ∙ sym c.as_bytes-in-files.ensures)))
          c.files.invariant w.reply-is
    ]
