use Rattle.std.proofs.Common.{◌∙◌, refl, sym}
use Rattle.std.proofs.lemmas.Result.{err_from_is_err_and}
use Rattle.ruby_parse_cursor.specs.Views.{word_view}
use Rattle.ruby_parse_definition.proofs.MemberLaws.{no_symbol, reader_clashes, reader_reads}
use Rattle.ruby_parse_definition.proofs.members.reader_name.Goals as goal

pub returns-in_err-word-clause-reads : goal.returns-in_err-word-clause-reads
returns-in_err-word-clause-reads c =
    let p = err_from_is_err_and c.from_residual.result c.from_residual.ensures.1 in
    rw (p.1, p.2) (no_symbol c.args.marks.now.here c.args.marks.now c.args.cursor.now _ c.args.marks.now
    c.take_word.new.self c.in_err-word.ensures.stays c.in_err-word.ensures.other c.in_err-word.ensures.fault)

pub returns-in_err-add-clause-reads : goal.returns-in_err-add-clause-reads
returns-in_err-add-clause-reads c =
    let p = err_from_is_err_and c.from_residual-in_err-add.result c.from_residual-in_err-add.ensures.1 in
    rw (p.1, p.2) (reader_clashes c.args.marks.now.here c.args.marks.now c.args.cursor.now
    (word_view c.in_ok-word.word) c.take_word.new.self c.in_ok-word.ensures.ok c.in_ok-word.ensures.terminal
    c.in_ok-name.name.items c.in_ok-name.name.items (c.in_ok-name.ensures.items ∙ c.behind_sign.ensures) refl _
    c.add.new.self c.in_err-add.ensures.refused)

pub returns-clause-reads : goal.returns-clause-reads
returns-clause-reads c =
    reader_reads c.args.marks.now.here c.args.marks.now c.args.cursor.now
    (word_view c.in_ok-word.word) c.take_word.new.self c.in_ok-word.ensures.ok c.in_ok-word.ensures.terminal
    c.in_ok-from_bytes.field-0 c.in_ok-name.name.items (c.in_ok-from_bytes.ensures ∙ c.behind_sign-2.ensures)
    (c.in_ok-name.ensures.items ∙ c.behind_sign.ensures ∙ sym c.behind_sign-2.ensures
    ∙ sym c.in_ok-from_bytes.ensures) c.add.new.self tt (c.in_ok-add.ensures.clear, c.in_ok-add.ensures.added)
