use Rattle.std.proofs.Common.{◌≤◌, ◌∙◌, ◌∷◌, ◌++◌, [], ap, length, arith}
use Rattle.std.proofs.lemmas.Result.{err_from_is_err_and}
use Rattle.ruby_parse_cursor.specs.Views.{word_view}
use Rattle.ruby_parse_definition.proofs.Steps.{drop_shorter, word_shorter}
use Rattle.ruby_parse_definition.proofs.MemberLaws.{no_const, assign_lacks_terminal, assign_clashes, assign_breaks}
use Rattle.ruby_parse_definition.proofs.MemberLaws.{assign_reads}
use Rattle.ruby_parse_definition.proofs.members.assigned.Goals as goal

pub returns-in_err-word-clause-reads : goal.returns-in_err-word-clause-reads
returns-in_err-word-clause-reads c =
    let p = err_from_is_err_and c.from_residual.result c.from_residual.ensures.1 in
    rw (p.1, p.2) (no_const c.args.place.levels c.args.marks.now.here c.args.marks.now c.args.cursor.now _
    c.args.marks.now c.take_word.new.self c.in_err-word.ensures.stays c.in_err-word.ensures.other
    c.in_err-word.ensures.fault)

pub returns-in_err-take-clause-reads : goal.returns-in_err-take-clause-reads
returns-in_err-take-clause-reads c =
    let p = err_from_is_err_and c.from_residual-in_err-take.result c.from_residual-in_err-take.ensures.1 in
    rw (p.1, p.2) (assign_lacks_terminal c.args.place.levels c.args.marks.now.here c.args.marks.now c.args.cursor.now
    (word_view c.in_ok-word.word) c.take_word.new.self c.in_ok-word.ensures.ok c.in_ok-word.ensures.terminal _
    c.args.marks.now c.take.new.self c.in_err-take.ensures.stays c.in_err-take.ensures.other
    c.in_err-take.ensures.fault)

pub returns-in_err-path-clause-shorter : goal.returns-in_err-path-clause-shorter
returns-in_err-path-clause-shorter c =
    let a : length c.take_word.new.self ≤ length c.args.cursor.now = word_shorter c.args.cursor.now c.take_word.new.self
    (word_view c.in_ok-word.word) c.in_ok-word.ensures.ok in
    let b : length c.take.new.self ≤ length c.take_word.new.self =
    drop_shorter c.take_word.new.self c.take.new.self c.in_ok-take.ensures.passed in
    omega (arith, a, b)

pub returns-in_err-assign-clause-reads : goal.returns-in_err-assign-clause-reads
returns-in_err-assign-clause-reads c =
    let p = err_from_is_err_and c.from_residual-in_err-assign.result c.from_residual-in_err-assign.ensures.1 in
    rw (p.1, p.2) (assign_clashes c.args.place.levels c.args.marks.now.here c.args.marks.now c.args.cursor.now
    (word_view c.in_ok-word.word) c.take_word.new.self c.in_ok-word.ensures.ok c.in_ok-word.ensures.terminal
    c.take.new.self c.in_ok-take.ensures.ok c.in_ok-take.ensures.passed (c.args.marks.now.here ++ c.as_slice.result.now)
    (ap (λ l. c.args.marks.now.here ++ l) (c.as_slice.ensures ∙ c.in_ok-path.ensures
    ∙ ap (λ l. l ++ c.in_ok-word.word.text.now ∷ []) c.new.ensures)) _ c.assign.new.marks
    c.in_err-assign.ensures.counted)

pub returns-in_err-value-clause-reads : goal.returns-in_err-value-clause-reads
returns-in_err-value-clause-reads c =
    let p = err_from_is_err_and c.from_residual-in_err-value.result c.from_residual-in_err-value.ensures.1 in
    rw (p.1, p.2) (assign_breaks c.args.place.levels c.args.marks.now.here c.args.marks.now c.args.cursor.now
    (word_view c.in_ok-word.word) c.take_word.new.self c.in_ok-word.ensures.ok c.in_ok-word.ensures.terminal
    c.take.new.self c.in_ok-take.ensures.ok c.in_ok-take.ensures.passed (c.args.marks.now.here ++ c.as_slice.result.now)
    (ap (λ l. c.args.marks.now.here ++ l) (c.as_slice.ensures ∙ c.in_ok-path.ensures
    ∙ ap (λ l. l ++ c.in_ok-word.word.text.now ∷ []) c.new.ensures)) c.assign.new.marks tt
    c.in_ok-assign.ensures.counted _ c.expression.new.cursor c.in_err-value.ensures.reads)

pub returns-clause-reads : goal.returns-clause-reads
returns-clause-reads c =
    assign_reads c.args.place.levels c.args.marks.now.here c.args.marks.now c.args.cursor.now
    (word_view c.in_ok-word.word) c.take_word.new.self c.in_ok-word.ensures.ok c.in_ok-word.ensures.terminal
    c.take.new.self c.in_ok-take.ensures.ok c.in_ok-take.ensures.passed (c.args.marks.now.here ++ c.as_slice.result.now)
    (ap (λ l. c.args.marks.now.here ++ l) (c.as_slice.ensures ∙ c.in_ok-path.ensures
    ∙ ap (λ l. l ++ c.in_ok-word.word.text.now ∷ []) c.new.ensures)) c.assign.new.marks tt
    c.in_ok-assign.ensures.counted c.in_ok-value.value c.in_ok-name.name c.expression.new.cursor c.in_ok-name.ensures
    c.in_ok-value.ensures.reads
