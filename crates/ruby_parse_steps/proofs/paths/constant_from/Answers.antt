use Rattle.std.proofs.Common.{◌∙◌, ◌∷◌, ◌++◌, [], ap}
use Rattle.std.proofs.lemmas.Result.{err_from_is_err_and}
use Rattle.ruby_parse_cursor.specs.Views.{word_view}
use Rattle.ruby_parse_steps.proofs.PathLaws.{constant_reads, constant_breaks, constant_fails}
use Rattle.ruby_parse_steps.proofs.paths.constant_from.Goals as goal

pub returns-in_err-first-clause-reads : goal.returns-in_err-first-clause-reads
returns-in_err-first-clause-reads c =
    let p = err_from_is_err_and c.from_residual.result c.from_residual.ensures.1 in
    rw (p.1, p.2) (constant_fails _ _ _ _ c.in_err-first.ensures.stays c.in_err-first.ensures.other
    c.in_err-first.ensures.fault)

pub returns-in_err-path-2-clause-reads : goal.returns-in_err-path-2-clause-reads
returns-in_err-path-2-clause-reads c =
    let p = err_from_is_err_and c.from_residual-in_err-path-2.result c.from_residual-in_err-path-2.ensures.1 in
    rw (p.1, p.2) (constant_breaks _ (word_view c.in_ok-first.first) c.in_ok-path.path _ c.take_word.new.self _ _
    c.in_ok-first.ensures.ok c.in_ok-first.ensures.terminal (c.in_ok-path.ensures
    ∙ ap (λ l. l ++ c.in_ok-first.first.text.now ∷ []) c.new.ensures) c.in_err-path-2.ensures.reads)

pub returns-clause-reads : goal.returns-clause-reads
returns-clause-reads c =
    constant_reads _ (word_view c.in_ok-first.first) c.in_ok-path.path c.in_ok-path-2.path _ c.take_word.new.self _
    c.in_ok-first.ensures.ok c.in_ok-first.ensures.terminal (c.in_ok-path.ensures
    ∙ ap (λ l. l ++ c.in_ok-first.first.text.now ∷ []) c.new.ensures) c.in_ok-path-2.ensures.reads
