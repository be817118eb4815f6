use Rattle.std.proofs.lemmas.Result.{err_from_is_err_and}
use Rattle.ruby_parse_definition.proofs.HeaderLaws.{no_less, parent_breaks, parent_clashes, parent_lacks_line}
use Rattle.ruby_parse_definition.proofs.HeaderLaws.{parent_read}
use Rattle.ruby_parse_definition.proofs.headers.some_parent.Goals as goal

pub returns-in_err-take-clause-reads : goal.returns-in_err-take-clause-reads
returns-in_err-take-clause-reads c =
    let p = err_from_is_err_and c.from_residual.result c.from_residual.ensures.1 in
    rw (p.1, p.2) (no_less c.args.marks.now.here c.args.at _ c.args.marks.now c.args.marks.now c.args.cursor.now
    c.take.new.self c.in_err-take.ensures.stays c.in_err-take.ensures.other c.in_err-take.ensures.fault)

pub returns-in_err-parent-clause-reads : goal.returns-in_err-parent-clause-reads
returns-in_err-parent-clause-reads c =
    let p = err_from_is_err_and c.from_residual-in_err-parent.result c.from_residual-in_err-parent.ensures.1 in
    rw (p.1, p.2) (parent_breaks c.args.marks.now.here c.args.at c.args.marks.now c.args.cursor.now c.take.new.self
    c.in_ok-take.ensures.ok c.in_ok-take.ensures.passed _ c.args.marks.now c.constant.new.cursor
    c.in_err-parent.ensures.reads)

pub returns-in_err-add-clause-reads : goal.returns-in_err-add-clause-reads
returns-in_err-add-clause-reads c =
    let p = err_from_is_err_and c.from_residual-in_err-add.result c.from_residual-in_err-add.ensures.1 in
    rw (p.1, p.2) (parent_clashes c.args.marks.now.here c.args.at c.args.marks.now c.args.cursor.now c.take.new.self
    c.in_ok-take.ensures.ok c.in_ok-take.ensures.passed c.in_ok-parent.parent c.constant.new.cursor
    c.in_ok-parent.ensures.reads _ c.add.new.self c.in_err-add.ensures.refused)

pub returns-in_err-take-2-clause-reads : goal.returns-in_err-take-2-clause-reads
returns-in_err-take-2-clause-reads c =
    let p = err_from_is_err_and c.from_residual-in_err-take-2.result c.from_residual-in_err-take-2.ensures.1 in
    rw (p.1, p.2) (parent_lacks_line c.args.marks.now.here c.args.at c.args.marks.now c.args.cursor.now
    c.take.new.self c.in_ok-take.ensures.ok c.in_ok-take.ensures.passed c.in_ok-parent.parent
    c.constant.new.cursor c.in_ok-parent.ensures.reads c.add.new.self tt
    (c.in_ok-add.ensures.clear, c.in_ok-add.ensures.added) _ c.add.new.self c.take-2.new.self
    c.in_err-take-2.ensures.stays c.in_err-take-2.ensures.other c.in_err-take-2.ensures.fault)

pub returns-clause-reads : goal.returns-clause-reads
returns-clause-reads c =
    parent_read c.args.marks.now.here c.args.at c.args.marks.now c.args.cursor.now c.take.new.self
    c.in_ok-take.ensures.ok c.in_ok-take.ensures.passed c.in_ok-parent.parent c.constant.new.cursor
    c.in_ok-parent.ensures.reads c.add.new.self tt (c.in_ok-add.ensures.clear, c.in_ok-add.ensures.added)
    c.take-2.new.self c.in_ok-take-2.ensures.ok c.in_ok-take-2.ensures.passed
