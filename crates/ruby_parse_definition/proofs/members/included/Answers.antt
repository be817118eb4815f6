use Rattle.std.proofs.lemmas.Result.{err_from_is_err_and}
use Rattle.ruby_parse_definition.proofs.MemberLaws.{no_include, include_breaks, include_reads}
use Rattle.ruby_parse_definition.proofs.members.included.Goals as goal

pub returns-in_err-take-clause-reads : goal.returns-in_err-take-clause-reads
returns-in_err-take-clause-reads c =
    let p = err_from_is_err_and c.from_residual.result c.from_residual.ensures.1 in
    rw (p.1, p.2) (no_include c.args.marks.now c.args.cursor.now _ c.args.marks.now c.take.new.self
    c.in_err-take.ensures.stays c.in_err-take.ensures.other c.in_err-take.ensures.fault)

pub returns-in_err-constant-clause-reads : goal.returns-in_err-constant-clause-reads
returns-in_err-constant-clause-reads c =
    let p = err_from_is_err_and c.from_residual-in_err-constant.result c.from_residual-in_err-constant.ensures.1 in
    rw (p.1, p.2) (include_breaks c.args.marks.now c.args.cursor.now c.take.new.self c.in_ok-take.ensures.ok
    c.in_ok-take.ensures.passed _ c.args.marks.now c.constant.new.cursor c.in_err-constant.ensures.reads)

pub returns-clause-reads : goal.returns-clause-reads
returns-clause-reads c = include_reads c.args.marks.now c.args.cursor.now c.take.new.self c.in_ok-take.ensures.ok
    c.in_ok-take.ensures.passed c.in_ok-constant.field-0 c.constant.new.cursor c.in_ok-constant.ensures.reads
