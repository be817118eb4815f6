use Rattle.std.proofs.lemmas.Result.{err_from_is_err_and}
use Rattle.ruby_parse_definition.proofs.MethodLaws.{statements_break, statements_lack_end, statements_read}
use Rattle.ruby_parse_definition.proofs.methods.method_body.Goals as goal

pub returns-in_err-block-clause-reads : goal.returns-in_err-block-clause-reads
returns-in_err-block-clause-reads c =
    let p = err_from_is_err_and c.from_residual-in_err-block.result c.from_residual-in_err-block.ensures.1 in
    rw (p.1, p.2) (statements_break c.args.body.levels c.args.body.may_set c.args.parameters c.in_ok-locals.locals
    c.in_ok-locals.ensures c.args.cursor.now _ c.statements.new.locals c.statements.new.cursor
    c.in_err-block.ensures.reads)

pub returns-in_err-take-clause-reads : goal.returns-in_err-take-clause-reads
returns-in_err-take-clause-reads c =
    let p = err_from_is_err_and c.from_residual-in_err-take.result c.from_residual-in_err-take.ensures.1 in
    rw (p.1, p.2) (statements_lack_end c.args.body.levels c.args.body.may_set c.args.parameters c.in_ok-locals.locals
    c.in_ok-locals.ensures c.args.cursor.now c.in_ok-block.block c.statements.new.locals c.statements.new.cursor
    c.in_ok-block.ensures.reads _ c.take.new.self c.in_err-take.ensures.stays c.in_err-take.ensures.other
    c.in_err-take.ensures.fault)

pub returns-clause-reads : goal.returns-clause-reads
returns-clause-reads c =
    statements_read c.args.body.levels c.args.body.may_set c.args.parameters c.in_ok-locals.locals
    c.in_ok-locals.ensures c.args.cursor.now c.in_ok-block.block c.statements.new.locals c.statements.new.cursor
    c.in_ok-block.ensures.reads c.take.new.self c.in_ok-take.ensures.ok c.in_ok-take.ensures.passed
