use Rattle.std.proofs.lemmas.Result.{err_from_is_err_and}
use Rattle.ruby_parse_marks.specs.Views.{act_view}
use Rattle.ruby_parse_definition.proofs.HeaderLaws.{path_stops, path_clashes, path_opens}
use Rattle.ruby_parse_definition.proofs.headers.opened_path.Goals as goal

pub returns-in_err-path-clause-reads : goal.returns-in_err-path-clause-reads
returns-in_err-path-clause-reads c =
    let p = err_from_is_err_and c.from_residual.result c.from_residual.ensures.1 in
    rw (p.1, p.2) (path_stops (act_view c.args.act) c.args.marks.now c.is_top.result c.is_top.ensures
    c.args.cursor.now _ c.args.marks.now c.path_as_written.new.cursor c.in_err-path.ensures.reads)

pub returns-in_err-open-clause-reads : goal.returns-in_err-open-clause-reads
returns-in_err-open-clause-reads c =
    let p = err_from_is_err_and c.from_residual-in_err-open.result c.from_residual-in_err-open.ensures.1 in
    rw (p.1, p.2) (path_clashes (act_view c.args.act) c.args.marks.now c.is_top.result c.is_top.ensures
    c.args.cursor.now c.in_ok-path.path c.path_as_written.new.cursor c.in_ok-path.ensures.reads
    c.as_slice.result.now c.as_slice.ensures _
    c.open.new.marks c.in_err-open.ensures.counted)

pub returns-clause-reads : goal.returns-clause-reads
returns-clause-reads c =
    path_opens (act_view c.args.act) c.args.marks.now c.is_top.result c.is_top.ensures
    c.args.cursor.now c.in_ok-path.path c.path_as_written.new.cursor c.in_ok-path.ensures.reads
    c.as_slice.result.now c.as_slice.ensures c.open.new.marks tt c.in_ok-open.ensures.counted
