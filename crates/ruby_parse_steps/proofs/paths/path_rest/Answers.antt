use Rattle.std.proofs.lemmas.Result.{err_from_is_err_and}
use Rattle.ruby_parse_cursor.specs.Views.{word_view}
use Rattle.ruby_parse_steps.proofs.PathLaws.{path_step, path_ends, path_fails, shorter_rest, smaller_rest}
use Rattle.ruby_parse_steps.proofs.paths.path_rest.Goals as goal

pub returns-in_err-next-clause-reads : goal.returns-in_err-next-clause-reads
returns-in_err-next-clause-reads c =
    let p = err_from_is_err_and c.from_residual.result c.from_residual.ensures.1 in
    rw (p.1, p.2) (path_fails _ c.segments.path _ c.segments.cursor c.skip.new.self _ _ c.segments.invariant.goes_on
    (cc) c.skip.ensures c.in_err-next.ensures.stays c.in_err-next.ensures.other c.in_err-next.ensures.fault)

pub returns-in_err-path-clause-shorter : goal.returns-in_err-path-clause-shorter
returns-in_err-path-clause-shorter c = shorter_rest c.segments.cursor c.skip.new.self c.take_word.new.self
    (word_view c.in_ok-next.next) _ c.skip.ensures c.in_ok-next.ensures.ok c.segments.invariant.shorter

pub segments-smaller : goal.segments-smaller
segments-smaller c = smaller_rest c.segments.cursor c.skip.new.self c.take_word.new.self
    (word_view c.in_ok-next.next) c.skip.ensures c.in_ok-next.ensures.ok

pub segments-preserved : goal.segments-preserved
segments-preserved c = record {
  goes_on = λ ending ms o h. c.segments.invariant.goes_on ending ms o
      (path_step ending ms o c.segments.path c.in_ok-path.path c.segments.cursor c.skip.new.self c.take_word.new.self
      (word_view c.in_ok-next.next) (cc) c.skip.ensures c.in_ok-next.ensures.ok c.in_ok-next.ensures.terminal
      c.in_ok-path.ensures h);
  shorter = shorter_rest c.segments.cursor c.skip.new.self c.take_word.new.self
      (word_view c.in_ok-next.next) _ c.skip.ensures c.in_ok-next.ensures.ok c.segments.invariant.shorter;
}

pub returns-clause-reads : goal.returns-clause-reads
returns-clause-reads c = λ ending ms o h. c.segments.invariant.goes_on ending ms o
    (path_ends ending ms o c.segments.path c.segments.cursor (cc) h)
