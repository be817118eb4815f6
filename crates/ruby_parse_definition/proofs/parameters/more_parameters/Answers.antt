use Rattle.std.proofs.lemmas.Result.{err_from_is_err_and}
use Rattle.ruby_grammar.specs.Rules.{some_names}
use Rattle.ruby_parse_cursor.specs.Views.{word_view}
use Rattle.ruby_parse_steps.proofs.PathLaws.{shorter_rest}
use Rattle.ruby_parse_definition.proofs.Steps.{then, stop, finish}
use Rattle.ruby_parse_definition.proofs.ParameterLaws.{parameter_lacks, parameter_goes_on, parameters_end}
use Rattle.ruby_parse_definition.proofs.parameters.more_parameters.Goals as goal

pub returns-in_err-word-clause-reads : goal.returns-in_err-word-clause-reads
returns-in_err-word-clause-reads c =
    let p = err_from_is_err_and c.from_residual.result c.from_residual.ensures.1 in
    rw (p.1, p.2) (λ ms. stop _ _ ms ms _ _ _ _ (c.names.invariant.goes_on ms)
    (parameter_lacks c.names.names ms c.names.cursor c.skip.new.self (cc) c.skip.ensures _ c.parameter.new.cursor
    c.in_err-word.ensures.stays c.in_err-word.ensures.other c.in_err-word.ensures.fault))

pub names-preserved : goal.names-preserved
names-preserved c = record {
  goes_on = λ ms. then (c.names.invariant.goes_on ms)
      (parameter_goes_on c.names.names ms c.names.cursor c.skip.new.self (cc) c.skip.ensures
      (word_view c.in_ok-word.word) _ c.parameter.new.cursor c.in_ok-word.ensures.ok c.in_ok-word.ensures.parameter
      c.in_ok-names.ensures);
  shorter = shorter_rest c.names.cursor c.skip.new.self c.parameter.new.cursor
      (word_view c.in_ok-word.word) _ c.skip.ensures c.in_ok-word.ensures.ok c.names.invariant.shorter;
}

pub returns-clause-reads : goal.returns-clause-reads
returns-clause-reads c = λ ms. finish {s = some_names} _ c.names.names ms ms _ _
    (then (c.names.invariant.goes_on ms) (parameters_end c.names.names ms c.names.cursor (cc)))
