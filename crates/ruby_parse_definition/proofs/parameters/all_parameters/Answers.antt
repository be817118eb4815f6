use Rattle.ruby_parse_cursor.specs.Views.{word_view}
use Rattle.ruby_parse_definition.proofs.ParameterLaws.{first_reads, no_parameters}
use Rattle.ruby_parse_definition.proofs.parameters.all_parameters.Goals as goal

pub returns-in_ok-with-in-Ok-clause-reads : goal.returns-in_ok-with-in-Ok-clause-reads
returns-in_ok-with-in-Ok-clause-reads c =
    first_reads c.new-none.result c.new-none.ensures c.args.cursor.now
    (word_view c.in-Ok.word) c.in_ok-with-in-Ok.field-0 c.parameter.new.cursor c.more_parameters.new.cursor
    c.more_parameters.result c.in-Ok.ensures.ok c.in-Ok.ensures.parameter c.in_ok-with-in-Ok.ensures
    c.more_parameters.ensures.reads

pub returns-in-Err-clause-reads : goal.returns-in-Err-clause-reads
returns-in-Err-clause-reads c = no_parameters c.new-none.result c.new-none.ensures c.args.cursor.now
    c.parameter.new.cursor c.in-Err.ensures.stays c.in-Err.ensures.other
