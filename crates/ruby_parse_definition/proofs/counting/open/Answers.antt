use Rattle.ruby_parse_marks.specs.Views.{act_view}
use Rattle.ruby_parse_definition.proofs.CountLaws.{opened_answer, inside_answer}
use Rattle.ruby_parse_definition.proofs.counting.open.Goals as goal

pub returns-clause-counted : goal.returns-clause-counted
returns-clause-counted c = opened_answer c.args.marks.now c.open.new.self c.add.new.self c.args.names.now
    (act_view c.args.act) c.args.at c.add.result c.in_ok-open.ensures.opened c.add.ensures.clear c.add.ensures.added
    c.add.ensures.refused

pub returns-clause-inside : goal.returns-clause-inside
returns-clause-inside c = inside_answer c.args.marks.now c.open.new.self c.add.new.self c.args.names.now c.add.result
    c.in_ok-open.ensures.opened c.add.ensures.bodies
