use Rattle.std.proofs.Common.{◌++◌}
use Rattle.ruby_grammar.specs.Marks.{assigns}
use Rattle.ruby_grammar.specs.Definitions.{counts}
use Rattle.ruby_parse_definition.proofs.CountLaws.{outside_counted, inside_left}
use Rattle.ruby_parse_definition.proofs.counting.assign.Goals as goal

pub returns-clause-counted : goal.returns-clause-counted
returns-clause-counted c = rw c.close.ensures (outside_counted c.args.marks.now c.open.new.marks
    (counts (c.args.marks.now.here ++ c.args.names.now) assigns c.args.at) c.in_ok-open.ensures.counted)

pub returns-clause-bodies : goal.returns-clause-bodies
returns-clause-bodies c = rw c.close.ensures (inside_left c.args.marks.now c.open.new.marks c.args.names.now
    c.in_ok-open.ensures.inside)
