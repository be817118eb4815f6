use Rattle.std.proofs.Common.{◌≤◌, ◌+◌, ◌*◌, [], List, Result, length}
use Rattle.ruby_grammar.specs.Words.{Word}
use Rattle.ruby_grammar.specs.Rules.{Known, Block}
use Rattle.ruby_grammar.specs.Rules as rules
use Rattle.ruby_parse_cursor.specs.declared.fault.Fault.{Fault}
use Rattle.ruby_parse_steps.specs.Gives.{Gives, GivesRule}
use Rattle.ruby_parse_statement.specs.Places.{around_view}
use Rattle.ruby_parse_statement.specs.Arms.{arm_then, GivesRest}
use Rattle.ruby_parse_statement.proofs.statement.+statement.Given as goal

abbrev pub decreases-statement : goal.decreases-statement
decreases-statement l = 6 * l.body.levels + 1

abbrev pub decreases-statements : goal.decreases-statements
decreases-statements l = 6 * l.body.levels + 2

abbrev pub decreases-arm : goal.decreases-arm
decreases-arm l = 6 * l.body.levels + 3

abbrev pub decreases-otherwise : goal.decreases-otherwise
decreases-otherwise l = 6 * l.body.levels + 3

abbrev pub decreases-arms : goal.decreases-arms
decreases-arms l = 6 * l.body.levels + 4

abbrev pub decreases-branches : goal.decreases-branches
decreases-branches l = 6 * l.body.levels + 5

abbrev pub invariant-statements-lines : goal.invariant-statements-lines
invariant-statements-lines l = record {
  goes_on : (r : Result Block Fault) (end : List Word) →
      GivesRule (rules.statements (around_view l.body l.locals) l.statements) l.cursor r end →
      GivesRule (rules.statements (around_view l.body l.fn.locals) []) l.fn.cursor r end;
  shorter : length l.cursor ≤ length l.fn.cursor;
}

abbrev pub decreases-statements-lines : goal.decreases-statements-lines
decreases-statements-lines l = length l.cursor

abbrev pub invariant-arms-further : goal.invariant-arms-further
invariant-arms-further l = record {
  goes_on : (r : Result Known Fault) (end : List Word) →
      GivesRest (around_view l.body l.locals) l.is_unless l.list l.closed l.cursor r end →
      Gives (arm_then (around_view l.body l.fn.locals) l.is_unless l.fn.list) l.fn.cursor r end;
  shorter : length l.cursor ≤ length l.fn.cursor;
}

abbrev pub decreases-arms-further : goal.decreases-arms-further
decreases-arms-further l = length l.cursor
