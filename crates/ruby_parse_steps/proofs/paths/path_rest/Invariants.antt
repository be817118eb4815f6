use Rattle.std.proofs.Common.{◌≤◌, true, List, Option, length}
use Rattle.descent.specs.Grammar.{only}
use Rattle.descent.specs.Reading.{Outcome}
use Rattle.ruby_grammar.specs.Marks.{Mark}
use Rattle.ruby_grammar.specs.Rules.{ruby, some_names}
use Rattle.ruby_grammar.specs.Rules as rules
use Rattle.ruby_parse_steps.specs.Gives.{Comes}
use Rattle.ruby_parse_steps.proofs.paths.path_rest.Given as goal

abbrev pub invariant-segments : goal.invariant-segments
invariant-segments l = record {
  goes_on : (ending : Option Mark) (ms : List Mark) (o : Outcome ruby some_names) →
      Comes (only (rules.path_rest true ending l.path)) ms l.cursor o →
      Comes (only (rules.path_rest true ending l.fn.first)) ms l.fn.cursor o;
  shorter : length l.cursor ≤ length l.fn.cursor;
}

abbrev pub decreases-segments : goal.decreases-segments
decreases-segments l = length l.cursor
