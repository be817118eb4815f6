use Rattle.std.proofs.Common.{◌≤◌, List, Result, length}
use Rattle.ruby_types.specs.declared.tree.Expr.{Expr}
use Rattle.ruby_grammar.specs.Words.{Word}
use Rattle.ruby_parse_cursor.specs.declared.fault.Fault.{Fault}
use Rattle.ruby_parse_steps.specs.Scopes.{scope_view}
use Rattle.ruby_parse_steps.specs.Opens.{BehindLast}
use Rattle.ruby_parse_steps.proofs.choices.end_choices.Given as goal

abbrev pub invariant-opens : goal.invariant-opens
invariant-opens l = record {
  goes_on : (r : Result Expr Fault) (end : List Word) →
      BehindLast (scope_view l.fn.scope) l.opens.items l.value l.cursor r end →
      BehindLast (scope_view l.fn.scope) l.fn.opens.items l.fn.value l.fn.cursor r end;
  shorter : length l.cursor ≤ length l.fn.cursor;
}

abbrev pub decreases-opens : goal.decreases-opens
decreases-opens l = length l.opens.items
