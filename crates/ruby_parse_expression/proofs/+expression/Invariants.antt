use Rattle.std.proofs.Common.{◌≤◌, ◌<◌, [], length, ◌+◌, ◌-◌, ◌*◌, List, Result, Ok, Err}
use Rattle.ruby_types.specs.declared.tree.Expr.{Expr}
use Rattle.ruby_types.specs.declared.tree.Part.{Part}
use Rattle.ruby_grammar.specs.Words.{Word}
use Rattle.ruby_grammar.specs.Rules.{an_expression, some_expressions, some_pairs, some_parts}
use Rattle.ruby_grammar.specs.Rules as rules
use Rattle.ruby_parse_cursor.specs.declared.fault.Fault.{Fault}
use Rattle.ruby_parse_steps.specs.Gives.{GivesRule}
use Rattle.ruby_parse_steps.specs.Levels.{level_view, rank}
use Rattle.ruby_parse_steps.specs.Opens.{BehindLast}
use Rattle.ruby_parse_steps.specs.Scopes.{scope_view}
use Rattle.ruby_parse_expression.proofs.+expression.Given as goal

abbrev pub decreases-arguments::members : goal.decreases-arguments::members
decreases-arguments::members l = 16 * length l.cursor.now + 12

abbrev pub decreases-arguments::pair : goal.decreases-arguments::pair
decreases-arguments::pair l = 16 * length l.cursor.now + 12

abbrev pub decreases-arguments::pairs : goal.decreases-arguments::pairs
decreases-arguments::pairs l = 16 * length l.cursor.now + 13

abbrev pub decreases-operators::expression : goal.decreases-operators::expression
decreases-operators::expression l = 16 * length l.cursor.now + 11

abbrev pub decreases-operators::operators : goal.decreases-operators::operators
decreases-operators::operators l = 16 * length l.cursor.now + 4

abbrev pub decreases-operators::more_operators : goal.decreases-operators::more_operators
decreases-operators::more_operators l = 16 * length l.cursor.now + 5

abbrev pub decreases-operators::unary : goal.decreases-operators::unary
decreases-operators::unary l = 16 * length l.cursor.now + 3

abbrev pub decreases-primary::arguments : goal.decreases-primary::arguments
decreases-primary::arguments l = 16 * length l.cursor.now

abbrev pub decreases-primary::bracket : goal.decreases-primary::bracket
decreases-primary::bracket l = 16 * length l.cursor.now

abbrev pub decreases-primary::index : goal.decreases-primary::index
decreases-primary::index l = 16 * length l.cursor.now

abbrev pub decreases-primary::member : goal.decreases-primary::member
decreases-primary::member l = 16 * length l.cursor.now

abbrev pub decreases-primary::name : goal.decreases-primary::name
decreases-primary::name l = 16 * length l.cursor.now

abbrev pub decreases-primary::perhaps_arguments : goal.decreases-primary::perhaps_arguments
decreases-primary::perhaps_arguments l = 16 * length l.cursor.now + 1

abbrev pub decreases-primary::perhaps_postfix : goal.decreases-primary::perhaps_postfix
decreases-primary::perhaps_postfix l = 16 * length l.cursor.now + 1

abbrev pub decreases-primary::postfix : goal.decreases-primary::postfix
decreases-primary::postfix l = 16 * length l.cursor.now + 2

abbrev pub decreases-primary::primary : goal.decreases-primary::primary
decreases-primary::primary l = 16 * length l.cursor.now + 1

abbrev pub decreases-primary::text : goal.decreases-primary::text
decreases-primary::text l = 16 * length l.cursor.now

abbrev pub decreases-primary::text_parts : goal.decreases-primary::text_parts
decreases-primary::text_parts l = 16 * length l.cursor.now + 12

abbrev pub invariant-arguments::members-members : goal.invariant-arguments::members-members
invariant-arguments::members-members l = record {
  goes_on : (r : Result (List Expr) Fault) (end : List Word) →
      GivesRule (rules.members (scope_view l.fn.scope) l.list) l.cursor r end →
      GivesRule (rules.members (scope_view l.fn.scope) []) l.fn.cursor r end;
  shorter : length l.cursor ≤ length l.fn.cursor;
}

abbrev pub decreases-arguments::members-members : goal.decreases-arguments::members-members
decreases-arguments::members-members l = length l.cursor

abbrev pub invariant-arguments::pairs-pairs : goal.invariant-arguments::pairs-pairs
invariant-arguments::pairs-pairs l = record {
  goes_on : (r : Result (List (Expr × Expr)) Fault) (end : List Word) →
      GivesRule (rules.pairs (scope_view l.fn.scope) l.list) l.cursor r end →
      GivesRule (rules.pairs (scope_view l.fn.scope) []) l.fn.cursor r end;
  shorter : length l.cursor ≤ length l.fn.cursor;
}

abbrev pub decreases-arguments::pairs-pairs : goal.decreases-arguments::pairs-pairs
decreases-arguments::pairs-pairs l = length l.cursor

abbrev pub invariant-operators::expression-values : goal.invariant-operators::expression-values
invariant-operators::expression-values l = record {
  goes_on : (v : Expr) (mid : List Word) (r : Result Expr Fault) (end : List Word) →
      GivesRule (rules.expression (scope_view l.fn.scope)) l.cursor (Ok v) mid →
      BehindLast (scope_view l.fn.scope) l.opens.items v mid r end →
      GivesRule (rules.expression (scope_view l.fn.scope)) l.fn.cursor r end;
  breaks : (e : Fault) (end : List Word) →
      GivesRule (rules.expression (scope_view l.fn.scope)) l.cursor (Err e) end →
      GivesRule (rules.expression (scope_view l.fn.scope)) l.fn.cursor (Err e) end;
  shorter : length l.cursor ≤ length l.fn.cursor;
}

abbrev pub decreases-operators::expression-values : goal.decreases-operators::expression-values
decreases-operators::expression-values l = length l.cursor

abbrev pub invariant-operators::operators-levels : goal.invariant-operators::operators-levels
invariant-operators::operators-levels l = record {
  reads : GivesRule (rules.operators (level_view l.level) (scope_view l.fn.scope)) l.fn.cursor (Ok l.x) l.cursor;
  within : rank (level_view l.level) ≤ rank (level_view l.fn.loosest);
  shorter : length l.cursor < length l.fn.cursor;
}

abbrev pub decreases-operators::operators-levels : goal.decreases-operators::operators-levels
decreases-operators::operators-levels l = rank (level_view l.fn.loosest) - rank (level_view l.level)

abbrev pub invariant-operators::more_operators-operands : goal.invariant-operators::more_operators-operands
invariant-operators::more_operators-operands l = record {
  goes_on : (r : Result Expr Fault) (end : List Word) →
      GivesRule (rules.more_operators (level_view l.fn.level) (scope_view l.fn.scope) l.x) l.cursor r end →
      GivesRule (rules.more_operators (level_view l.fn.level) (scope_view l.fn.scope) l.fn.first) l.fn.cursor r end;
  shorter : length l.cursor ≤ length l.fn.cursor;
}

abbrev pub decreases-operators::more_operators-operands : goal.decreases-operators::more_operators-operands
decreases-operators::more_operators-operands l = length l.cursor

abbrev pub invariant-primary::postfix-calls : goal.invariant-primary::postfix-calls
invariant-primary::postfix-calls l = record {
  goes_on : (r : Result Expr Fault) (end : List Word) →
      GivesRule (rules.more_postfix (scope_view l.fn.scope) l.x) l.cursor r end →
      GivesRule (rules.postfix (scope_view l.fn.scope)) l.fn.cursor r end;
  shorter : length l.cursor < length l.fn.cursor;
}

abbrev pub decreases-primary::postfix-calls : goal.decreases-primary::postfix-calls
decreases-primary::postfix-calls l = length l.cursor

abbrev pub invariant-primary::text_parts-parts : goal.invariant-primary::text_parts-parts
invariant-primary::text_parts-parts l = record {
  goes_on : (r : Result (List Part) Fault) (end : List Word) →
      GivesRule (rules.text_parts (scope_view l.fn.scope) l.fn.is_double l.parts) l.cursor r end →
      GivesRule (rules.text_parts (scope_view l.fn.scope) l.fn.is_double []) l.fn.cursor r end;
  shorter : length l.cursor ≤ length l.fn.cursor;
}

abbrev pub decreases-primary::text_parts-parts : goal.decreases-primary::text_parts-parts
decreases-primary::text_parts-parts l = length l.cursor
