-- How lists of expressions and of pairs are read.
use Rattle.std.proofs.Common.{◌≡◌, Bool, true, false, cond, List, [], ◌∷◌, ◌++◌, drop, refl, ap, ◌∙◌, Result, Ok, Err}
use Rattle.descent.specs.Grammar.{give, token, only}
use Rattle.descent.specs.Reading.{take, head, choose}
use Rattle.ruby_types.specs.declared.tree.Expr.{Expr}
use Rattle.ruby_grammar.specs.Words.{Word}
use Rattle.ruby_grammar.specs.Terminals.{is_comma}
use Rattle.ruby_grammar.specs.Rules.{Scope, some_expressions, expression, members, more_members}
use Rattle.ruby_grammar.specs.Expressions.{member_then}
use Rattle.ruby_grammar.specs.Choices.{ruby_choices, next_is, starts_expression}
use Rattle.ruby_parse_cursor.specs.Views.{head_terminal, expression_terminal}
use Rattle.ruby_parse_cursor.specs.declared.fault.Fault.{Fault}
use Rattle.ruby_parse_steps.specs.Gives.{GivesRule}
use Rattle.ruby_parse_steps.proofs.Descent.{g_give, g_chosen, g_skip, g_then, g_fails}

-- Whether an expression begins, by the terminal at hand.
pub starts_is : (ws : List Word) → next_is starts_expression (head ws) ≡ expression_terminal (head_terminal ws)
starts_is [] = refl
starts_is (w ∷ ws) = refl

module _ (here : Scope) (xs : List Expr) where
  members_chosen : (ws : List Word) (b : Bool) → expression_terminal (head_terminal ws) ≡ b →
      choose ruby_choices (members here xs) ws ≡ cond b (take (member_then here xs)) (take (give xs))
  members_chosen ws b e = ap (λ b. cond b (take (member_then here xs)) (take (give xs))) (starts_is ws ∙ e)

  comma_chosen : (ws : List Word) (b : Bool) → next_is is_comma (head ws) ≡ b →
      choose ruby_choices (more_members here xs) ws ≡ cond b (take (token is_comma (λ _. only (members here xs))))
      (take (give xs))
  comma_chosen ws b e = ap (λ b. cond b (take (token is_comma (λ _. only (members here xs)))) (take (give xs))) e

  -- A member, and what follows it.
  pub member_reads : (x : Expr) (ws mid rest : List Word) (r : Result (List Expr) Fault) →
      expression_terminal (head_terminal ws) ≡ true →
      GivesRule (expression here) ws (Ok x) mid → GivesRule (more_members here (xs ++ x ∷ [])) mid r rest →
      GivesRule (members here xs) ws r rest
  member_reads x ws mid rest r p a g = g_chosen {s = some_expressions} (members here xs)
      (member_then here xs) ws rest r (members_chosen ws true p)
      (g_then {s = some_expressions} (expression here) _ x ws mid rest r a g)

  -- A fault in a member.
  pub member_breaks : (e : Fault) (ws rest : List Word) → expression_terminal (head_terminal ws) ≡ true →
      GivesRule (expression here) ws (Err e) rest → GivesRule (members here xs) ws (Err e) rest
  member_breaks e ws rest p a = g_chosen {s = some_expressions} (members here xs) (member_then here xs) ws rest
      (Err e) (members_chosen ws true p) (g_fails {s = some_expressions} (expression here) _ ws rest e a)

  -- No member is at hand, so the list ends.
  pub members_end : (ws : List Word) → expression_terminal (head_terminal ws) ≡ false →
      GivesRule (members here xs) ws (Ok xs) ws
  members_end ws p = g_chosen {s = some_expressions} (members here xs) (give xs) ws ws (Ok xs)
      (members_chosen ws false p) (g_give {s = some_expressions} xs ws)

  -- A comma, and perhaps more members.
  pub comma_reads : (ws mid rest : List Word) (r : Result (List Expr) Fault) → next_is is_comma (head ws) ≡ true →
      mid ≡ drop 1 ws → GivesRule (members here xs) mid r rest → GivesRule (more_members here xs) ws r rest
  comma_reads ws mid rest r p d g = g_chosen {s = some_expressions} (more_members here xs)
      (token is_comma (λ _. only (members here xs))) ws rest r (comma_chosen ws true p)
      (g_skip {s = some_expressions} is_comma _ ws mid rest r p d (λ _. g))

  -- No comma is at hand, so the list ends.
  pub no_comma : (ws : List Word) → next_is is_comma (head ws) ≡ false → GivesRule (more_members here xs) ws (Ok xs) ws
  no_comma ws p = g_chosen {s = some_expressions} (more_members here xs) (give xs) ws ws (Ok xs)
      (comma_chosen ws false p) (g_give {s = some_expressions} xs ws)
