-- Answers that are equal to those of the laws.
use Rattle.std.proofs.Common.{◌≡◌, true, List, [], ◌∷◌, Option, Some, None, refl, sym, subst, Result, Ok, Err}
use Rattle.ruby_types.specs.declared.tree.Expr.{Expr}
use Rattle.descent.specs.Reading.{head}
use Rattle.ruby_grammar.specs.Words.{Word}
use Rattle.ruby_grammar.specs.Terminals.{is_tight_paren}
use Rattle.ruby_grammar.specs.Rules.{Sort, Val, Rule, Scope, perhaps_arguments}
use Rattle.ruby_grammar.specs.Choices.{next_is, starts_pair}
use Rattle.ruby_parse_cursor.specs.Views.{head_terminal}
use Rattle.ruby_parse_cursor.specs.declared.fault.Fault.{Fault}
use Rattle.ruby_parse_steps.specs.Gives.{GivesRule, GivesConstant}
use Rattle.ruby_parse_steps.specs.declared.choices.Open.{Open}
use Rattle.ruby_parse_steps.specs.Opens.{BehindLast, GivesEnded}
use Rattle.ruby_parse_steps.specs.Primaries.{GivesArguments}
use Rattle.ruby_parse_steps.proofs.NameLaws.{perhaps_reads, perhaps_breaks}
use Rattle.ruby_parse_expression.specs.Pairs.{pair_terminal}

-- A fault that is equal to one of a law, where the words left are.
pub fails : {s : Sort} (rule : Rule s) (ws rest end : List Word) (d e : Fault) → end ≡ rest → e ≡ d →
    GivesRule rule ws (Err d) rest → GivesRule rule ws (Err e) end
fails rule ws rest end d e q p g = subst (λ x. GivesRule rule ws (Err x) end) (sym p)
    (subst (λ l. GivesRule rule ws (Err d) l) (sym q) g)

-- A value that is equal to that of a law.
pub gives : {s : Sort} (rule : Rule s) (ws rest : List Word) (x y : Val s) → y ≡ x → GivesRule rule ws (Ok x) rest →
    GivesRule rule ws (Ok y) rest
gives rule ws rest x y e g = subst (λ z. GivesRule rule ws (Ok z) rest) (sym e) g

-- A fault in arguments that is equal to one of a law.
pub arguments_fail : (here : Scope) (ws rest end : List Word) (d e : Fault) → end ≡ rest → e ≡ d →
    GivesArguments here ws (Err d) rest → GivesArguments here ws (Err e) end
arguments_fail here ws rest end d e q p g = subst (λ x. GivesArguments here ws (Err x) end) (sym p)
    (subst (λ l. GivesArguments here ws (Err d) l) (sym q) g)

-- A fault in a constant that is equal to one of a law.
pub constant_fails : (ws rest : List Word) (d e : Fault) → e ≡ d → GivesConstant ws (Err d) rest →
    GivesConstant ws (Err e) rest
constant_fails ws rest d e p g = subst (λ x. GivesConstant ws (Err x) rest) (sym p) g

-- Arguments that may stand there, where they do.
pub perhaps_gives : (here : Scope) (ws rest : List Word) (r : Result (List Expr) Fault) →
    next_is is_tight_paren (head ws) ≡ true → GivesArguments here ws r rest →
    GivesRule (perhaps_arguments here) ws r rest
perhaps_gives here ws rest (Ok args) p g = perhaps_reads here args ws rest p g
perhaps_gives here ws rest (Err e) p g = perhaps_breaks here e ws rest p g

-- Whether a pair begins, by the terminal at hand.
pub pair_at : (ws : List Word) → next_is starts_pair (head ws) ≡ pair_terminal (head_terminal ws)
pair_at [] = refl
pair_at (w ∷ ws) = refl

-- ---- what ending the choices answered
module _ (here : Scope) (opens left : List Open) (value : Expr) (ws rest : List Word) where
  -- A fault as the answer of ending choices.
  pub ended_fails_so : (d e : Fault) → e ≡ d → GivesEnded here opens value ws (Err d) left rest →
      BehindLast here opens value ws (Err e) rest
  ended_fails_so d e p g = subst (λ x. GivesEnded here opens value ws (Err x) left rest) (sym p) g

  -- The whole value as the answer of ending choices.
  pub ended_whole : (o : Option Expr) (whole : Expr) → o ≡ Some whole →
      GivesEnded here opens value ws (Ok o) left rest → BehindLast here opens value ws (Ok whole) rest
  ended_whole o whole e g = subst (λ x. GivesEnded here opens value ws (Ok x) left rest) e g

  -- A choice that goes on as the answer of ending choices.
  pub ended_inside : (o : Option Expr) → o ≡ None → GivesEnded here opens value ws (Ok o) left rest →
      GivesEnded here opens value ws (Ok None) left rest
  ended_inside o e g = subst (λ x. GivesEnded here opens value ws (Ok x) left rest) e g
