-- What a call or an index behind an expression makes of it, as the loop over them meets it.
use Rattle.std.proofs.Common.{◌≡◌, ℕ, ◌<◌, List, Option, Some, None, Result, Ok, Err, sym, subst}
use Rattle.std.specs.Prelude.{IfSome}
use Rattle.ruby_types.specs.declared.tree.Expr.{Expr}
use Rattle.ruby_grammar.specs.Words.{Word}
use Rattle.ruby_grammar.specs.Rules.{Scope, more_postfix}
use Rattle.ruby_parse_cursor.specs.declared.fault.Fault.{Fault}
use Rattle.ruby_parse_steps.specs.declared.postfixes.Postfix.{Postfix}
use Rattle.ruby_parse_steps.specs.Gives.{GivesRule}
use Rattle.ruby_parse_steps.specs.Postfixes.{with_postfix, GivesPerhapsPostfix}

module _ (here : Scope) (x : Expr) (ws rest : List Word) where
  -- A fault behind an expression.
  pub part_fails : (d e : Fault) → e ≡ d → GivesPerhapsPostfix here ws (Err d) rest →
      GivesRule (more_postfix here x) ws (Err e) rest
  part_fails d e q g = subst (λ z. GivesRule (more_postfix here x) ws (Err z) rest) (sym q) (g x)

  -- One part, with which it goes on.
  pub part_goes_on : (o : Option Postfix) (part : Postfix) (y : Expr) (end : List Word) (r : Result Expr Fault) →
      o ≡ Some part → GivesPerhapsPostfix here ws (Ok o) rest → y ≡ with_postfix x part →
      GivesRule (more_postfix here y) rest r end → GivesRule (more_postfix here x) ws r end
  part_goes_on o part y end r e g q h =
      let reads : GivesPerhapsPostfix here ws (Ok (Some part)) rest =
      subst (λ z. GivesPerhapsPostfix here ws (Ok z) rest) e g in
      reads x r end (subst (λ z. GivesRule (more_postfix here z) rest r end) q h)

  -- No part any more.
  pub part_ends : (o : Option Postfix) → o ≡ None → GivesPerhapsPostfix here ws (Ok o) rest →
      GivesRule (more_postfix here x) ws (Ok x) rest
  part_ends o e g =
      let reads : GivesPerhapsPostfix here ws (Ok None) rest =
      subst (λ z. GivesPerhapsPostfix here ws (Ok z) rest) e g in
      reads x

-- A part takes words.
pub part_taken : (o : Option Postfix) (part : Postfix) (m n : ℕ) → o ≡ Some part → IfSome o (λ p. m < n) → m < n
part_taken o part m n e h =
    let some : IfSome (Some part) (λ p. m < n) = subst (λ (z : Option Postfix). IfSome z (λ p. m < n)) e h in
    some
