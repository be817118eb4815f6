-- One turn of the loops over members and pairs.
use Rattle.std.proofs.Common.{◌≡◌, true, false, List, [], ◌∷◌, ◌++◌, drop, subst, Result, Ok}
use Rattle.descent.specs.Reading.{head}
use Rattle.ruby_types.specs.declared.tree.Expr.{Expr}
use Rattle.ruby_grammar.specs.Words.{Word}
use Rattle.ruby_grammar.specs.Terminals.{is_comma}
use Rattle.ruby_grammar.specs.Rules.{Scope, expression, members, more_members, pairs, more_pairs, pair}
use Rattle.ruby_grammar.specs.Choices.{next_is, starts_pair}
use Rattle.ruby_parse_cursor.specs.Views.{head_terminal, expression_terminal}
use Rattle.ruby_parse_cursor.specs.declared.fault.Fault.{Fault}
use Rattle.ruby_parse_steps.specs.Gives.{GivesRule}
use Rattle.ruby_parse_steps.proofs.ArgumentLaws.{member_reads, comma_reads, no_comma}
use Rattle.ruby_parse_expression.proofs.PairLaws as p

module _ (here : Scope) (xs more : List Expr) (x : Expr) (ws mid : List Word)
    (s : expression_terminal (head_terminal ws) ≡ true) (a : GivesRule (expression here) ws (Ok x) mid)
    (m : more ≡ xs ++ x ∷ []) where
  -- A member with a comma behind it, and what follows.
  pub member_goes_on : (rest end : List Word) (r : Result (List Expr) Fault) → next_is is_comma (head mid) ≡ true →
      rest ≡ drop 1 mid → GivesRule (members here more) rest r end → GivesRule (members here xs) ws r end
  member_goes_on rest end r c d g = member_reads here xs x ws mid end r s a
      (comma_reads here (xs ++ x ∷ []) mid rest end r c d (subst (λ l. GivesRule (members here l) rest r end) m g))

  -- A member without a comma behind it is the last.
  pub member_last : next_is is_comma (head mid) ≡ false → GivesRule (members here xs) ws (Ok more) mid
  member_last c = member_reads here xs x ws mid mid (Ok more) s a
      (subst (λ l. GivesRule (more_members here l) mid (Ok more) mid) m (no_comma here more mid c))

module _ (here : Scope) (ps more : List (Expr × Expr)) (x : Expr × Expr) (ws mid : List Word)
    (s : next_is starts_pair (head ws) ≡ true) (a : GivesRule (pair here) ws (Ok x) mid) (m : more ≡ ps ++ x ∷ []) where
  -- A pair with a comma behind it, and what follows.
  pub pair_goes_on : (rest end : List Word) (r : Result (List (Expr × Expr)) Fault) →
      next_is is_comma (head mid) ≡ true → rest ≡ drop 1 mid → GivesRule (pairs here more) rest r end →
      GivesRule (pairs here ps) ws r end
  pair_goes_on rest end r c d g = p.pair_reads here ps x ws mid end r s a
      (p.comma_reads here (ps ++ x ∷ []) mid rest end r c d (subst (λ l. GivesRule (pairs here l) rest r end) m g))

  -- A pair without a comma behind it is the last.
  pub pair_last : next_is is_comma (head mid) ≡ false → GivesRule (pairs here ps) ws (Ok more) mid
  pair_last c = p.pair_reads here ps x ws mid mid (Ok more) s a
      (subst (λ l. GivesRule (more_pairs here l) mid (Ok more) mid) m (p.no_comma here more mid c))
