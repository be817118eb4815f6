-- How a condition behind a statement is read.
use Rattle.std.proofs.Common.{◌≡◌, ℕ, true, false, List, drop, sym, ◌∙◌, subst, Ok, Err, Some, None}
use Rattle.std.proofs.lemmas.Bool.{cond-true, cond-false}
use Rattle.descent.specs.Grammar.{give, call, only}
use Rattle.descent.specs.Reading.{head}
use Rattle.ruby_types.specs.declared.tree.Expr.{Expr}
use Rattle.ruby_types.specs.declared.tree.Expr.TheVariants as expr
use Rattle.ruby_types.specs.declared.tree.Stmt.{Stmt}
use Rattle.ruby_grammar.specs.Words.{Word}
use Rattle.ruby_grammar.specs.Terminals.{is_if, is_unless}
use Rattle.ruby_grammar.specs.Rules.{Name, Known, a_statement, condition_behind, expression}
use Rattle.ruby_grammar.specs.Statements.{known, scope, if_behind, unless_behind}
use Rattle.ruby_grammar.specs.Choices.{next_is}
use Rattle.ruby_parse_cursor.specs.declared.fault.Fault.{Fault}
use Rattle.ruby_parse_cursor.specs.declared.fault.Fault.TheVariants as f
use Rattle.ruby_parse_steps.specs.Gives.{GivesRule}
use Rattle.ruby_parse_steps.proofs.Descent.{g_give}
use Rattle.ruby_parse_statement.specs.Answers.{conditioned, GivesCondition}
use Rattle.ruby_parse_statement.proofs.Steps.{skips, value, value_fails, picked, unmade}

module _ (levels : ℕ) (names : List Name) where
  abbrev with_if : Stmt → Expr → Known
  with_if s x = known (conditioned s (Some x)) names

  abbrev with_unless : Stmt → Expr → Known
  with_unless s x = known (conditioned s (Some (expr.Not x))) names

  -- `if` and a condition behind a statement.
  pub if_reads : (x : Expr) (ws mid rest : List Word) → next_is is_if (head ws) ≡ true → mid ≡ drop 1 ws →
      GivesRule (expression (scope levels names)) mid (Ok x) rest → GivesCondition levels names ws (Ok (Some x)) rest
  if_reads x ws mid rest p d g = λ s. picked (condition_behind levels (known s names))
      (if_behind levels (known s names)) ws rest (Ok (with_if s x)) (cond-true _ _ _ p)
      (skips is_if (call (expression (scope levels names)) λ x. give (with_if s x)) ws mid rest
      (Ok (with_if s x)) p d (value (scope levels names) (λ x. with_if s x) x mid rest g))

  -- A fault in a condition behind `if`.
  pub if_breaks : (e : Fault) (ws mid rest : List Word) → next_is is_if (head ws) ≡ true → mid ≡ drop 1 ws →
      GivesRule (expression (scope levels names)) mid (Err e) rest → GivesCondition levels names ws (Err e) rest
  if_breaks e ws mid rest p d g = λ s. picked (condition_behind levels (known s names))
      (if_behind levels (known s names)) ws rest (Err e) (cond-true _ _ _ p)
      (skips is_if (call (expression (scope levels names)) λ x. give (with_if s x)) ws mid rest (Err e) p d
      (value_fails (scope levels names) (λ x. give (with_if s x)) e mid rest g))

  -- `unless` and a condition behind a statement, which it turns round.
  pub unless_reads : (x y : Expr) (ws mid rest : List Word) → next_is is_if (head ws) ≡ false →
      next_is is_unless (head ws) ≡ true → mid ≡ drop 1 ws → y ≡ expr.Not x →
      GivesRule (expression (scope levels names)) mid (Ok x) rest → GivesCondition levels names ws (Ok (Some y)) rest
  unless_reads x y ws mid rest p q d n g = λ s.
      subst (λ z. GivesRule (condition_behind levels (known s names)) ws (Ok (with_if s z)) rest) (sym n)
      (picked (condition_behind levels (known s names)) (unless_behind levels (known s names)) ws rest
      (Ok (with_unless s x)) (cond-false _ _ _ p ∙ cond-true _ _ _ q)
      (skips is_unless (call (expression (scope levels names)) λ x. give (with_unless s x)) ws mid rest
      (Ok (with_unless s x)) q d (value (scope levels names) (λ x. with_unless s x) x mid rest g)))

  -- A fault in a condition behind `unless`.
  pub unless_breaks : (e : Fault) (ws mid rest : List Word) → next_is is_if (head ws) ≡ false →
      next_is is_unless (head ws) ≡ true → mid ≡ drop 1 ws →
      GivesRule (expression (scope levels names)) mid (Err e) rest → GivesCondition levels names ws (Err e) rest
  unless_breaks e ws mid rest p q d g = λ s. picked (condition_behind levels (known s names))
      (unless_behind levels (known s names)) ws rest (Err e) (cond-false _ _ _ p ∙ cond-true _ _ _ q)
      (skips is_unless (call (expression (scope levels names)) λ x. give (with_unless s x)) ws mid rest (Err e) q d
      (value_fails (scope levels names) (λ x. give (with_unless s x)) e mid rest g))

  -- No condition stands behind a statement.
  pub no_condition : (ws : List Word) → next_is is_if (head ws) ≡ false → next_is is_unless (head ws) ≡ false →
      GivesCondition levels names ws (Ok None) ws
  no_condition ws p q = λ s. picked (condition_behind levels (known s names)) (give (known s names)) ws ws
      (Ok (known s names)) (cond-false _ _ _ p ∙ cond-false _ _ _ q) (g_give {s = a_statement} (known s names) ws)

  -- Want of memory in a condition behind a statement.
  pub condition_unmade : (e : Fault) (ws rest : List Word) → e ≡ f.Memory → GivesCondition levels names ws (Err e) rest
  condition_unmade e ws rest u = λ s. unmade (only (condition_behind levels (known s names))) ws rest e u
