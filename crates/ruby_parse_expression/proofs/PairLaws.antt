-- How pairs, and lists of them, are read.
use Rattle.std.proofs.Common.{◌≡◌, Bool, true, false, cond, List, [], ◌∷◌, ◌++◌, drop, sym, ap, ◌∙◌, subst, Result, Ok}
use Rattle.std.proofs.Common.{Err}
use Rattle.descent.specs.Grammar.{give, token, only}
use Rattle.descent.specs.Reading.{take, head, choose}
use Rattle.ruby_types.specs.declared.tree.Expr.{Expr}
use Rattle.ruby_types.specs.declared.tree.Expr.TheVariants as expr
use Rattle.ruby_grammar.specs.Words.{Word}
use Rattle.ruby_grammar.specs.Terminals.{is_comma, is_label, is_arrow}
use Rattle.ruby_grammar.specs.Rules.{Scope, some_pairs, a_pair, expression, pairs, more_pairs, pair}
use Rattle.ruby_grammar.specs.Values.{before_colon}
use Rattle.ruby_grammar.specs.Expressions.{pair_then, label_pair, arrow_pair}
use Rattle.ruby_grammar.specs.Choices.{ruby_choices, next_is, starts_pair}
use Rattle.ruby_parse_cursor.specs.declared.fault.Fault.{Fault}
use Rattle.ruby_parse_cursor.specs.declared.fault.Fault.TheVariants as f
use Rattle.ruby_parse_steps.specs.Gives.{Gives, GivesRule}
use Rattle.ruby_parse_steps.proofs.Descent.{g_give, g_chosen, g_word, g_skip, g_lacks, g_then, g_fails}

module _ (here : Scope) (ps : List (Expr × Expr)) where
  pairs_chosen : (ws : List Word) (b : Bool) → next_is starts_pair (head ws) ≡ b →
      choose ruby_choices (pairs here ps) ws ≡ cond b (take (pair_then here ps)) (take (give ps))
  pairs_chosen ws b e = ap (λ b. cond b (take (pair_then here ps)) (take (give ps))) e

  comma_chosen : (ws : List Word) (b : Bool) → next_is is_comma (head ws) ≡ b →
      choose ruby_choices (more_pairs here ps) ws ≡ cond b (take (token is_comma (λ _. only (pairs here ps))))
      (take (give ps))
  comma_chosen ws b e = ap (λ b. cond b (take (token is_comma (λ _. only (pairs here ps)))) (take (give ps))) e

  -- A pair, and what follows it.
  pub pair_reads : (p : Expr × Expr) (ws mid rest : List Word) (r : Result (List (Expr × Expr)) Fault) →
      next_is starts_pair (head ws) ≡ true →
      GivesRule (pair here) ws (Ok p) mid → GivesRule (more_pairs here (ps ++ p ∷ [])) mid r rest →
      GivesRule (pairs here ps) ws r rest
  pair_reads p ws mid rest r q a g = g_chosen {s = some_pairs} (pairs here ps) (pair_then here ps) ws rest r
      (pairs_chosen ws true q) (g_then {s = some_pairs} {v = a_pair} (pair here) _ p ws mid rest r a g)

  -- A fault in a pair.
  pub pair_breaks : (e : Fault) (ws rest : List Word) → next_is starts_pair (head ws) ≡ true →
      GivesRule (pair here) ws (Err e) rest → GivesRule (pairs here ps) ws (Err e) rest
  pair_breaks e ws rest q a = g_chosen {s = some_pairs} (pairs here ps) (pair_then here ps) ws rest (Err e)
      (pairs_chosen ws true q) (g_fails {s = some_pairs} {v = a_pair} (pair here) _ ws rest e a)

  -- No pair is at hand, so the list ends.
  pub pairs_end : (ws : List Word) → next_is starts_pair (head ws) ≡ false → GivesRule (pairs here ps) ws (Ok ps) ws
  pairs_end ws p = g_chosen {s = some_pairs} (pairs here ps) (give ps) ws ws (Ok ps) (pairs_chosen ws false p)
      (g_give {s = some_pairs} ps ws)

  -- A comma, and perhaps more pairs.
  pub comma_reads : (ws mid rest : List Word) (r : Result (List (Expr × Expr)) Fault) →
      next_is is_comma (head ws) ≡ true → mid ≡ drop 1 ws → GivesRule (pairs here ps) mid r rest →
      GivesRule (more_pairs here ps) ws r rest
  comma_reads ws mid rest r p d g = g_chosen {s = some_pairs} (more_pairs here ps)
      (token is_comma (λ _. only (pairs here ps))) ws rest r (comma_chosen ws true p)
      (g_skip {s = some_pairs} is_comma _ ws mid rest r p d (λ _. g))

  -- No comma is at hand, so the list ends.
  pub no_comma : (ws : List Word) → next_is is_comma (head ws) ≡ false → GivesRule (more_pairs here ps) ws (Ok ps) ws
  no_comma ws p = g_chosen {s = some_pairs} (more_pairs here ps) (give ps) ws ws (Ok ps) (comma_chosen ws false p)
      (g_give {s = some_pairs} ps ws)

module _ (here : Scope) (ws : List Word) where
  pair_chosen : (b : Bool) → next_is is_label (head ws) ≡ b → choose ruby_choices (pair here) ws
      ≡ cond b (take (label_pair here)) (take (arrow_pair here))
  pair_chosen b e = ap (λ b. cond b (take (label_pair here)) (take (arrow_pair here))) e

  labelled : (w : Word) (mid : List Word) → ws ≡ w ∷ mid → is_label w ≡ true → next_is is_label (head ws) ≡ true
  labelled w mid e p = ap (λ l. next_is is_label (head l)) e ∙ p

  -- A label and its value.
  pub label_reads : (w : Word) (b : Expr) (y : Expr × Expr) (mid rest : List Word) → ws ≡ w ∷ mid →
      is_label w ≡ true → GivesRule (expression here) mid (Ok b) rest → y ≡ (expr.Sym (before_colon w.text), b) →
      GivesRule (pair here) ws (Ok y) rest
  label_reads w b y mid rest e p a q =
      g_chosen {s = a_pair} (pair here) (label_pair here) ws rest (Ok y) (pair_chosen true (labelled w mid e p))
      (g_word {s = a_pair} is_label _ w ws mid rest (Ok y) e p
      (g_then {s = a_pair} (expression here) _ b mid rest rest (Ok y) a
      (subst (λ z. Gives {s = a_pair} (give (expr.Sym (before_colon w.text), b)) rest (Ok z) rest) (sym q)
      (g_give {s = a_pair} (expr.Sym (before_colon w.text), b) rest))))

  -- A fault in the value of a label.
  pub label_breaks : (w : Word) (d : Fault) (mid rest : List Word) → ws ≡ w ∷ mid → is_label w ≡ true →
      GivesRule (expression here) mid (Err d) rest → GivesRule (pair here) ws (Err d) rest
  label_breaks w d mid rest e p a =
      g_chosen {s = a_pair} (pair here) (label_pair here) ws rest (Err d) (pair_chosen true (labelled w mid e p))
      (g_word {s = a_pair} is_label _ w ws mid rest (Err d) e p (g_fails {s = a_pair} (expression here) _ mid rest d a))

  -- A key, `=>` and a value.
  pub arrow_reads : (a b : Expr) (mid inside rest : List Word) → next_is is_label (head ws) ≡ false →
      GivesRule (expression here) ws (Ok a) mid → next_is is_arrow (head mid) ≡ true → inside ≡ drop 1 mid →
      GivesRule (expression here) inside (Ok b) rest → GivesRule (pair here) ws (Ok (a, b)) rest
  arrow_reads a b mid inside rest n g p d h =
      g_chosen {s = a_pair} (pair here) (arrow_pair here) ws rest (Ok (a, b)) (pair_chosen false n)
      (g_then {s = a_pair} (expression here) _ a ws mid rest (Ok (a, b)) g
      (g_skip {s = a_pair} is_arrow _ mid inside rest (Ok (a, b)) p d
      (λ _. g_then {s = a_pair} (expression here) _ b inside rest rest (Ok (a, b)) h
      (g_give {s = a_pair} (a, b) rest))))

  -- A fault in a key.
  pub arrow_breaks : (e : Fault) (rest : List Word) → next_is is_label (head ws) ≡ false →
      GivesRule (expression here) ws (Err e) rest → GivesRule (pair here) ws (Err e) rest
  arrow_breaks e rest n g = g_chosen {s = a_pair} (pair here) (arrow_pair here) ws rest (Err e) (pair_chosen false n)
      (g_fails {s = a_pair} (expression here) _ ws rest e g)

  -- The `=>` behind a key lacks.
  pub arrow_lacks : (a : Expr) (mid : List Word) → next_is is_label (head ws) ≡ false →
      GivesRule (expression here) ws (Ok a) mid → next_is is_arrow (head mid) ≡ false →
      GivesRule (pair here) ws (Err f.Unexpected) mid
  arrow_lacks a mid n g p =
      g_chosen {s = a_pair} (pair here) (arrow_pair here) ws mid (Err f.Unexpected) (pair_chosen false n)
      (g_then {s = a_pair} (expression here) _ a ws mid mid (Err f.Unexpected) g
      (g_lacks {s = a_pair} is_arrow _ mid p))

  -- A fault in the value behind `=>`.
  pub arrow_breaks_behind : (a : Expr) (e : Fault) (mid inside rest : List Word) →
      next_is is_label (head ws) ≡ false → GivesRule (expression here) ws (Ok a) mid →
      next_is is_arrow (head mid) ≡ true → inside ≡ drop 1 mid →
      GivesRule (expression here) inside (Err e) rest → GivesRule (pair here) ws (Err e) rest
  arrow_breaks_behind a e mid inside rest n g p d h =
      g_chosen {s = a_pair} (pair here) (arrow_pair here) ws rest (Err e) (pair_chosen false n)
      (g_then {s = a_pair} (expression here) _ a ws mid rest (Err e) g
      (g_skip {s = a_pair} is_arrow _ mid inside rest (Err e) p d
      (λ _. g_fails {s = a_pair} (expression here) _ inside rest e h)))
