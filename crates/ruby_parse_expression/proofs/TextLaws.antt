-- How the parts of a text are read.
use Rattle.std.proofs.Common.{◌≡◌, ℕ, suc, Bool, true, false, cond, List, [], ◌∷◌, ◌++◌, drop, refl, ap, ◌∙◌, subst}
use Rattle.std.proofs.Common.{Result, Ok, Err}
use Rattle.descent.specs.Grammar.{give, only}
use Rattle.descent.specs.Reading.{take, head, choose}
use Rattle.ruby_types.specs.declared.tree.Expr.{Expr}
use Rattle.ruby_types.specs.declared.tree.Expr.TheVariants as expr
use Rattle.ruby_types.specs.declared.tree.Part.{Part}
use Rattle.ruby_types.specs.declared.tree.Part.TheVariants as part
use Rattle.ruby_grammar.specs.Words.{Word}
use Rattle.ruby_grammar.specs.Terminals.{is_text_open, is_text_piece, is_text_close, is_inside_open, is_inside_close}
use Rattle.ruby_grammar.specs.Rules.{Scope, an_expression, some_parts, expression, primary, text_parts}
use Rattle.ruby_grammar.specs.Values.{text_bytes, is_double_quote, begins_with}
use Rattle.ruby_grammar.specs.Expressions.{at_levels, text_from, inside_from, piece_from}
use Rattle.ruby_grammar.specs.Choices.{ruby_choices, next_is, deepen}
use Rattle.ruby_parse_cursor.specs.Views.{head_terminal}
use Rattle.ruby_parse_cursor.specs.declared.fault.Fault.{Fault}
use Rattle.ruby_parse_cursor.specs.declared.fault.Fault.TheVariants as f
use Rattle.ruby_parse_steps.specs.Gives.{GivesRule}
use Rattle.ruby_parse_steps.specs.Primaries.{begins_double}
use Rattle.ruby_parse_steps.proofs.Descent.{g_give, g_chosen, g_word, g_skip, g_lacks, g_then, g_fails, g_deep}
use Rattle.ruby_parse_steps.proofs.EnclosedLaws.{enclosed_reads, enclosed_breaks, enclosed_lacks_close}
use Rattle.ruby_parse_steps.proofs.PrimaryLaws.{chosen_at}

module _ (here : Scope) (double : Bool) (parts : List Part) (ws : List Word) where
  piece_chosen : next_is is_text_piece (head ws) ≡ true → choose ruby_choices (text_parts here double parts) ws
      ≡ take (piece_from here double parts)
  piece_chosen p = ap (λ b. cond b (take (piece_from here double parts))
      (cond (next_is is_inside_open (head ws)) (deepen here.levels (inside_from here double parts))
      (take (give parts)))) p

  inside_chosen : next_is is_text_piece (head ws) ≡ false → next_is is_inside_open (head ws) ≡ true →
      choose ruby_choices (text_parts here double parts) ws ≡ deepen here.levels (inside_from here double parts)
  inside_chosen p q =
      ap (λ b. cond b (take (piece_from here double parts))
      (cond (next_is is_inside_open (head ws)) (deepen here.levels (inside_from here double parts))
      (take (give parts)))) p
      ∙ ap (λ b. cond b (deepen here.levels (inside_from here double parts)) (take (give parts))) q

  end_chosen : next_is is_text_piece (head ws) ≡ false → next_is is_inside_open (head ws) ≡ false →
      choose ruby_choices (text_parts here double parts) ws ≡ take (give parts)
  end_chosen p q =
      ap (λ b. cond b (take (piece_from here double parts))
      (cond (next_is is_inside_open (head ws)) (deepen here.levels (inside_from here double parts))
      (take (give parts)))) p
      ∙ ap (λ b. cond b (deepen here.levels (inside_from here double parts)) (take (give parts))) q

  -- No part of a text is at hand, so the parts end.
  pub parts_end : next_is is_text_piece (head ws) ≡ false → next_is is_inside_open (head ws) ≡ false →
      GivesRule (text_parts here double parts) ws (Ok parts) ws
  parts_end p q = g_chosen {s = some_parts} (text_parts here double parts) (give parts) ws ws (Ok parts)
      (end_chosen p q) (g_give {s = some_parts} parts ws)

  -- A piece of a text, and what follows it.
  pub piece_reads : (w : Word) (more : List Part) (mid rest : List Word) (r : Result (List Part) Fault) →
      ws ≡ w ∷ mid → is_text_piece w ≡ true → more ≡ parts ++ part.Plain (text_bytes double w.text) ∷ [] →
      GivesRule (text_parts here double more) mid r rest → GivesRule (text_parts here double parts) ws r rest
  piece_reads w more mid rest r e p q g =
      g_chosen {s = some_parts} (text_parts here double parts) (piece_from here double parts) ws rest r
      (piece_chosen (ap (λ l. next_is is_text_piece (head l)) e ∙ p))
      (g_word {s = some_parts} is_text_piece _ w ws mid rest r e p
      (subst (λ xs. GivesRule (text_parts here double xs) mid r rest) q g))

  -- No level is left for an expression in a text.
  pub inside_deep : next_is is_text_piece (head ws) ≡ false → next_is is_inside_open (head ws) ≡ true →
      here.levels ≡ 0 → GivesRule (text_parts here double parts) ws (Err f.Deep) ws
  inside_deep p q e = g_deep {s = some_parts} (text_parts here double parts) ws (inside_chosen p q
      ∙ ap (λ n. deepen n (inside_from here double parts)) e)

module _ (here inner : Scope) (n : ℕ) (double : Bool) (parts : List Part) (ws mid : List Word)
    (p : next_is is_text_piece (head ws) ≡ false) (q : next_is is_inside_open (head ws) ≡ true)
    (l : here.levels ≡ suc n) (i : inner ≡ at_levels here n) (d : mid ≡ drop 1 ws) where
  inside_taken : choose ruby_choices (text_parts here double parts) ws ≡ take (inside_from here double parts n)
  inside_taken = inside_chosen here double parts ws p q ∙ ap (λ m. deepen m (inside_from here double parts)) l

  -- An expression in a text, and what follows it.
  pub inside_reads : (x : Expr) (more : List Part) (behind rest end : List Word) (r : Result (List Part) Fault) →
      GivesRule (expression inner) mid (Ok x) behind → next_is is_inside_close (head behind) ≡ true →
      rest ≡ drop 1 behind →
      more ≡ parts ++ part.Inside x ∷ [] → GivesRule (text_parts here double more) rest r end →
      GivesRule (text_parts here double parts) ws r end
  inside_reads x more behind rest end r a c e m g =
      enclosed_reads {s = some_parts} {v = an_expression} (text_parts here double parts) (λ h. expression h)
      (λ x. only (text_parts here double (parts ++ part.Inside x ∷ []))) is_inside_open is_inside_close here
      inner n ws mid inside_taken q d i
      x behind rest end r a c e (subst (λ xs. GivesRule (text_parts here double xs) rest r end) m g)

  -- A fault in an expression in a text.
  pub inside_breaks : (e : Fault) (rest : List Word) → GivesRule (expression inner) mid (Err e) rest →
      GivesRule (text_parts here double parts) ws (Err e) rest
  inside_breaks e rest a =
      enclosed_breaks {s = some_parts} {v = an_expression} (text_parts here double parts) (λ h. expression h)
      (λ x. only (text_parts here double (parts ++ part.Inside x ∷ []))) is_inside_open is_inside_close here
      inner n ws mid inside_taken q d i e rest a

  -- The `}` of an expression in a text lacks.
  pub inside_lacks_close : (x : Expr) (behind : List Word) → GivesRule (expression inner) mid (Ok x) behind →
      next_is is_inside_close (head behind) ≡ false →
      GivesRule (text_parts here double parts) ws (Err f.Unexpected) behind
  inside_lacks_close x behind a c =
      enclosed_lacks_close {s = some_parts} {v = an_expression} (text_parts here double parts) (λ h. expression h)
      (λ x. only (text_parts here double (parts ++ part.Inside x ∷ []))) is_inside_open is_inside_close here
      inner n ws mid inside_taken q d i x behind a c

-- ---- a whole text
same_quote : (text : List ℕ) → begins_double text ≡ begins_with 34 text
same_quote [] = refl
same_quote (b ∷ bs) = refl

module _ (here : Scope) (w : Word) (double : Bool) (ws mid : List Word) (s : head_terminal ws ≡ 56) (e : ws ≡ w ∷ mid)
    (o : is_text_open w ≡ true) (t : double ≡ begins_double w.text) where
  parts_as : (r : Result (List Part) Fault) (rest : List Word) → GivesRule (text_parts here double []) mid r rest →
      GivesRule (text_parts here (is_double_quote w) []) mid r rest
  parts_as r rest g = subst (λ b. GivesRule (text_parts here b []) mid r rest) (t ∙ same_quote w.text) g

  -- A text with its quotes.
  pub text_reads : (parts : List Part) (behind rest : List Word) →
      GivesRule (text_parts here double []) mid (Ok parts) behind → next_is is_text_close (head behind) ≡ true →
      rest ≡ drop 1 behind → GivesRule (primary here) ws (Ok (expr.Str parts)) rest
  text_reads parts behind rest g c d =
      g_chosen {s = an_expression} (primary here) (text_from here) ws rest (Ok (expr.Str parts))
      (chosen_at here ws 56 _ s refl refl)
      (g_word {s = an_expression} is_text_open _ w ws mid rest (Ok (expr.Str parts)) e o
      (g_then {s = an_expression} {v = some_parts} (text_parts here (is_double_quote w) []) _ parts mid behind
      rest (Ok (expr.Str parts)) (parts_as (Ok parts) behind g)
      (g_skip {s = an_expression} is_text_close _ behind rest rest (Ok (expr.Str parts)) c d
      (λ _. g_give {s = an_expression} (expr.Str parts) rest))))

  -- A fault in the parts of a text.
  pub text_breaks : (d : Fault) (rest : List Word) → GivesRule (text_parts here double []) mid (Err d) rest →
      GivesRule (primary here) ws (Err d) rest
  text_breaks d rest g =
      g_chosen {s = an_expression} (primary here) (text_from here) ws rest (Err d) (chosen_at here ws 56 _ s refl refl)
      (g_word {s = an_expression} is_text_open _ w ws mid rest (Err d) e o
      (g_fails {s = an_expression} {v = some_parts} (text_parts here (is_double_quote w) []) _ mid rest d
      (parts_as (Err d) rest g)))

  -- The closing quote of a text lacks.
  pub text_lacks_close : (parts : List Part) (behind : List Word) →
      GivesRule (text_parts here double []) mid (Ok parts) behind → next_is is_text_close (head behind) ≡ false →
      GivesRule (primary here) ws (Err f.Unexpected) behind
  text_lacks_close parts behind g c =
      g_chosen {s = an_expression} (primary here) (text_from here) ws behind (Err f.Unexpected)
      (chosen_at here ws 56 _ s refl refl)
      (g_word {s = an_expression} is_text_open _ w ws mid behind (Err f.Unexpected) e o
      (g_then {s = an_expression} {v = some_parts} (text_parts here (is_double_quote w) []) _ parts mid behind
      behind (Err f.Unexpected) (parts_as (Ok parts) behind g)
      (g_lacks {s = an_expression} is_text_close _ behind c)))
