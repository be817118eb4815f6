-- How what stands in brackets, and a constant, are read as primaries.
use Rattle.std.proofs.Common.{◌≡◌, ◌⊎◌, ⊎_elim, ℕ, suc, true, false, ◌==◌, ◌||◌, ◌<◌, cond, length}
use Rattle.std.proofs.Common.{List, [], ◌∷◌, drop, refl, sym, ap, ◌∙◌, subst, arith, Result, Ok, Err, None}
use Rattle.std.proofs.lemmas.Bool.{eqb-true, or_cases}
use Rattle.descent.specs.Grammar.{give, token, only}
use Rattle.descent.specs.Reading.{Choice, take, nothing, head, choose, done, by_give}
use Rattle.descent.proofs.Moves.{Moves, moves_token, moves_call}
use Rattle.ruby_types.specs.declared.tree.Expr.{Expr}
use Rattle.ruby_types.specs.declared.tree.Expr.TheVariants as expr
use Rattle.ruby_types.specs.declared.tree.ConstRef.{ConstRef}
use Rattle.ruby_grammar.specs.Words.{Word}
use Rattle.ruby_grammar.specs.Terminals.{is, terminal, is_const, is_path, is_open_bracket, is_close_bracket}
use Rattle.ruby_grammar.specs.Terminals.{is_open_brace}
use Rattle.ruby_grammar.specs.Terminals.{is_close_brace, is_open_paren, is_close_paren}
use Rattle.ruby_grammar.specs.Rules.{ruby, Scope, an_expression, some_expressions, some_pairs, a_constant, primary}
use Rattle.ruby_grammar.specs.Rules.{constant, members, pairs, expression}
use Rattle.ruby_grammar.specs.Expressions.{at_levels, array_from, hash_from, group_from, constant_alone, constant_from}
use Rattle.ruby_grammar.specs.Language.{ruby_grammar}
use Rattle.ruby_grammar.specs.Choices.{ruby_choices, next_is, deepen}
use Rattle.ruby_parse_cursor.specs.Views.{head_terminal}
use Rattle.ruby_parse_cursor.specs.declared.fault.Fault.{Fault}
use Rattle.ruby_parse_cursor.specs.declared.fault.Fault.TheVariants as f
use Rattle.ruby_parse_steps.specs.Gives.{GivesRule, GivesConstant}
use Rattle.ruby_parse_steps.specs.Primaries.{opens_bracket}
use Rattle.ruby_parse_steps.proofs.Descent.{g_give, g_chosen, g_then, g_fails, g_deep}
use Rattle.ruby_parse_steps.proofs.EnclosedLaws.{enclosed_reads, enclosed_breaks, enclosed_lacks_close}
use Rattle.ruby_parse_steps.proofs.PrimaryLaws.{chosen_at, sees}

-- the first word's terminal, where it passes
pub terminal_is : (n : ℕ) (ws : List Word) → next_is (is n) (head ws) ≡ true → head_terminal ws ≡ n
terminal_is n [] p = absurd (cc)
terminal_is n (w ∷ ws) p = eqb-true (terminal w) n p

-- and where it is a bracket that is no `[` and no `{`
other_terminal : (n : ℕ) (ws : List Word) → (98 == n) ≡ false → next_is (is n) (head ws) ≡ false →
    (head_terminal ws == n) ≡ false
other_terminal n [] o p = o
other_terminal n (w ∷ ws) o p = p

left_paren : (n : ℕ) → opens_bracket n ≡ true → (n == 93) ≡ false → (n == 95) ≡ false → n ≡ 91
left_paren n h p q =
    ⊎_elim (λ ab. ⊎_elim (λ a. eqb-true n 91 a) (λ b. absurd (cc)) (or_cases (n == 91) (n == 93) ab)) (λ c. absurd (cc))
    (or_cases ((n == 91) || (n == 93)) (n == 95) h)

-- A bracket that is neither `[` nor `{` is `(`.
pub is_paren : (ws : List Word) → opens_bracket (head_terminal ws) ≡ true → next_is is_open_bracket (head ws) ≡ false →
    next_is is_open_brace (head ws) ≡ false → head_terminal ws ≡ 91
is_paren ws h p q = left_paren (head_terminal ws) h (other_terminal 93 ws refl p) (other_terminal 95 ws refl q)

module _ (here : Scope) (ws : List Word) where
  deep_array : here.levels ≡ 0 → head_terminal ws ≡ 93 → GivesRule (primary here) ws (Err f.Deep) ws
  deep_array l s = g_deep {s = an_expression} (primary here) ws (chosen_at here ws 93 _ s refl refl
      ∙ ap (λ n. deepen n (array_from here)) l)

  deep_hash : here.levels ≡ 0 → head_terminal ws ≡ 95 → GivesRule (primary here) ws (Err f.Deep) ws
  deep_hash l s = g_deep {s = an_expression} (primary here) ws (chosen_at here ws 95 _ s refl refl
      ∙ ap (λ n. deepen n (hash_from here)) l)

  deep_group : here.levels ≡ 0 → head_terminal ws ≡ 91 → GivesRule (primary here) ws (Err f.Deep) ws
  deep_group l s = g_deep {s = an_expression} (primary here) ws (chosen_at here ws 91 _ s refl refl
      ∙ ap (λ n. deepen n (group_from here)) l)

  -- No level is left for a bracket.
  pub bracket_deep : opens_bracket (head_terminal ws) ≡ true → here.levels ≡ 0 →
      GivesRule (primary here) ws (Err f.Deep) ws
  bracket_deep h l =
      ⊎_elim (λ ab. ⊎_elim (λ a. deep_group l (eqb-true (head_terminal ws) 91 a))
      (λ b. deep_array l (eqb-true (head_terminal ws) 93 b))
      (or_cases (head_terminal ws == 91) (head_terminal ws == 93) ab))
      (λ c. deep_hash l (eqb-true (head_terminal ws) 95 c))
      (or_cases ((head_terminal ws == 91) || (head_terminal ws == 93)) (head_terminal ws == 95) h)

module _ (here inner : Scope) (n : ℕ) (ws mid : List Word) (l : here.levels ≡ suc n) (i : inner ≡ at_levels here n)
    (d : mid ≡ drop 1 ws) where
  -- ---- `[..]`
  -- A list in brackets.
  pub array_reads : (xs : List Expr) (behind rest : List Word) → next_is is_open_bracket (head ws) ≡ true →
      GivesRule (members inner []) mid (Ok xs) behind → next_is is_close_bracket (head behind) ≡ true →
      rest ≡ drop 1 behind →
      GivesRule (primary here) ws (Ok (expr.Array xs)) rest
  array_reads xs behind rest p a c e =
      enclosed_reads {s = an_expression} {v = some_expressions} (primary here) (λ h. members h [])
      (λ xs. give (expr.Array xs)) is_open_bracket is_close_bracket here inner n ws mid
      (chosen_at here ws 93 _ (terminal_is 93 ws p) refl refl ∙ ap (λ m. deepen m (array_from here)) l) p d i xs behind
      rest rest (Ok (expr.Array xs)) a c e (g_give {s = an_expression} (expr.Array xs) rest)

  -- A fault in a list.
  pub array_breaks : (e : Fault) (rest : List Word) → next_is is_open_bracket (head ws) ≡ true →
      GivesRule (members inner []) mid (Err e) rest → GivesRule (primary here) ws (Err e) rest
  array_breaks e rest p a =
      enclosed_breaks {s = an_expression} {v = some_expressions} (primary here) (λ h. members h [])
      (λ xs. give (expr.Array xs)) is_open_bracket is_close_bracket here inner n ws mid
      (chosen_at here ws 93 _ (terminal_is 93 ws p) refl refl ∙ ap (λ m. deepen m (array_from here)) l) p d i e rest a

  -- The `]` of a list lacks.
  pub array_lacks_close : (xs : List Expr) (behind : List Word) → next_is is_open_bracket (head ws) ≡ true →
      GivesRule (members inner []) mid (Ok xs) behind → next_is is_close_bracket (head behind) ≡ false →
      GivesRule (primary here) ws (Err f.Unexpected) behind
  array_lacks_close xs behind p a c =
      enclosed_lacks_close {s = an_expression} {v = some_expressions} (primary here) (λ h. members h [])
      (λ xs. give (expr.Array xs)) is_open_bracket is_close_bracket here inner n ws mid
      (chosen_at here ws 93 _ (terminal_is 93 ws p) refl refl ∙ ap (λ m. deepen m (array_from here)) l) p d i xs
      behind a c

  -- ---- `{..}`
  -- Pairs in braces.
  pub hash_reads : (ps : List (Expr × Expr)) (behind rest : List Word) → next_is is_open_brace (head ws) ≡ true →
      GivesRule (pairs inner []) mid (Ok ps) behind → next_is is_close_brace (head behind) ≡ true →
      rest ≡ drop 1 behind →
      GivesRule (primary here) ws (Ok (expr.Hash ps)) rest
  hash_reads ps behind rest p a c e =
      enclosed_reads {s = an_expression} {v = some_pairs} (primary here) (λ h. pairs h [])
      (λ ps. give (expr.Hash ps)) is_open_brace is_close_brace here inner n ws mid
      (chosen_at here ws 95 _ (terminal_is 95 ws p) refl refl ∙ ap (λ m. deepen m (hash_from here)) l) p d i ps behind
      rest rest (Ok (expr.Hash ps)) a c e (g_give {s = an_expression} (expr.Hash ps) rest)

  -- A fault in pairs.
  pub hash_breaks : (e : Fault) (rest : List Word) → next_is is_open_brace (head ws) ≡ true →
      GivesRule (pairs inner []) mid (Err e) rest → GivesRule (primary here) ws (Err e) rest
  hash_breaks e rest p a =
      enclosed_breaks {s = an_expression} {v = some_pairs} (primary here) (λ h. pairs h [])
      (λ ps. give (expr.Hash ps)) is_open_brace is_close_brace here inner n ws mid
      (chosen_at here ws 95 _ (terminal_is 95 ws p) refl refl ∙ ap (λ m. deepen m (hash_from here)) l) p d i e rest a

  -- The `}` of pairs lacks.
  pub hash_lacks_close : (ps : List (Expr × Expr)) (behind : List Word) → next_is is_open_brace (head ws) ≡ true →
      GivesRule (pairs inner []) mid (Ok ps) behind → next_is is_close_brace (head behind) ≡ false →
      GivesRule (primary here) ws (Err f.Unexpected) behind
  hash_lacks_close ps behind p a c =
      enclosed_lacks_close {s = an_expression} {v = some_pairs} (primary here) (λ h. pairs h [])
      (λ ps. give (expr.Hash ps)) is_open_brace is_close_brace here inner n ws mid
      (chosen_at here ws 95 _ (terminal_is 95 ws p) refl refl ∙ ap (λ m. deepen m (hash_from here)) l) p d i ps
      behind a c

  -- ---- `(..)`
  -- An expression in parentheses.
  pub group_reads : (x : Expr) (behind rest : List Word) → head_terminal ws ≡ 91 →
      GivesRule (expression inner) mid (Ok x) behind → next_is is_close_paren (head behind) ≡ true →
      rest ≡ drop 1 behind →
      GivesRule (primary here) ws (Ok x) rest
  group_reads x behind rest s a c e =
      enclosed_reads {s = an_expression} {v = an_expression} (primary here) (λ h. expression h)
      (λ x. give x) is_open_paren is_close_paren here inner n ws mid
      (chosen_at here ws 91 _ s refl refl ∙ ap (λ m. deepen m (group_from here)) l) (sees ws 91 s refl) d i x behind
      rest rest (Ok x) a c e (g_give {s = an_expression} x rest)

  -- A fault in parentheses.
  pub group_breaks : (e : Fault) (rest : List Word) → head_terminal ws ≡ 91 →
      GivesRule (expression inner) mid (Err e) rest → GivesRule (primary here) ws (Err e) rest
  group_breaks e rest s a =
      enclosed_breaks {s = an_expression} {v = an_expression} (primary here) (λ h. expression h)
      (λ x. give x) is_open_paren is_close_paren here inner n ws mid
      (chosen_at here ws 91 _ s refl refl ∙ ap (λ m. deepen m (group_from here)) l) (sees ws 91 s refl) d i e rest a

  -- The `)` of an expression lacks.
  pub group_lacks_close : (x : Expr) (behind : List Word) → head_terminal ws ≡ 91 →
      GivesRule (expression inner) mid (Ok x) behind → next_is is_close_paren (head behind) ≡ false →
      GivesRule (primary here) ws (Err f.Unexpected) behind
  group_lacks_close x behind s a c =
      enclosed_lacks_close {s = an_expression} {v = an_expression} (primary here) (λ h. expression h)
      (λ x. give x) is_open_paren is_close_paren here inner n ws mid
      (chosen_at here ws 91 _ s refl refl ∙ ap (λ m. deepen m (group_from here)) l) (sees ws 91 s refl) d i x behind a c

-- ---- a constant
constant_gives : (ws rest : List Word) (r : Result ConstRef Fault) → GivesConstant ws r rest →
    GivesRule (constant None) ws r rest
constant_gives ws rest (Ok c) g = λ ms. g None ms _ by_give
constant_gives ws rest (Err e) g = λ ms. g None ms

module _ (here : Scope) (n : ℕ) (ws : List Word) (s : head_terminal ws ≡ n) (k : (n ≡ 51) ⊎ (n ≡ 86)) where
  alone_chosen : choose ruby_choices (primary here) ws ≡ take constant_alone
  alone_chosen = ⊎_elim (λ e. chosen_at here ws 51 _ (s ∙ e) refl refl)
      (λ e. chosen_at here ws 86 _ (s ∙ e) refl refl) k

  -- A constant as a primary.
  pub constant_reads : (c : ConstRef) (rest : List Word) → GivesConstant ws (Ok c) rest →
      GivesRule (primary here) ws (Ok (expr.Const c)) rest
  constant_reads c rest g =
      g_chosen {s = an_expression} (primary here) constant_alone ws rest (Ok (expr.Const c)) alone_chosen
      (g_then {s = an_expression} {v = a_constant} (constant None) _ c ws rest rest (Ok (expr.Const c))
      (constant_gives ws rest (Ok c) g) (g_give {s = an_expression} (expr.Const c) rest))

  -- A fault in a constant.
  pub constant_breaks : (e : Fault) (rest : List Word) → GivesConstant ws (Err e) rest →
      GivesRule (primary here) ws (Err e) rest
  constant_breaks e rest g = g_chosen {s = an_expression} (primary here) constant_alone ws rest (Err e) alone_chosen
      (g_fails {s = an_expression} {v = a_constant} (constant None) _ ws rest e (constant_gives ws rest (Err e) g))

-- a constant is a word at least
abbrev constant_at : ℕ → Choice ruby a_constant
constant_at n = cond (n == 86) (take (token is_path λ _. constant_from true None))
    (cond (n == 51) (take (constant_from false None)) nothing)

moves_plain : (w : Word) (ws : List Word) → terminal w ≡ 51 →
    Moves ruby_grammar ruby_choices {s = a_constant} (only (constant None)) (w ∷ ws)
moves_plain w ws s =
    moves_call ruby_grammar ruby_choices {s = a_constant} {v = a_constant} (constant None) (λ x. give x)
    (constant_from false None) (w ∷ ws) (subst (λ m. constant_at m ≡ take (constant_from false None)) (sym s) refl)
    (moves_token ruby_grammar ruby_choices {s = a_constant} is_const _ w ws
    (subst (λ m. (m == 51) ≡ true) (sym s) refl))

moves_top : (w : Word) (ws : List Word) → terminal w ≡ 86 →
    Moves ruby_grammar ruby_choices {s = a_constant} (only (constant None)) (w ∷ ws)
moves_top w ws s =
    moves_call ruby_grammar ruby_choices {s = a_constant} {v = a_constant} (constant None) (λ x. give x)
    (token is_path λ _. constant_from true None) (w ∷ ws)
    (subst (λ m. constant_at m ≡ take (token is_path λ _. constant_from true None)) (sym s) refl)
    (moves_token ruby_grammar ruby_choices {s = a_constant} is_path _ w ws (subst (λ m. (m == 86) ≡ true) (sym s) refl))

some_word : {A : Type 0} (n : ℕ) → 98 ≡ n → (n ≡ 51) ⊎ (n ≡ 86) → A
some_word n e k = ⊎_elim (λ a. absurd (omega arith)) (λ b. absurd (omega arith)) k

-- A constant takes words.
pub constant_taken : (n : ℕ) (ws rest : List Word) (c : ConstRef) → head_terminal ws ≡ n → (n ≡ 51) ⊎ (n ≡ 86) →
    GivesConstant ws (Ok c) rest → length rest < length ws
constant_taken n [] rest c s k g = some_word n s k
constant_taken n (w ∷ ws) rest c s k g =
    let m : Moves ruby_grammar ruby_choices {s = a_constant} (only (constant None)) (w ∷ ws) =
    ⊎_elim (λ e. moves_plain w ws (s ∙ e)) (λ e. moves_top w ws (s ∙ e)) k in
    m [] (done c [] rest) (g None [] (done c [] rest) by_give)
