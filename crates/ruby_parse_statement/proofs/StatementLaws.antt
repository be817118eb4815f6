-- How statements are read.
use Rattle.std.proofs.Common.{◌≡◌, suc, Bool, true, false, ◌||◌, cond, List, [], ◌∷◌, ◌++◌, drop, refl, sym, ap, ◌∙◌}
use Rattle.std.proofs.Common.{subst, Result, Ok, Err, ⊎_elim}
use Rattle.std.proofs.lemmas.Bool.{cond-true, cond-false, cases_Bool}
use Rattle.descent.specs.Grammar.{give, token, call, only}
use Rattle.descent.specs.Reading.{take, head, choose}
use Rattle.ruby_types.specs.declared.tree.Stmt.{Stmt}
use Rattle.ruby_grammar.specs.Words.{Word}
use Rattle.ruby_grammar.specs.Terminals.{is_if, is_unless, is_line}
use Rattle.ruby_grammar.specs.Rules.{Name, Known, Block, Around, a_statement, a_block, statements, more_statements}
use Rattle.ruby_grammar.specs.Rules.{statement, simple_statement, condition_behind}
use Rattle.ruby_grammar.specs.Statements.{known, block, behind, statement_then, arm_from, if_from, unless_from}
use Rattle.ruby_grammar.specs.Choices.{ruby_choices, next_is, deepen, starts_statement}
use Rattle.ruby_parse_cursor.specs.Views.{head_terminal, statement_terminal}
use Rattle.ruby_parse_cursor.specs.declared.fault.Fault.{Fault}
use Rattle.ruby_parse_cursor.specs.declared.fault.Fault.TheVariants as f
use Rattle.ruby_parse_steps.specs.Gives.{Gives, GivesRule}
use Rattle.ruby_parse_steps.proofs.Descent.{g_give, g_chosen, g_skip, g_then, g_fails, g_deep}
use Rattle.ruby_parse_steps.proofs.WordLaws.{apart}
use Rattle.ruby_parse_statement.specs.Arms.{arm_then}
use Rattle.ruby_parse_statement.proofs.Steps.{skips, rule_then, rule_fails, picked, unmade}
use Rattle.ruby_parse_statement.specs.Answers.{known_as, conditioned, GivesCondition}
use Rattle.ruby_types.specs.declared.tree.Expr.{Expr}
use Rattle.std.specs.Prelude.{IfOk, IfErr, Option}

-- ---- a block `if` or `unless`
module _ (here : Around) where
  if_chosen : (ws : List Word) → next_is is_if (head ws) ≡ true → choose ruby_choices (statement here) ws
      ≡ deepen here.levels (if_from here)
  if_chosen ws p = cond-true _ _ _ p

  unless_chosen : (ws : List Word) → next_is is_if (head ws) ≡ false → next_is is_unless (head ws) ≡ true →
      choose ruby_choices (statement here) ws ≡ deepen here.levels (unless_from here)
  unless_chosen ws p q = cond-false _ _ _ p ∙ cond-true _ _ _ q

  if_opens : (inner : Around) (ws mid rest : List Word) (r : Result Known Fault) → next_is is_if (head ws) ≡ true →
      here.levels ≡ suc inner.levels → inner.sets ≡ here.sets → inner.names ≡ here.names → mid ≡ drop 1 ws →
      Gives (arm_then inner false []) mid r rest → GivesRule (statement here) ws r rest
  if_opens inner ws mid rest r p l s n d g =
      picked (statement here) (if_from here inner.levels) ws rest r
      (if_chosen ws p ∙ ap (λ n. deepen n (if_from here)) l)
      (skips is_if (arm_from inner.levels here.sets true (λ x. x) here.names []) ws mid rest r p d
      (subst (λ l. Gives (arm_from inner.levels here.sets true (λ x. x) l []) mid r rest) n
      (subst (λ b. Gives (arm_from inner.levels b true (λ x. x) inner.names []) mid r rest) s g)))

  unless_opens : (inner : Around) (ws mid rest : List Word) (r : Result Known Fault) →
      next_is is_if (head ws) ≡ false → next_is is_unless (head ws) ≡ true → here.levels ≡ suc inner.levels →
      inner.sets ≡ here.sets → inner.names ≡ here.names → mid ≡ drop 1 ws →
      Gives (arm_then inner true []) mid r rest → GivesRule (statement here) ws r rest
  unless_opens inner ws mid rest r p q l s n d g =
      picked (statement here) (unless_from here inner.levels) ws rest r (unless_chosen ws p q
      ∙ ap (λ n. deepen n (unless_from here)) l)
      (skips is_unless (arm_then (record { levels = inner.levels; sets = here.sets; names = here.names }) true []) ws
      mid rest r q d
      (subst (λ l. Gives (arm_then (record { levels = inner.levels; sets = here.sets; names = l }) true []) mid r
      rest) n (subst (λ b. Gives
      (arm_then (record { levels = inner.levels; sets = b; names = inner.names }) true []) mid r rest) s g)))

  true_or : (a b : Bool) → (a || b) ≡ true → b ≡ false → a ≡ true
  true_or true b e h = refl
  true_or false b e h = absurd (cc)

  -- No level is left for a block.
  pub block_deep : (e : Fault) (ws rest : List Word) → (next_is is_if (head ws) || next_is is_unless (head ws))
      ≡ true → here.levels ≡ 0 → e ≡ f.Deep → GivesRule (statement here) ws (Err e) ws
  block_deep e ws rest o l u = subst (λ x. GivesRule (statement here) ws (Err x) ws) (sym u)
      (⊎_elim
      (λ y. g_deep {s = a_statement} (statement here) ws (unless_chosen ws (apart 8 5 ws refl y) y
      ∙ ap (λ n. deepen n (unless_from here)) l))
      (λ n. g_deep {s = a_statement} (statement here) ws (if_chosen ws (true_or _ _ o n)
      ∙ ap (λ n. deepen n (if_from here)) l))
      (cases_Bool (next_is is_unless (head ws))))

  -- A block, by its `if` or `unless`.
  pub block_opens : (inner : Around) (u : Bool) (ws mid rest : List Word) (r : Result Known Fault) →
      (next_is is_if (head ws) || next_is is_unless (head ws)) ≡ true → u ≡ next_is is_unless (head ws) →
      here.levels ≡ suc inner.levels → inner.sets ≡ here.sets → inner.names ≡ here.names → mid ≡ drop 1 ws →
      Gives (arm_then inner u []) mid r rest → GivesRule (statement here) ws r rest
  block_opens inner u ws mid rest r o e l s n d g =
      ⊎_elim
      (λ y. unless_opens inner ws mid rest r (apart 8 5 ws refl y) y l s n d
      (subst (λ b. Gives (arm_then inner b []) mid r rest) (e ∙ y) g))
      (λ k. if_opens inner ws mid rest r (true_or _ _ o k) l s n d
      (subst (λ b. Gives (arm_then inner b []) mid r rest) (e ∙ k) g))
      (cases_Bool (next_is is_unless (head ws)))

  neither : (a b : Bool) → (a || b) ≡ false → (a ≡ false) × (b ≡ false)
  neither true b e = absurd (cc)
  neither false b e = (refl, e)

  -- ---- a simple statement
  simple_chosen : (ws : List Word) → (next_is is_if (head ws) || next_is is_unless (head ws)) ≡ false →
      choose ruby_choices (statement here) ws
      ≡ take (call (simple_statement here) λ t. only (condition_behind here.levels t))
  simple_chosen ws p = let n = neither (next_is is_if (head ws)) (next_is is_unless (head ws)) p in
      cond-false (next_is is_if (head ws)) (deepen here.levels (if_from here))
      (cond (next_is is_unless (head ws)) (deepen here.levels (unless_from here))
      (take (call (simple_statement here) λ t. only (condition_behind here.levels t)))) n.0
      ∙ cond-false (next_is is_unless (head ws)) (deepen here.levels (unless_from here))
      (take (call (simple_statement here) λ t. only (condition_behind here.levels t))) n.1

  -- A simple statement, and the condition behind it.
  pub simple_reads : (s : Stmt) (names : List Name) (ws mid rest : List Word) (r : Result Known Fault) →
      (next_is is_if (head ws) || next_is is_unless (head ws)) ≡ false →
      GivesRule (simple_statement here) ws (Ok (known s names)) mid →
      GivesRule (condition_behind here.levels (known s names)) mid r rest → GivesRule (statement here) ws r rest
  simple_reads s names ws mid rest r p g h =
      picked (statement here) (call (simple_statement here) λ t. only (condition_behind here.levels t)) ws rest r
      (simple_chosen ws p)
      (rule_then {v = a_statement} (simple_statement here) (λ t. only (condition_behind here.levels t))
      (known s names) ws mid rest r g h)

  -- A fault in a simple statement.
  pub simple_breaks : (e : Fault) (ws rest : List Word) → (next_is is_if (head ws) || next_is is_unless (head ws))
      ≡ false → GivesRule (simple_statement here) ws (Err e) rest → GivesRule (statement here) ws (Err e) rest
  simple_breaks e ws rest p g =
      picked (statement here) (call (simple_statement here) λ t. only (condition_behind here.levels t)) ws rest
      (Err e) (simple_chosen ws p)
      (rule_fails {v = a_statement} (simple_statement here) (λ t. only (condition_behind here.levels t)) e ws rest g)

  -- A simple statement, with what was made of it and of the condition behind it.
  pub conditioned_reads : (s : Stmt) (o : Option Expr) (names : List Name) (made : Result Stmt Fault)
      (ws mid rest : List Word) → (next_is is_if (head ws) || next_is is_unless (head ws)) ≡ false →
      GivesRule (simple_statement here) ws (Ok (known s names)) mid →
      GivesCondition here.levels names mid (Ok o) rest →
      IfOk made (λ z. z ≡ conditioned s o) → IfErr made (λ e. e ≡ f.Memory) →
      GivesRule (statement here) ws (known_as names made) rest
  conditioned_reads s o names (Ok z) ws mid rest p g h ok fault =
      subst (λ (y : Stmt). GivesRule (statement here) ws (Ok (known y names)) rest) (sym ok)
      (simple_reads s names ws mid rest (Ok (known (conditioned s o) names)) p g (h s))
  conditioned_reads s o names (Err e) ws mid rest p g h ok fault = unmade (only (statement here)) ws rest e fault

-- ---- statements
-- Whether a statement begins, by the terminal at hand.
pub begins_statement : (ws : List Word) → next_is starts_statement (head ws) ≡ statement_terminal (head_terminal ws)
begins_statement [] = refl
begins_statement (w ∷ ws) = refl

module _ (here : Around) (ss : List Stmt) where
  statements_chosen : (ws : List Word) (b : Bool) → statement_terminal (head_terminal ws) ≡ b →
      choose ruby_choices (statements here ss) ws ≡ cond b (take (statement_then here ss))
      (take (give (block ss here.names true)))
  statements_chosen ws b e =
      ap (λ b. cond b (take (statement_then here ss)) (take (give (block ss here.names true)))) (begins_statement ws
      ∙ e)

  -- No statement is at hand, so the block ends.
  pub statements_end : (ws : List Word) → statement_terminal (head_terminal ws) ≡ false →
      GivesRule (statements here ss) ws (Ok (block ss here.names true)) ws
  statements_end ws p = g_chosen {s = a_block} (statements here ss) (give (block ss here.names true)) ws ws
      (Ok (block ss here.names true)) (statements_chosen ws false p)
      (g_give {s = a_block} (block ss here.names true) ws)

  -- A fault in a statement.
  pub statements_break : (e : Fault) (ws rest : List Word) → statement_terminal (head_terminal ws) ≡ true →
      GivesRule (statement here) ws (Err e) rest → GivesRule (statements here ss) ws (Err e) rest
  statements_break e ws rest p g = g_chosen {s = a_block} (statements here ss) (statement_then here ss) ws rest
      (Err e) (statements_chosen ws true p)
      (g_fails {s = a_block} {v = a_statement} (statement here)
      (λ s. only (more_statements (behind here s.names) (ss ++ s.stmt ∷ []))) ws rest e g)

  one_more : (s : Stmt) (names : List Name) (ws mid rest : List Word) (r : Result Block Fault) →
      statement_terminal (head_terminal ws) ≡ true → GivesRule (statement here) ws (Ok (known s names)) mid →
      GivesRule (more_statements (behind here names) (ss ++ s ∷ [])) mid r rest →
      GivesRule (statements here ss) ws r rest
  one_more s names ws mid rest r p g h = g_chosen {s = a_block} (statements here ss) (statement_then here ss) ws rest
      r (statements_chosen ws true p)
      (g_then {s = a_block} {v = a_statement} (statement here)
      (λ s. only (more_statements (behind here s.names) (ss ++ s.stmt ∷ []))) (known s names) ws mid rest r g h)

  -- A statement with its Line, and what follows it.
  pub statement_and_line : (s : Stmt) (names : List Name) (longer : List Stmt) (ws mid rest end : List Word)
      (r : Result Block Fault) → statement_terminal (head_terminal ws) ≡ true →
      GivesRule (statement here) ws (Ok (known s names)) mid →
      longer ≡ ss ++ s ∷ [] → next_is is_line (head mid) ≡ true → rest ≡ drop 1 mid →
      GivesRule (statements (behind here names) longer) rest r end → GivesRule (statements here ss) ws r end
  statement_and_line s names longer ws mid rest end r p g l q d h =
      one_more s names ws mid end r p g
      (g_chosen {s = a_block} (more_statements (behind here names) (ss ++ s ∷ []))
      (token is_line λ _. only (statements (behind here names) (ss ++ s ∷ []))) mid end r (cond-true _ _ _ q)
      (g_skip {s = a_block} is_line (λ _. only (statements (behind here names) (ss ++ s ∷ []))) mid rest end r q d
      (λ _. subst (λ l. GivesRule (statements (behind here names) l) rest r end) l h)))

  -- A statement without its Line is the last.
  pub statement_without_line : (s : Stmt) (names : List Name) (longer : List Stmt) (ws mid : List Word) →
      statement_terminal (head_terminal ws) ≡ true → GivesRule (statement here) ws (Ok (known s names)) mid →
      longer ≡ ss ++ s ∷ [] → next_is is_line (head mid) ≡ false →
      GivesRule (statements here ss) ws (Ok (block longer names false)) mid
  statement_without_line s names longer ws mid p g l q =
      subst (λ l. GivesRule (statements here ss) ws (Ok (block l names false)) mid) (sym l)
      (one_more s names ws mid mid (Ok (block (ss ++ s ∷ []) names false)) p g
      (g_chosen {s = a_block} (more_statements (behind here names) (ss ++ s ∷ []))
      (give (block (ss ++ s ∷ []) names false)) mid mid (Ok (block (ss ++ s ∷ []) names false))
      (cond-false _ _ _ q) (g_give {s = a_block} (block (ss ++ s ∷ []) names false) mid)))
