-- How the arms of a block `if` or `unless` are read.
use Rattle.std.proofs.Common.{◌≡◌, Bool, true, false, ◌&&◌, not, List, [], ◌∷◌, ◌++◌, drop, refl, ◌∙◌, subst, Result}
use Rattle.std.proofs.Common.{Ok, Err}
use Rattle.std.specs.Prelude.{IfErr, OnOk, OnErr}
use Rattle.std.proofs.lemmas.Bool.{cond-true, cond-false}
use Rattle.descent.specs.Grammar.{Prod, give, token, call, only}
use Rattle.descent.specs.Reading.{take, nothing, head, choose}
use Rattle.ruby_types.specs.declared.tree.Expr.{Expr}
use Rattle.ruby_types.specs.declared.tree.Stmt.{Stmt}
use Rattle.ruby_types.specs.declared.tree.Stmt.TheVariants as stmt
use Rattle.ruby_grammar.specs.Words.{Word}
use Rattle.ruby_grammar.specs.Terminals.{is_end, is_else, is_elsif, is_then, is_line}
use Rattle.ruby_grammar.specs.Rules.{ruby, Name, Known, Block, Around, Scope, a_statement, a_block, no_value, arms_rest}
use Rattle.ruby_grammar.specs.Rules.{statements, expression, then_or_line, perhaps_line}
use Rattle.ruby_grammar.specs.Statements.{known, block, scope, behind, arm_from, arms_end, else_more, elsif_more}
use Rattle.ruby_grammar.specs.Choices.{ruby_choices, next_is}
use Rattle.ruby_parse_cursor.specs.declared.fault.Fault.{Fault}
use Rattle.ruby_parse_cursor.specs.declared.fault.Fault.TheVariants as f
use Rattle.ruby_parse_steps.specs.Gives.{Gives, GivesRule}
use Rattle.ruby_parse_steps.proofs.Descent.{g_give, g_chosen, g_skip, g_nothing}
use Rattle.ruby_parse_steps.proofs.WordLaws.{apart}
use Rattle.ruby_parse_statement.specs.declared.blocks.Block.{Block as Held}
use Rattle.ruby_parse_statement.specs.Answers.{block_as}
use Rattle.ruby_parse_statement.specs.Arms.{tested, test_then, arm_then, GivesTest, GivesRest, GivesArms, GivesElse}
use Rattle.ruby_parse_statement.proofs.Steps.{skips, lacks, fails, value_then, value_fails, rule_then, rule_fails}
use Rattle.ruby_parse_statement.proofs.Steps.{picked, unmade}

-- ---- a Line, perhaps
-- A Line that may stand there, where it does.
pub line_skipped : (ws rest : List Word) → next_is is_line (head ws) ≡ true → rest ≡ drop 1 ws →
    GivesRule perhaps_line ws (Ok tt) rest
line_skipped ws rest p d = g_chosen {s = no_value} perhaps_line (token is_line λ _. give tt) ws rest (Ok tt)
    (cond-true _ _ _ p) (g_skip {s = no_value} is_line (λ _. give tt) ws rest rest (Ok tt) p d
    (λ _. g_give {s = no_value} tt rest))

-- No Line stands there.
pub no_line : (ws : List Word) → next_is is_line (head ws) ≡ false → GivesRule perhaps_line ws (Ok tt) ws
no_line ws p = g_chosen {s = no_value} perhaps_line (give tt) ws ws (Ok tt) (cond-false _ _ _ p)
    (g_give {s = no_value} tt ws)

-- ---- `then` or a Line
-- `then`, perhaps with a Line behind it.
pub then_reads : (ws mid rest : List Word) (r : Result (Unit {0}) Fault) → next_is is_then (head ws) ≡ true →
    mid ≡ drop 1 ws → GivesRule perhaps_line mid r rest → GivesRule then_or_line ws r rest
then_reads ws mid rest r p d g = g_chosen {s = no_value} then_or_line (token is_then λ _. only perhaps_line) ws rest
    r (cond-true _ _ _ p) (g_skip {s = no_value} is_then (λ _. only perhaps_line) ws mid rest r p d (λ _. g))

line_read : (ws rest : List Word) → next_is is_then (head ws) ≡ false → next_is is_line (head ws) ≡ true →
    rest ≡ drop 1 ws → GivesRule then_or_line ws (Ok tt) rest
line_read ws rest p q d = g_chosen {s = no_value} then_or_line (token is_line λ _. give tt) ws rest (Ok tt)
    (cond-false _ _ _ p ∙ cond-true _ _ _ q)
    (g_skip {s = no_value} is_line (λ _. give tt) ws rest rest (Ok tt) q d (λ _. g_give {s = no_value} tt rest))

neither : (ws : List Word) → next_is is_then (head ws) ≡ false → next_is is_line (head ws) ≡ false →
    GivesRule then_or_line ws (Err f.Unexpected) ws
neither ws p q = g_nothing {s = no_value} then_or_line ws (cond-false _ _ _ p ∙ cond-false _ _ _ q)

-- a Line, which was asked for
pub line_taken : (ws rest : List Word) (r : Result (Unit {0}) Fault) → next_is is_then (head ws) ≡ false →
    OnOk r (next_is is_line (head ws) ≡ true) → OnOk r (rest ≡ drop 1 ws) →
    IfErr r (λ e. e ≡ f.Unexpected) → OnErr r (rest ≡ ws) → OnErr r (next_is is_line (head ws) ≡ false) →
    GivesRule then_or_line ws r rest
line_taken ws rest (Ok x) p q d u s o = line_read ws rest p q d
line_taken ws rest (Err e) p q d u s o = fails {s = no_value} (only then_or_line) ws rest e s u (neither ws p o)

-- ---- a condition with its `then` or Line
module _ (here : Scope) (is_unless : Bool) where
  -- The condition of an arm, and what follows it.
  pub test_reads : (x test : Expr) (ws mid rest : List Word) → GivesRule (expression here) ws (Ok x) mid →
      test ≡ tested is_unless x → GivesRule then_or_line mid (Ok tt) rest → GivesTest here is_unless ws (Ok test) rest
  test_reads x test ws mid rest g t l = λ next r end k.
      value_then here (λ x. call then_or_line λ _. next (tested is_unless x)) x ws mid end r g
      (rule_then {v = no_value} then_or_line (λ _. next (tested is_unless x)) tt mid rest end r l
      (subst (λ v. Gives (next v) rest r end) t k))

  -- A fault in the condition of an arm.
  pub test_breaks : (e : Fault) (ws rest : List Word) → GivesRule (expression here) ws (Err e) rest →
      GivesTest here is_unless ws (Err e) rest
  test_breaks e ws rest g = λ next. value_fails here (λ x. call then_or_line λ _. next (tested is_unless x)) e ws rest g

  -- Neither `then` nor a Line stands behind a condition.
  pub test_lacks_line : (x : Expr) (e : Fault) (ws mid rest : List Word) →
      GivesRule (expression here) ws (Ok x) mid → GivesRule then_or_line mid (Err e) rest →
      GivesTest here is_unless ws (Err e) rest
  test_lacks_line x e ws mid rest g l = λ next.
      value_then here (λ x. call then_or_line λ _. next (tested is_unless x)) x ws mid rest (Err e) g
      (rule_fails {v = no_value} then_or_line (λ _. next (tested is_unless x)) e mid rest l)

  -- Want of memory in the condition of an arm.
  pub test_unmade : (e : Fault) (ws rest : List Word) → e ≡ f.Memory → GivesTest here is_unless ws (Err e) rest
  test_unmade e ws rest u = λ next. unmade (test_then here is_unless next) ws rest e u

-- ---- an arm
module _ (here : Around) (is_unless : Bool) (arms : List (Expr × List Stmt)) where
  -- what follows an arm's condition
  abbrev behind_test : Expr → Prod ruby a_statement
  behind_test x = call (statements here []) λ b.
      only (arms_rest here.levels here.sets (not is_unless) (arms ++ (x, b.stmts) ∷ []) b)

  -- An arm, and what follows it.
  pub arm_reads : (test : Expr) (b : Held) (names : List Name) (longer : List (Expr × List Stmt))
      (ws mid rest : List Word) → GivesTest (scope here.levels here.names) is_unless ws (Ok test) mid →
      GivesRule (statements here []) mid (block_as names (Ok b)) rest → longer ≡ arms ++ (test, b.statements) ∷ [] →
      GivesArms here is_unless arms ws (Ok b.closed) longer names rest
  arm_reads test b names longer ws mid rest g h l = λ r end k.
      g behind_test r end
      (rule_then {v = a_block} (statements here [])
      (λ b. only (arms_rest here.levels here.sets (not is_unless) (arms ++ (test, b.stmts) ∷ []) b))
      (block b.statements names b.closed) mid rest end r h
      (subst (λ v. GivesRule (arms_rest here.levels here.sets (not is_unless) v (block b.statements names b.closed))
      rest r end) l (k b.statements)))

  -- A fault in the condition of an arm stops the arm.
  pub arm_lacks_test : (e : Fault) (longer : List (Expr × List Stmt)) (names : List Name) (ws rest : List Word) →
      GivesTest (scope here.levels here.names) is_unless ws (Err e) rest →
      GivesArms here is_unless arms ws (Err e) longer names rest
  arm_lacks_test e longer names ws rest g = g behind_test

  -- A fault in the statements of an arm.
  pub arm_breaks : (test : Expr) (e : Fault) (longer : List (Expr × List Stmt)) (names : List Name)
      (ws mid rest : List Word) → GivesTest (scope here.levels here.names) is_unless ws (Ok test) mid →
      GivesRule (statements here []) mid (Err e) rest →
      GivesArms here is_unless arms ws (Err e) longer names rest
  arm_breaks test e longer names ws mid rest g h =
      g behind_test (Err e) rest
      (rule_fails {v = a_block} (statements here [])
      (λ b. only (arms_rest here.levels here.sets (not is_unless) (arms ++ (test, b.stmts) ∷ []) b)) e mid rest h)

  -- Want of memory in an arm.
  pub arm_unmade : (e : Fault) (longer : List (Expr × List Stmt)) (names : List Name) (ws rest : List Word) →
      e ≡ f.Memory → GivesArms here is_unless arms ws (Err e) longer names rest
  arm_unmade e longer names ws rest u = unmade (arm_then here is_unless arms) ws rest e u

-- ---- what follows arms
module _ (here : Around) (arms : List (Expr × List Stmt)) where
  abbrev ending : List Stmt → Known
  ending others = known (stmt.If arms others false) here.names

  -- `end` behind the arms.
  pub rest_ends : (is_unless closed : Bool) (ws rest : List Word) → next_is is_end (head ws) ≡ true →
      rest ≡ drop 1 ws → GivesRest here is_unless arms closed ws (Ok (known (stmt.If arms [] false) here.names)) rest
  rest_ends is_unless closed ws rest p d = λ ss.
      picked (arms_rest here.levels here.sets (not is_unless) arms (block ss here.names closed))
      (arms_end arms (block ss here.names closed)) ws rest (Ok (ending [])) (cond-true _ _ _ p)
      (skips is_end (give (ending [])) ws rest rest (Ok (ending [])) p d (g_give {s = a_statement} (ending []) rest))

  else_chosen : (may_elsif : Bool) (ss : List Stmt) (ws : List Word) → next_is is_else (head ws) ≡ true →
      choose ruby_choices (arms_rest here.levels here.sets may_elsif arms (block ss here.names true)) ws
      ≡ take (else_more here.levels here.sets arms (block ss here.names true))
  else_chosen may_elsif ss ws p = cond-false _ _ _ (apart 7 4 ws refl p) ∙ cond-true _ _ _ p

  -- `else` behind the arms.
  pub rest_is_else : (is_unless closed : Bool) (ws rest : List Word) (r : Result Known Fault) →
      (closed && next_is is_else (head ws)) ≡ true →
      Gives (else_more here.levels here.sets arms (block [] here.names true)) ws r rest →
      GivesRest here is_unless arms closed ws r rest
  rest_is_else is_unless false ws rest r p g = absurd (cc)
  rest_is_else is_unless true ws rest r p g = λ ss.
      picked (arms_rest here.levels here.sets (not is_unless) arms (block ss here.names true))
      (else_more here.levels here.sets arms (block ss here.names true)) ws rest r
      (else_chosen (not is_unless) ss ws p) g

  elsif_chosen : (ss : List Stmt) (ws : List Word) → next_is is_elsif (head ws) ≡ true →
      choose ruby_choices (arms_rest here.levels here.sets true arms (block ss here.names true)) ws
      ≡ take (elsif_more here.levels here.sets arms (block ss here.names true))
  elsif_chosen ss ws p = cond-false _ _ _ (apart 6 4 ws refl p) ∙ cond-false _ _ _ (apart 6 7 ws refl p)
      ∙ cond-true _ _ _ p

  -- `elsif` behind an arm, and what follows it.
  pub rest_is_elsif : (is_unless closed : Bool) (ws mid rest : List Word) (r : Result Known Fault) →
      (closed && (not is_unless && next_is is_elsif (head ws))) ≡ true → mid ≡ drop 1 ws →
      Gives (arm_then here false arms) mid r rest →
      GivesRest here is_unless arms closed ws r rest
  rest_is_elsif is_unless false ws mid rest r p d g = absurd (cc)
  rest_is_elsif true true ws mid rest r p d g = absurd (cc)
  rest_is_elsif false true ws mid rest r p d g = λ ss.
      picked (arms_rest here.levels here.sets true arms (block ss here.names true))
      (elsif_more here.levels here.sets arms (block ss here.names true)) ws rest r (elsif_chosen ss ws p)
      (skips is_elsif (arm_from here.levels here.sets true (λ x. x) here.names arms) ws mid rest r p d g)

  none_chosen : (is_unless closed : Bool) (ss : List Stmt) (ws : List Word) →
      (closed && (not is_unless && next_is is_elsif (head ws))) ≡ false → (closed && next_is is_else (head ws))
      ≡ false → next_is is_end (head ws) ≡ false →
      choose ruby_choices (arms_rest here.levels here.sets (not is_unless) arms (block ss here.names closed)) ws
      ≡ nothing
  none_chosen is_unless false ss ws p q n = cond-false _ _ _ n
  none_chosen true true ss ws p q n = cond-false _ _ _ n ∙ cond-false _ _ _ q
  none_chosen false true ss ws p q n = cond-false _ _ _ n ∙ cond-false _ _ _ q ∙ cond-false _ _ _ p

  -- Nothing that may follow the arms is at hand.
  pub rest_is_nothing : (is_unless closed : Bool) (e : Fault) (ws rest : List Word) →
      (closed && (not is_unless && next_is is_elsif (head ws))) ≡ false → (closed && next_is is_else (head ws))
      ≡ false →
      rest ≡ ws → next_is is_end (head ws) ≡ false → e ≡ f.Unexpected →
      GivesRest here is_unless arms closed ws (Err e) rest
  rest_is_nothing is_unless closed e ws rest p q d n u = λ ss.
      fails {s = a_statement} (only
      (arms_rest here.levels here.sets (not is_unless) arms (block ss here.names closed))) ws rest e d u
      (g_nothing {s = a_statement}
      (arms_rest here.levels here.sets (not is_unless) arms (block ss here.names closed)) ws
      (none_chosen is_unless closed ss ws p q n))

-- ---- `else`
module _ (here : Around) where
  abbrev else_end : List (Expr × List Stmt) → Block → Prod ruby a_statement
  else_end arms c = token is_end λ _. give (known (stmt.If arms c.stmts false) c.names)

  abbrev else_block : List (Expr × List Stmt) → Prod ruby a_statement
  else_block arms = call (statements here []) λ c. else_end arms c

  module _ (ws mid behind' : List Word) (p : next_is is_else (head ws) ≡ true) (d : mid ≡ drop 1 ws)
      (l : GivesRule perhaps_line mid (Ok tt) behind') where
    opened : (arms : List (Expr × List Stmt)) (r : Result Known Fault) (rest : List Word) →
        Gives (else_block arms) behind' r rest →
        Gives (else_more here.levels here.sets arms (block [] here.names true)) ws r rest
    opened arms r rest g = skips is_else (call perhaps_line λ _. else_block arms) ws mid rest r p d
        (rule_then {v = no_value} perhaps_line (λ _. else_block arms) tt mid behind' rest r l g)

    -- A fault in the statements behind `else`.
    pub else_breaks : (e : Fault) (names : List Name) (rest : List Word) →
        GivesRule (statements here []) behind' (Err e) rest → GivesElse here ws (Err e) names rest
    else_breaks e names rest g = λ arms.
        opened arms (Err e) rest (rule_fails {v = a_block} (statements here []) (λ c. else_end arms c) e behind' rest g)

    -- The `end` behind `else` lacks.
    pub else_lacks_end : (b : Held) (e : Fault) (names : List Name) (end rest : List Word) →
        GivesRule (statements here []) behind' (block_as names (Ok b)) end → rest ≡ end →
        next_is is_end (head end) ≡ false → e ≡ f.Unexpected → GivesElse here ws (Err e) names rest
    else_lacks_end b e names end rest g s n u = λ arms.
        opened arms (Err e) rest
        (rule_then {v = a_block} (statements here []) (λ c. else_end arms c) (block b.statements names b.closed)
        behind' end rest (Err e) g
        (lacks is_end (λ _. give (known (stmt.If arms b.statements false) names)) end rest e s n u))

    -- `else`, its statements and `end`.
    pub else_reads : (b : Held) (names : List Name) (end rest : List Word) →
        GivesRule (statements here []) behind' (block_as names (Ok b)) end → next_is is_end (head end) ≡ true →
        rest ≡ drop 1 end →
        GivesElse here ws (Ok b.statements) names rest
    else_reads b names end rest g n s = λ arms.
        opened arms (Ok (known (stmt.If arms b.statements false) names)) rest
        (rule_then {v = a_block} (statements here []) (λ c. else_end arms c) (block b.statements names b.closed)
        behind' end rest (Ok (known (stmt.If arms b.statements false) names)) g
        (skips is_end (give (known (stmt.If arms b.statements false) names)) end rest rest
        (Ok (known (stmt.If arms b.statements false) names)) n s
        (g_give {s = a_statement} (known (stmt.If arms b.statements false) names) rest)))

  -- A missing `else` is a fault.
  pub no_else : (e : Fault) (names : List Name) (ws rest : List Word) → rest ≡ ws →
      next_is is_else (head ws) ≡ false → e ≡ f.Unexpected → GivesElse here ws (Err e) names rest
  no_else e names ws rest d p u = λ arms. lacks is_else (λ _. call perhaps_line λ _. else_block arms) ws rest e d p u

-- ---- all arms
-- The arms begin with none.
pub begun : (here : Around) (is_unless : Bool) (arms : List (Expr × List Stmt)) (ws rest : List Word)
    (r : Result Known Fault) → arms ≡ [] → Gives (arm_then here is_unless arms) ws r rest →
    Gives (arm_then here is_unless []) ws r rest
begun here is_unless arms ws rest r e g = subst (λ l. Gives (arm_then here is_unless l) ws r rest) e g

-- an `elsif` stands only behind `if`
no_unless : (closed is_unless e : Bool) → (closed && (not is_unless && e)) ≡ true → is_unless ≡ false
no_unless true false e h = refl
no_unless true true e h = absurd (cc)
no_unless false is_unless e h = absurd (cc)

-- One arm more, and what follows it.
pub further_arm : (here : Around) (is_unless closed : Bool) (arms : List (Expr × List Stmt))
    (ws mid behind' end : List Word) (more : Bool) (longer : List (Expr × List Stmt)) (names : List Name)
    (r : Result Known Fault) →
    (closed && (not is_unless && next_is is_elsif (head ws))) ≡ true → mid ≡ drop 1 ws →
    GivesArms here false arms mid (Ok more) longer names behind' →
    GivesRest (behind here names) is_unless longer more behind' r end →
    GivesRest here is_unless arms closed ws r end
further_arm here is_unless closed arms ws mid behind' end more longer names r p d g h =
    rest_is_elsif here arms is_unless closed ws mid end r p d
    (g r end (subst (λ b. GivesRest (behind here names) b longer more behind' r end)
    (no_unless closed is_unless (next_is is_elsif (head ws)) p) h))
