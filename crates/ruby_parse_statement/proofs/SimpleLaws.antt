-- How simple statements are read.
use Rattle.std.proofs.Common.{◌≡◌, Bool, true, false, ◌&&◌, cond, List, [], ◌∷◌, drop, refl, sym, ap, ◌∙◌, subst}
use Rattle.std.proofs.Common.{Result, Ok, Err, Option, Some, None}
use Rattle.std.proofs.lemmas.Bool.{cond-true, cond-false}
use Rattle.descent.specs.Grammar.{Prod, give, token, call}
use Rattle.descent.specs.Reading.{take, barred, head, second, choose, by_bar}
use Rattle.ruby_types.specs.declared.tree.Expr.{Expr}
use Rattle.ruby_types.specs.declared.tree.Stmt.TheVariants as stmt
use Rattle.ruby_grammar.specs.Words.{Word}
use Rattle.ruby_grammar.specs.Terminals.{is_variable, is_ivar, is_assign, is_return, is_raise}
use Rattle.ruby_grammar.specs.Rules.{ruby, Name, Known, Around, Scope, a_statement, perhaps_an_expression}
use Rattle.ruby_grammar.specs.Rules.{simple_statement, perhaps_expression, expression}
use Rattle.ruby_grammar.specs.Values.{behind_sign}
use Rattle.ruby_grammar.specs.Statements.{known, scope, scope_of, returning, raising, setting, setting_ivar, evaluating}
use Rattle.ruby_grammar.specs.Choices.{ruby_choices, next_is, pick_set_ivar}
use Rattle.ruby_parse_cursor.specs.Views.{head_terminal, expression_terminal}
use Rattle.ruby_parse_cursor.specs.declared.fault.Fault.{Fault}
use Rattle.ruby_parse_cursor.specs.declared.fault.Fault.TheVariants as f
use Rattle.ruby_parse_steps.specs.Gives.{Gives, GivesRule}
use Rattle.ruby_parse_steps.proofs.Descent.{g_give, g_chosen, g_then, g_fails}
use Rattle.ruby_parse_steps.proofs.ArgumentLaws.{starts_is}
use Rattle.ruby_parse_statement.proofs.Steps.{skips, passes, lacks, value, value_fails, rule_then, rule_fails, picked}

-- ---- an expression, perhaps
module _ (here : Scope) where
  perhaps_chosen : (ws : List Word) (b : Bool) → expression_terminal (head_terminal ws) ≡ b →
      choose ruby_choices (perhaps_expression here) ws ≡ cond b (take (call (expression here) λ x. give (Some x)))
      (take (give None))
  perhaps_chosen ws b e = ap (λ b. cond b (take (call (expression here) λ x. give (Some x))) (take (give None)))
      (starts_is ws ∙ e)

  -- An expression that may stand there, where it does.
  pub some_expression : (x : Expr) (ws rest : List Word) → expression_terminal (head_terminal ws) ≡ true →
      GivesRule (expression here) ws (Ok x) rest → GivesRule (perhaps_expression here) ws (Ok (Some x)) rest
  some_expression x ws rest p g = g_chosen {s = perhaps_an_expression} (perhaps_expression here)
      (call (expression here) λ x. give (Some x)) ws rest (Ok (Some x)) (perhaps_chosen ws true p)
      (g_then {s = perhaps_an_expression} (expression here) (λ x. give (Some x)) x ws rest rest (Ok (Some x)) g
      (g_give {s = perhaps_an_expression} (Some x) rest))

  -- A fault in an expression that may stand there.
  pub some_expression_fails : (e : Fault) (ws rest : List Word) → expression_terminal (head_terminal ws) ≡ true →
      GivesRule (expression here) ws (Err e) rest → GivesRule (perhaps_expression here) ws (Err e) rest
  some_expression_fails e ws rest p g = g_chosen {s = perhaps_an_expression} (perhaps_expression here)
      (call (expression here) λ x. give (Some x)) ws rest (Err e) (perhaps_chosen ws true p)
      (g_fails {s = perhaps_an_expression} (expression here) (λ x. give (Some x)) ws rest e g)

  -- No expression stands there.
  pub no_expression : (ws : List Word) → expression_terminal (head_terminal ws) ≡ false →
      GivesRule (perhaps_expression here) ws (Ok None) ws
  no_expression ws p = g_chosen {s = perhaps_an_expression} (perhaps_expression here) (give None) ws ws (Ok None)
      (perhaps_chosen ws false p) (g_give {s = perhaps_an_expression} None ws)

-- ---- each kind of simple statement
module _ (here : Around) where
  -- `return` with perhaps a value.
  pub return_reads : (o : Option Expr) (ws mid rest : List Word) → next_is is_return (head ws) ≡ true →
      mid ≡ drop 1 ws → GivesRule (perhaps_expression (scope_of here)) mid (Ok o) rest →
      Gives (returning here) ws (Ok (known (stmt.Return o) here.names)) rest
  return_reads o ws mid rest p d g =
      skips is_return (call (perhaps_expression (scope_of here)) λ o. give (known (stmt.Return o) here.names)) ws mid
      rest (Ok (known (stmt.Return o) here.names)) p d
      (rule_then {v = perhaps_an_expression} (perhaps_expression (scope_of here))
      (λ o. give (known (stmt.Return o) here.names)) o mid rest rest (Ok (known (stmt.Return o) here.names)) g
      (g_give {s = a_statement} (known (stmt.Return o) here.names) rest))

  -- A fault in what `return` gives.
  pub return_breaks : (e : Fault) (ws mid rest : List Word) → next_is is_return (head ws) ≡ true → mid ≡ drop 1 ws →
      GivesRule (perhaps_expression (scope_of here)) mid (Err e) rest → Gives (returning here) ws (Err e) rest
  return_breaks e ws mid rest p d g =
      skips is_return (call (perhaps_expression (scope_of here)) λ o. give (known (stmt.Return o) here.names)) ws mid
      rest (Err e) p d
      (rule_fails {v = perhaps_an_expression} (perhaps_expression (scope_of here))
      (λ o. give (known (stmt.Return o) here.names)) e mid rest g)

  -- A missing `return` is a fault.
  pub no_return : (e : Fault) (ws rest : List Word) → rest ≡ ws → next_is is_return (head ws) ≡ false →
      e ≡ f.Unexpected → Gives (returning here) ws (Err e) rest
  no_return e ws rest d p u =
      lacks is_return (λ _. call (perhaps_expression (scope_of here)) λ o. give (known (stmt.Return o) here.names))
      ws rest e d p u

  -- `raise` with its text.
  pub raise_reads : (x : Expr) (ws mid rest : List Word) → next_is is_raise (head ws) ≡ true → mid ≡ drop 1 ws →
      GivesRule (expression (scope_of here)) mid (Ok x) rest →
      Gives (raising here) ws (Ok (known (stmt.Raise x) here.names)) rest
  raise_reads x ws mid rest p d g =
      skips is_raise (call (expression (scope_of here)) λ x. give (known (stmt.Raise x) here.names)) ws mid rest
      (Ok (known (stmt.Raise x) here.names)) p d
      (value (scope_of here) (λ x. known (stmt.Raise x) here.names) x mid rest g)

  -- A fault in what `raise` raises.
  pub raise_breaks : (e : Fault) (ws mid rest : List Word) → next_is is_raise (head ws) ≡ true → mid ≡ drop 1 ws →
      GivesRule (expression (scope_of here)) mid (Err e) rest → Gives (raising here) ws (Err e) rest
  raise_breaks e ws mid rest p d g =
      skips is_raise (call (expression (scope_of here)) λ x. give (known (stmt.Raise x) here.names)) ws mid rest
      (Err e) p d
      (value_fails (scope_of here) (λ x. give (known (stmt.Raise x) here.names)) e mid rest g)

  -- A missing `raise` is a fault.
  pub no_raise : (e : Fault) (ws rest : List Word) → rest ≡ ws → next_is is_raise (head ws) ≡ false →
      e ≡ f.Unexpected → Gives (raising here) ws (Err e) rest
  no_raise e ws rest d p u =
      lacks is_raise (λ _. call (expression (scope_of here)) λ x. give (known (stmt.Raise x) here.names)) ws rest e d
      p u

  -- An expression as a statement.
  pub evaluation_reads : (x : Expr) (ws rest : List Word) → GivesRule (expression (scope_of here)) ws (Ok x) rest →
      Gives (evaluating here) ws (Ok (known (stmt.Expr x) here.names)) rest
  evaluation_reads x ws rest g = value (scope_of here) (λ x. known (stmt.Expr x) here.names) x ws rest g

  -- A fault in an expression that is a statement.
  pub evaluation_breaks : (e : Fault) (ws rest : List Word) →
      GivesRule (expression (scope_of here)) ws (Err e) rest → Gives (evaluating here) ws (Err e) rest
  evaluation_breaks e ws rest g = value_fails (scope_of here) (λ x. give (known (stmt.Expr x) here.names)) e ws rest g

  -- what is read behind a variable, and behind its `=`
  abbrev set_value : Name → Prod ruby a_statement
  set_value name = call (expression (scope here.levels (name ∷ here.names))) λ x.
      give (known (stmt.Set name x) (name ∷ here.names))

  -- A variable is assigned, and known from its `=` on.
  pub set_reads : (w : Word) (x : Expr) (names : List Name) (ws mid behind rest : List Word) → ws ≡ w ∷ mid →
      is_variable w ≡ true → next_is is_assign (head mid) ≡ true → behind ≡ drop 1 mid → names ≡ w.text ∷ here.names →
      GivesRule (expression (scope here.levels names)) behind (Ok x) rest →
      Gives (setting here) ws (Ok (known (stmt.Set w.text x) names)) rest
  set_reads w x names ws mid behind rest e v p d n g =
      subst (λ l. Gives (setting here) ws (Ok (known (stmt.Set w.text x) l)) rest) (sym n)
      (passes is_variable (λ w. token is_assign λ _. set_value w.text) w ws mid rest
      (Ok (known (stmt.Set w.text x) (w.text ∷ here.names))) e v
      (skips is_assign (set_value w.text) mid behind rest (Ok (known (stmt.Set w.text x) (w.text ∷ here.names))) p d
      (value (scope here.levels (w.text ∷ here.names)) (λ x. known (stmt.Set w.text x) (w.text ∷ here.names)) x
      behind rest (subst (λ l. GivesRule (expression (scope here.levels l)) behind (Ok x) rest) n g))))

  -- A fault in what is assigned to a variable.
  pub set_breaks : (w : Word) (e : Fault) (names : List Name) (ws mid behind rest : List Word) → ws ≡ w ∷ mid →
      is_variable w ≡ true → next_is is_assign (head mid) ≡ true → behind ≡ drop 1 mid → names ≡ w.text ∷ here.names →
      GivesRule (expression (scope here.levels names)) behind (Err e) rest → Gives (setting here) ws (Err e) rest
  set_breaks w e names ws mid behind rest q v p d n g =
      passes is_variable (λ w. token is_assign λ _. set_value w.text) w ws mid rest (Err e) q v
      (skips is_assign (set_value w.text) mid behind rest (Err e) p d
      (value_fails (scope here.levels (w.text ∷ here.names))
      (λ x. give (known (stmt.Set w.text x) (w.text ∷ here.names))) e behind rest
      (subst (λ l. GivesRule (expression (scope here.levels l)) behind (Err e) rest) n g)))

  -- The `=` behind a variable lacks.
  pub set_lacks_assign : (w : Word) (e : Fault) (ws mid rest : List Word) → ws ≡ w ∷ mid → is_variable w ≡ true →
      rest ≡ mid → next_is is_assign (head mid) ≡ false → e ≡ f.Unexpected → Gives (setting here) ws (Err e) rest
  set_lacks_assign w e ws mid rest q v d p u =
      passes is_variable (λ w. token is_assign λ _. set_value w.text) w ws mid rest (Err e) q v
      (lacks is_assign (λ _. set_value w.text) mid rest e d p u)

  -- A missing variable is a fault.
  pub no_variable : (e : Fault) (ws rest : List Word) → rest ≡ ws → next_is is_variable (head ws) ≡ false →
      e ≡ f.Unexpected → Gives (setting here) ws (Err e) rest
  no_variable e ws rest d p u = lacks is_variable (λ w. token is_assign λ _. set_value w.text) ws rest e d p u

  abbrev ivar_value : Name → Prod ruby a_statement
  ivar_value name = call (expression (scope_of here)) λ x. give (known (stmt.SetIvar name x) here.names)

  -- An instance variable is assigned.
  pub set_ivar_reads : (w : Word) (x : Expr) (name : Name) (ws mid behind rest : List Word) → ws ≡ w ∷ mid →
      is_ivar w ≡ true → next_is is_assign (head mid) ≡ true → behind ≡ drop 1 mid → name ≡ behind_sign w.text →
      GivesRule (expression (scope_of here)) behind (Ok x) rest →
      Gives (setting_ivar here) ws (Ok (known (stmt.SetIvar name x) here.names)) rest
  set_ivar_reads w x name ws mid behind rest e v p d n g =
      subst (λ l. Gives (setting_ivar here) ws (Ok (known (stmt.SetIvar l x) here.names)) rest) (sym n)
      (passes is_ivar (λ w. token is_assign λ _. ivar_value (behind_sign w.text)) w ws mid rest
      (Ok (known (stmt.SetIvar (behind_sign w.text) x) here.names)) e v
      (skips is_assign (ivar_value (behind_sign w.text)) mid behind rest
      (Ok (known (stmt.SetIvar (behind_sign w.text) x) here.names)) p d
      (value (scope_of here) (λ x. known (stmt.SetIvar (behind_sign w.text) x) here.names) x behind rest g)))

  -- A fault in what is assigned to an instance variable.
  pub set_ivar_breaks : (w : Word) (e : Fault) (ws mid behind rest : List Word) → ws ≡ w ∷ mid → is_ivar w ≡ true →
      next_is is_assign (head mid) ≡ true → behind ≡ drop 1 mid →
      GivesRule (expression (scope_of here)) behind (Err e) rest → Gives (setting_ivar here) ws (Err e) rest
  set_ivar_breaks w e ws mid behind rest q v p d g =
      passes is_ivar (λ w. token is_assign λ _. ivar_value (behind_sign w.text)) w ws mid rest (Err e) q v
      (skips is_assign (ivar_value (behind_sign w.text)) mid behind rest (Err e) p d
      (value_fails (scope_of here) (λ x. give (known (stmt.SetIvar (behind_sign w.text) x) here.names)) e behind rest
      g))

  -- The `=` behind an instance variable lacks.
  pub set_ivar_lacks_assign : (w : Word) (e : Fault) (ws mid rest : List Word) → ws ≡ w ∷ mid → is_ivar w ≡ true →
      rest ≡ mid → next_is is_assign (head mid) ≡ false → e ≡ f.Unexpected → Gives (setting_ivar here) ws (Err e) rest
  set_ivar_lacks_assign w e ws mid rest q v d p u =
      passes is_ivar (λ w. token is_assign λ _. ivar_value (behind_sign w.text)) w ws mid rest (Err e) q v
      (lacks is_assign (λ _. ivar_value (behind_sign w.text)) mid rest e d p u)

  -- A missing instance variable is a fault.
  pub no_ivar : (e : Fault) (ws rest : List Word) → rest ≡ ws → next_is is_ivar (head ws) ≡ false →
      e ≡ f.Unexpected → Gives (setting_ivar here) ws (Err e) rest
  no_ivar e ws rest d p u = lacks is_ivar (λ w. token is_assign λ _. ivar_value (behind_sign w.text)) ws rest e d p u

  -- ---- which of them is chosen
  -- `return` is chosen by its word.
  pub simple_return : (ws rest : List Word) (r : Result Known Fault) → next_is is_return (head ws) ≡ true →
      Gives (returning here) ws r rest → GivesRule (simple_statement here) ws r rest
  simple_return ws rest r p g = picked (simple_statement here) (returning here) ws rest r (cond-true _ _ _ p) g

  -- `raise` is chosen by its word.
  pub simple_raise : (ws rest : List Word) (r : Result Known Fault) → next_is is_return (head ws) ≡ false →
      next_is is_raise (head ws) ≡ true → Gives (raising here) ws r rest → GivesRule (simple_statement here) ws r rest
  simple_raise ws rest r p q g = picked (simple_statement here) (raising here) ws rest r (cond-false _ _ _ p
      ∙ cond-true _ _ _ q) g

  module _ (ws : List Word) (p : next_is is_return (head ws) ≡ false) (q : next_is is_raise (head ws) ≡ false) where
    -- A variable and `=` choose an assignment.
    pub simple_set : (rest : List Word) (r : Result Known Fault) →
        (next_is is_variable (head ws) && next_is is_assign (second ws)) ≡ true → Gives (setting here) ws r rest →
        GivesRule (simple_statement here) ws r rest
    simple_set rest r t g = picked (simple_statement here) (setting here) ws rest r (cond-false _ _ _ p
        ∙ cond-false _ _ _ q ∙ cond-true _ _ _ t) g

    -- Where nothing else begins, an expression is chosen.
    pub simple_evaluation : (rest : List Word) (r : Result Known Fault) →
        (next_is is_variable (head ws) && next_is is_assign (second ws)) ≡ false →
        (next_is is_ivar (head ws) && next_is is_assign (second ws)) ≡ false →
        Gives (evaluating here) ws r rest → GivesRule (simple_statement here) ws r rest
    simple_evaluation rest r t u g = picked (simple_statement here) (evaluating here) ws rest r (cond-false _ _ _ p
        ∙ cond-false _ _ _ q ∙ cond-false _ _ _ t ∙ cond-false _ _ _ u) g

    ivar_chosen : (next_is is_variable (head ws) && next_is is_assign (second ws)) ≡ false →
        (next_is is_ivar (head ws) && next_is is_assign (second ws)) ≡ true →
        choose ruby_choices (simple_statement here) ws ≡ pick_set_ivar here.sets here
    ivar_chosen t u = cond-false _ _ _ p ∙ cond-false _ _ _ q ∙ cond-false _ _ _ t ∙ cond-true _ _ _ u

    -- An instance variable and `=` choose an assignment where one may stand.
    pub simple_set_ivar : (rest : List Word) (r : Result Known Fault) →
        (next_is is_variable (head ws) && next_is is_assign (second ws)) ≡ false →
        (next_is is_ivar (head ws) && next_is is_assign (second ws)) ≡ true → here.sets ≡ true →
        Gives (setting_ivar here) ws r rest → GivesRule (simple_statement here) ws r rest
    simple_set_ivar rest r t u s g = picked (simple_statement here) (setting_ivar here) ws rest r (ivar_chosen t u
        ∙ ap (λ b. pick_set_ivar b here) s) g

    -- Elsewhere they are a fault at the `=`.
    pub simple_barred : (mid : List Word) → (next_is is_variable (head ws) && next_is is_assign (second ws))
        ≡ false → (next_is is_ivar (head ws) && next_is is_assign (second ws)) ≡ true → here.sets ≡ false →
        mid ≡ drop 1 ws →
        GivesRule (simple_statement here) ws (Err f.Barred) mid
    simple_barred mid t u s d = subst (λ l. GivesRule (simple_statement here) ws (Err f.Barred) l) (sym d)
        (barred_here ws (ivar_chosen t u ∙ ap (λ b. pick_set_ivar b here) s) (first _ _ u))
      where
        first : (a b : Bool) → (a && b) ≡ true → a ≡ true
        first true b e = refl
        first false b e = absurd (cc)

        barred_here : (ws : List Word) → choose ruby_choices (simple_statement here) ws ≡ barred →
            next_is is_ivar (head ws) ≡ true → GivesRule (simple_statement here) ws (Err f.Barred) (drop 1 ws)
        barred_here [] c i = absurd (cc)
        barred_here (w ∷ ws) c i = λ ms. by_bar c
