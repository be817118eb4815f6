-- How operators and unary operators are read.
use Rattle.std.proofs.Common.{◌≡◌, ℕ, suc, true, false, cond, List, [], ◌∷◌, drop, refl, sym, ap, ◌∙◌, subst, Result}
use Rattle.std.proofs.Common.{Ok, Err, Some, codes}
use Rattle.descent.specs.Grammar.{give, call, only}
use Rattle.descent.specs.Reading.{take, head, choose}
use Rattle.ruby_types.specs.declared.tree.Expr.{Expr}
use Rattle.ruby_types.specs.declared.tree.Expr.TheVariants as expr
use Rattle.ruby_grammar.specs.Words.{Word}
use Rattle.ruby_grammar.specs.Terminals.{Level, units, tighter, is_operator, repeats, is_not, is_minus}
use Rattle.ruby_grammar.specs.Rules.{Scope, an_expression, unary, postfix, operators, more_operators}
use Rattle.ruby_grammar.specs.Values.{operation}
use Rattle.ruby_grammar.specs.Expressions.{at_levels, not_from, minus_from, operators_from, operator_more}
use Rattle.ruby_grammar.specs.Expressions.{operators_behind}
use Rattle.ruby_grammar.specs.Choices.{ruby_choices, next_is, deepen}
use Rattle.ruby_parse_cursor.specs.declared.fault.Fault.{Fault}
use Rattle.ruby_parse_cursor.specs.declared.fault.Fault.TheVariants as f
use Rattle.ruby_parse_steps.specs.Gives.{Gives, GivesRule}
use Rattle.ruby_parse_steps.proofs.Descent.{g_give, g_chosen, g_word, g_skip, g_then, g_fails, g_deep}

-- ---- unary operators
not_chosen : (here : Scope) (ws : List Word) → next_is is_not (head ws) ≡ true → choose ruby_choices (unary here) ws
    ≡ deepen here.levels (not_from here)
not_chosen here ws p = ap
    (λ b. cond b (deepen here.levels (not_from here))
    (cond (next_is is_minus (head ws)) (deepen here.levels (minus_from here)) (take (only (postfix here))))) p

minus_chosen : (here : Scope) (ws : List Word) → next_is is_not (head ws) ≡ false →
    next_is is_minus (head ws) ≡ true → choose ruby_choices (unary here) ws ≡ deepen here.levels (minus_from here)
minus_chosen here ws p q =
    ap (λ b. cond b (deepen here.levels (not_from here))
    (cond (next_is is_minus (head ws)) (deepen here.levels (minus_from here)) (take (only (postfix here))))) p
    ∙ ap (λ b. cond b (deepen here.levels (minus_from here)) (take (only (postfix here)))) q

postfix_chosen : (here : Scope) (ws : List Word) → next_is is_not (head ws) ≡ false →
    next_is is_minus (head ws) ≡ false → choose ruby_choices (unary here) ws ≡ take (only (postfix here))
postfix_chosen here ws p q =
    ap (λ b. cond b (deepen here.levels (not_from here))
    (cond (next_is is_minus (head ws)) (deepen here.levels (minus_from here)) (take (only (postfix here))))) p
    ∙ ap (λ b. cond b (deepen here.levels (minus_from here)) (take (only (postfix here)))) q

-- No level is left for `!`.
pub not_deep : (here : Scope) (ws : List Word) → next_is is_not (head ws) ≡ true → here.levels ≡ 0 →
    GivesRule (unary here) ws (Err f.Deep) ws
not_deep here ws p e = g_deep {s = an_expression} (unary here) ws (not_chosen here ws p
    ∙ ap (λ n. deepen n (not_from here)) e)

-- No level is left for a unary `-`.
pub minus_deep : (here : Scope) (ws : List Word) → next_is is_not (head ws) ≡ false →
    next_is is_minus (head ws) ≡ true → here.levels ≡ 0 → GivesRule (unary here) ws (Err f.Deep) ws
minus_deep here ws p q e = g_deep {s = an_expression} (unary here) ws (minus_chosen here ws p q
    ∙ ap (λ n. deepen n (minus_from here)) e)

-- `!` and its operand.
pub not_reads : (here inner : Scope) (n : ℕ) (x : Expr) (ws mid rest : List Word) → next_is is_not (head ws) ≡ true →
    here.levels ≡ suc n → inner ≡ at_levels here n → mid ≡ drop 1 ws →
    GivesRule (unary inner) mid (Ok x) rest → GivesRule (unary here) ws (Ok (expr.Not x)) rest
not_reads here inner n x ws mid rest p l i d g =
    g_chosen {s = an_expression} (unary here) (not_from here n) ws rest (Ok (expr.Not x)) (not_chosen here ws p
    ∙ ap (λ n. deepen n (not_from here)) l)
    (g_skip {s = an_expression} is_not _ ws mid rest (Ok (expr.Not x)) p d
    (λ _. g_then {s = an_expression} (unary (at_levels here n)) _ x mid rest rest (Ok (expr.Not x))
    (subst (λ s. GivesRule (unary s) mid (Ok x) rest) i g) (g_give {s = an_expression} (expr.Not x) rest)))

-- A fault behind `!`.
pub not_breaks : (here inner : Scope) (n : ℕ) (e : Fault) (ws mid rest : List Word) →
    next_is is_not (head ws) ≡ true → here.levels ≡ suc n → inner ≡ at_levels here n → mid ≡ drop 1 ws →
    GivesRule (unary inner) mid (Err e) rest → GivesRule (unary here) ws (Err e) rest
not_breaks here inner n e ws mid rest p l i d g =
    g_chosen {s = an_expression} (unary here) (not_from here n) ws rest (Err e) (not_chosen here ws p
    ∙ ap (λ n. deepen n (not_from here)) l)
    (g_skip {s = an_expression} is_not _ ws mid rest (Err e) p d
    (λ _. g_fails {s = an_expression} (unary (at_levels here n)) _ mid rest e
    (subst (λ s. GivesRule (unary s) mid (Err e) rest) i g)))

-- A unary `-` and its operand.
pub minus_reads : (here inner : Scope) (n : ℕ) (x : Expr) (ws mid rest : List Word) →
    next_is is_not (head ws) ≡ false → next_is is_minus (head ws) ≡ true → here.levels ≡ suc n →
    inner ≡ at_levels here n → mid ≡ drop 1 ws →
    GivesRule (unary inner) mid (Ok x) rest → GivesRule (unary here) ws (Ok (expr.Call (Some x) (codes "-@") [])) rest
minus_reads here inner n x ws mid rest p q l i d g =
    g_chosen {s = an_expression} (unary here) (minus_from here n) ws rest (Ok (expr.Call (Some x) (codes "-@") []))
    (minus_chosen here ws p q ∙ ap (λ n. deepen n (minus_from here)) l)
    (g_skip {s = an_expression} is_minus _ ws mid rest (Ok (expr.Call (Some x) (codes "-@") [])) q d
    (λ _. g_then {s = an_expression} (unary (at_levels here n)) _ x mid rest rest
    (Ok (expr.Call (Some x) (codes "-@") [])) (subst (λ s. GivesRule (unary s) mid (Ok x) rest) i g)
    (g_give {s = an_expression} (expr.Call (Some x) (codes "-@") []) rest)))

-- A fault behind a unary `-`.
pub minus_breaks : (here inner : Scope) (n : ℕ) (e : Fault) (ws mid rest : List Word) →
    next_is is_not (head ws) ≡ false → next_is is_minus (head ws) ≡ true → here.levels ≡ suc n →
    inner ≡ at_levels here n → mid ≡ drop 1 ws →
    GivesRule (unary inner) mid (Err e) rest → GivesRule (unary here) ws (Err e) rest
minus_breaks here inner n e ws mid rest p q l i d g =
    g_chosen {s = an_expression} (unary here) (minus_from here n) ws rest (Err e) (minus_chosen here ws p q
    ∙ ap (λ n. deepen n (minus_from here)) l)
    (g_skip {s = an_expression} is_minus _ ws mid rest (Err e) q d
    (λ _. g_fails {s = an_expression} (unary (at_levels here n)) _ mid rest e
    (subst (λ s. GivesRule (unary s) mid (Err e) rest) i g)))

-- An operand without `!` and `-`.
pub unary_is_postfix : (here : Scope) (ws rest : List Word) (r : Result Expr Fault) →
    next_is is_not (head ws) ≡ false → next_is is_minus (head ws) ≡ false →
    GivesRule (postfix here) ws r rest → GivesRule (unary here) ws r rest
unary_is_postfix here ws rest r p q g = g_chosen {s = an_expression} (unary here) (only (postfix here)) ws rest r
    (postfix_chosen here ws p q) g

-- ---- operators of one level
-- An expression without operators.
pub units_are_unary : (level : Level) (here : Scope) (ws rest : List Word) (r : Result Expr Fault) → level ≡ units →
    GivesRule (unary here) ws r rest → GivesRule (operators level here) ws r rest
units_are_unary level here ws rest r e g = subst (λ l. GivesRule (operators l here) ws r rest) (sym e)
    (g_chosen {s = an_expression} (operators units here) (only (unary here)) ws rest r refl g)

-- the first operand
first_operand : (level : Level) (here : Scope) → (level ≡ units → ⊥) →
    operators_from level here ≡ (call (operators (tighter level) here) λ a. only (more_operators level here a))
first_operand units here n = absurd (n refl)
first_operand _ here n = refl

-- The first operand of a level, and what follows it.
pub operators_begin : (level : Level) (here : Scope) (x : Expr) (ws mid rest : List Word) (r : Result Expr Fault) →
    (level ≡ units → ⊥) →
    GivesRule (operators (tighter level) here) ws (Ok x) mid → GivesRule (more_operators level here x) mid r rest →
    GivesRule (operators level here) ws r rest
operators_begin level here x ws mid rest r n a g =
    g_chosen {s = an_expression} (operators level here) (operators_from level here) ws rest r refl
    (subst (λ p. Gives p ws r rest) (sym (first_operand level here n))
    (g_then {s = an_expression} (operators (tighter level) here) _ x ws mid rest r a g))

-- A fault in the first operand of a level.
pub operators_break : (level : Level) (here : Scope) (e : Fault) (ws rest : List Word) → (level ≡ units → ⊥) →
    GivesRule (operators (tighter level) here) ws (Err e) rest → GivesRule (operators level here) ws (Err e) rest
operators_break level here e ws rest n a =
    g_chosen {s = an_expression} (operators level here) (operators_from level here) ws rest (Err e) refl
    (subst (λ p. Gives p ws (Err e) rest) (sym (first_operand level here n))
    (g_fails {s = an_expression} (operators (tighter level) here) _ ws rest e a))

-- no word is an operator of the units
no_unit : (ws : List Word) → next_is (is_operator units) (head ws) ≡ true → ⊥
no_unit [] p = cc
no_unit (w ∷ ws) p = cc

more_chosen : (level : Level) (here : Scope) (x : Expr) (ws : List Word) → next_is (is_operator level) (head ws)
    ≡ true → choose ruby_choices (more_operators level here x) ws ≡ take (operator_more level here x)
more_chosen units here x ws p = absurd (no_unit ws p)
more_chosen level here x ws p = ap (λ b. cond b (take (operator_more level here x)) (take (give x))) p

none_chosen : (level : Level) (here : Scope) (x : Expr) (ws : List Word) → next_is (is_operator level) (head ws)
    ≡ false → choose ruby_choices (more_operators level here x) ws ≡ take (give x)
none_chosen units here x ws p = refl
none_chosen level here x ws p = ap (λ b. cond b (take (operator_more level here x)) (take (give x))) p

-- one operator and its second operand
pub operator_reads : (level : Level) (here : Scope) (w : Word) (x y z : Expr) (ws mid behind rest : List Word)
    (r : Result Expr Fault) →
    ws ≡ w ∷ mid → is_operator level w ≡ true → z ≡ operation w x y →
    GivesRule (operators (tighter level) here) mid (Ok y) behind →
    Gives (operators_behind (repeats level) level here z) behind r rest →
    GivesRule (more_operators level here x) ws r rest
operator_reads level here w x y z ws mid behind rest r e p o a g =
    g_chosen {s = an_expression} (more_operators level here x) (operator_more level here x) ws rest r
    (more_chosen level here x ws (ap (λ l. next_is (is_operator level) (head l)) e ∙ p))
    (g_word {s = an_expression} (is_operator level) _ w ws mid rest r e p
    (g_then {s = an_expression} (operators (tighter level) here) _ y mid behind rest r a
    (subst (λ v. Gives (operators_behind (repeats level) level here v) behind r rest) o g)))

-- A fault in the second operand of an operator.
pub operator_breaks : (level : Level) (here : Scope) (w : Word) (x : Expr) (e : Fault) (ws mid rest : List Word) →
    ws ≡ w ∷ mid → is_operator level w ≡ true → GivesRule (operators (tighter level) here) mid (Err e) rest →
    GivesRule (more_operators level here x) ws (Err e) rest
operator_breaks level here w x e ws mid rest q p a =
    g_chosen {s = an_expression} (more_operators level here x) (operator_more level here x) ws rest (Err e)
    (more_chosen level here x ws (ap (λ l. next_is (is_operator level) (head l)) q ∙ p))
    (g_word {s = an_expression} (is_operator level) _ w ws mid rest (Err e) q p
    (g_fails {s = an_expression} (operators (tighter level) here) _ mid rest e a))

-- No operator of the level is at hand, so the expression ends.
pub operators_end : (level : Level) (here : Scope) (x : Expr) (ws : List Word) →
    next_is (is_operator level) (head ws) ≡ false → GivesRule (more_operators level here x) ws (Ok x) ws
operators_end level here x ws p = g_chosen {s = an_expression} (more_operators level here x) (give x) ws ws (Ok x)
    (none_chosen level here x ws p) (g_give {s = an_expression} x ws)
