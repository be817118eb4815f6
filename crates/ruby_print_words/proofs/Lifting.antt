-- What reads an expression inside another reads it at every level of operators, and alone.
use Rattle.std.proofs.Common.{◌≡◌, ℕ, zero, suc, Bool, true, false, List, [], ◌∷◌, ◌++◌, refl, sym, ap, ◌∙◌, append-nil}
use Rattle.ruby_types.specs.declared.tree.Expr.{Expr}
use Rattle.descent.specs.Grammar.{first, later}
use Rattle.ruby_token.specs.declared.token.Op.{Op}
use Rattle.ruby_grammar.specs.Terminals.{Level, units, products, sums, comparisons, equalities, conjunctions}
use Rattle.ruby_grammar.specs.Terminals.{disjunctions}
use Rattle.ruby_grammar.specs.Terminals.{tighter, is_operator, repeats}
use Rattle.ruby_grammar.specs.Rules.{Name, Scope, operators, more_operators, unary, postfix, more_postfix, primary}
use Rattle.ruby_grammar.specs.Rules.{choice_rest}
use Rattle.ruby_grammar.specs.Rules as rule
use Rattle.ruby_grammar.specs.Expressions.{opening, not_from, minus_from, index_from, operators_behind}
use Rattle.ruby_grammar.specs.Statements.{scope}
use Rattle.ruby_grammar.specs.Values.{operation}
use Rattle.ruby_grammar.proofs.Tools.{among_behind}
use Rattle.ruby_print_pieces.specs.Pieces.{Piece, mark, word_at, space, open_paren, close_paren}
use Rattle.ruby_print_pieces.specs.Expressions.{expression, enclosed}
use Rattle.ruby_print_words.proofs.Building.{Sent, Reads, reads, given, takes, then_, ends, says, over_rule, Eventually}
use Rattle.ruby_print_words.proofs.Building.{Under, so, both, deeper}

-- ---- nothing follows

no_postfix : (here : Scope) (x : Expr) → Reads (more_postfix here x) [] x
no_postfix here x = reads (later (among_behind (opening here.levels (index_from here x)) first)) given

-- An expression without `?` behind it is a whole one.
pub no_choice : (here : Scope) (x : Expr) → Reads (choice_rest here x) [] x
no_choice here x = reads (later first) given

-- An expression without an operator behind it is a whole one of its level.
pub no_operator : (k : Level) (here : Scope) (x : Expr) → Reads (more_operators k here x) [] x
no_operator units here x = reads first given
no_operator k here x = reads (later first) given

-- ---- from a level to looser ones

looser : (k : Level) (here : Scope) {ps : List Piece} {x : Expr} → Reads (operators (tighter k) here) ps x →
    Reads (operators k here) ps x
looser units here r = r
looser k here {ps} {x} r = reads first (ends r (says (no_operator k here x)))

-- from the tightest level to any
pub loosened : (k : Level) (here : Scope) {ps : List Piece} {x : Expr} → Reads (operators units here) ps x →
    Reads (operators k here) ps x
loosened units here r = r
loosened products here r = looser products here r
loosened sums here r = looser sums here (looser products here r)
loosened comparisons here r = looser comparisons here (looser sums here (looser products here r))
loosened equalities here r =
    looser equalities here (looser comparisons here (looser sums here (looser products here r)))
loosened conjunctions here r =
    looser conjunctions here
    (looser equalities here (looser comparisons here (looser sums here (looser products here r))))
loosened disjunctions here r =
    looser disjunctions here
    (looser conjunctions here
    (looser equalities here (looser comparisons here (looser sums here (looser products here r)))))

-- from any level to the loosest
loosest : (k : Level) (here : Scope) {ps : List Piece} {x : Expr} → Reads (operators k here) ps x →
    Reads (operators disjunctions here) ps x
loosest units here r = loosened disjunctions here r
loosest products here r =
    looser disjunctions here
    (looser conjunctions here (looser equalities here (looser comparisons here (looser sums here r))))
loosest sums here r = looser disjunctions here
    (looser conjunctions here (looser equalities here (looser comparisons here r)))
loosest comparisons here r = looser disjunctions here (looser conjunctions here (looser equalities here r))
loosest equalities here r = looser disjunctions here (looser conjunctions here r)
loosest conjunctions here r = looser disjunctions here r
loosest disjunctions here r = r

-- What is read at a level of operators is read as an expression.
pub whole : (k : Level) (here : Scope) {ps : List Piece} {x : Expr} → Reads (operators k here) ps x →
    Reads (rule.expression here) ps x
whole k here {ps} {x} r = reads first (ends (loosest k here r) (says (no_choice here x)))

-- What is read as an operand is read at the tightest level of operators.
pub of_unary : (here : Scope) {ps : List Piece} {x : Expr} → Reads (unary here) ps x → Reads (operators units here) ps x
of_unary here r = reads first (says r)

unary_postfix : (here : Scope) {ps : List Piece} {x : Expr} → Reads (postfix here) ps x → Reads (unary here) ps x
unary_postfix here r = reads
    (among_behind (opening here.levels (not_from here)) (among_behind (opening here.levels (minus_from here)) first))
    (says r)

of_postfix : (here : Scope) {ps : List Piece} {x : Expr} → Reads (postfix here) ps x → Reads (operators units here) ps x
of_postfix here r = of_unary here (unary_postfix here r)

-- ---- two operands

stops : (k : Level) (here : Scope) (x : Expr) → Sent (operators_behind (repeats k) k here x) [] x
stops equalities here x = given
stops k here x = says (no_operator k here x)

-- Two sides and an operator between them are read as its operation.
pub operates : (k : Level) (here : Scope) (o : Op) (text : List ℕ) {us vs : List Piece} {x y : Expr} →
    is_operator k (word_at 0 (mark space o text)) ≡ true →
    Reads (operators units here) us x → Reads (operators units here) vs y →
    Reads (operators k here) (us ++ (mark space o text ∷ vs)) (operation (word_at 0 (mark space o text)) x y)
operates units here o text e a b = cc
operates k here o text {us} {vs} {x} {y} e a b =
    reads first (then_ (loosened (tighter k) here a)
    (says (reads first (takes (λ n. e) (λ n. refl)
    (ends (loosened (tighter k) here b) (stops k here (operation (word_at 0 (mark space o text)) x y)))))))

-- ---- what is shown of each expression

-- Inside another it is read by the rule of postfix expressions, whatever follows it; alone by the rule of expressions.
pub record Ready (names : List Name) (x : Expr) (l : ℕ) : Type 0 where
  pub inside : (gap : List ℕ) (more : List Piece) (y : Expr) → Reads (more_postfix (scope l names) x) more y →
      Reads (postfix (scope l names)) (expression x gap true ++ more) y
  pub alone : (gap : List ℕ) → Reads (rule.expression (scope l names)) (expression x gap false) x

-- An expression inside another is read as an operand.
pub unary_operand : {names : List Name} {x : Expr} {l : ℕ} → Ready names x l → (gap : List ℕ) →
    Reads (unary (scope l names)) (expression x gap true) x
unary_operand {names} {x} {l} r gap =
    unary_postfix (scope l names)
    (over_rule (sym (append-nil (expression x gap true))) (r.inside gap [] x (no_postfix (scope l names) x)))

-- The same at the tightest level of operators.
pub operand : {names : List Name} {x : Expr} {l : ℕ} → Ready names x l → (gap : List ℕ) →
    Reads (operators units (scope l names)) (expression x gap true) x
operand {names} {x} {l} r gap = of_unary (scope l names) (unary_operand r gap)

-- An expression inside another is read as an expression.
pub inner : {names : List Name} {x : Expr} {l : ℕ} → Ready names x l → (gap : List ℕ) →
    Reads (rule.expression (scope l names)) (expression x gap true) x
inner {names} {x} {l} r gap = whole units (scope l names) (operand r gap)

-- an expression that has no parentheses inside another
pub open_ready : {names : List Name} {x : Expr} {l : ℕ} (pieces : List ℕ → List Piece) →
    ((gap : List ℕ) (inside : Bool) → expression x gap inside ≡ pieces gap) →
    ((gap : List ℕ) (more : List Piece) (y : Expr) → Reads (more_postfix (scope l names) x) more y →
    Reads (postfix (scope l names)) (pieces gap ++ more) y) → Ready names x l
open_ready {names} {x} {l} pieces e h = record {
  inside = λ gap more y r. over_rule (ap (λ t. t ++ more) (e gap true)) (h gap more y r);
  alone = λ gap. over_rule (e gap false ∙ sym (append-nil (pieces gap)))
      (whole units (scope l names) (of_postfix (scope l names) (h gap [] x (no_postfix (scope l names) x))));
}

-- An expression that never takes parentheses is read inside and alone.
pub primary_ready : {names : List Name} {x : Expr} {l : ℕ} (pieces : List ℕ → List Piece) →
    ((gap : List ℕ) (inside : Bool) → expression x gap inside ≡ pieces gap) →
    ((gap : List ℕ) → Reads (primary (scope l names)) (pieces gap) x) → Ready names x l
primary_ready pieces e h = open_ready pieces e (λ gap more y r. reads first (then_ (h gap) (says r)))

-- one that has parentheses inside another
grouped : (l : ℕ) (names : List Name) {x : Expr} (body : List ℕ → List Piece) →
    ((gap : List ℕ) (inside : Bool) → expression x gap inside ≡ enclosed body gap inside) →
    ((gap : List ℕ) → Reads (rule.expression (scope l names)) (body gap) x) →
    Under (λ l. (gap : List ℕ) → Reads (rule.expression (scope l names)) (body gap) x) l → Ready names x l
grouped zero names body e h u = absurd u
grouped (suc l) names {x} body e h u = record {
  inside = λ gap more y r. over_rule (ap (λ t. t ++ more) (e gap true)) (reads first (then_ (group gap) (says r)));
  alone = λ gap. over_rule (e gap false) (h gap);
}
  where
    group : (gap : List ℕ) → Reads (primary (scope (suc l) names)) (open_paren gap ∷ (body [] ++ close_paren ∷ [])) x
    group gap = reads (later
        (later (later (later (later (later (later (later (later (later (later (later first))))))))))))
        (takes (λ n. refl) (λ n. refl) (then_ (u []) (takes (λ n. refl) (λ n. refl) given)))

-- An expression that takes parentheses inside others is read inside and alone.
pub enclosed_ready : {names : List Name} {x : Expr} (body : List ℕ → List Piece) →
    ((gap : List ℕ) (inside : Bool) → expression x gap inside ≡ enclosed body gap inside) →
    Eventually (λ l. (gap : List ℕ) → Reads (rule.expression (scope l names)) (body gap) x) → Eventually (Ready names x)
enclosed_ready {names} {x} body e h = so (λ l p. grouped l names body e p.0 p.1) (both h (deeper h))
