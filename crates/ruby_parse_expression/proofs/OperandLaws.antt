-- How the operands of one level are read, by the terminals that the code has.
use Rattle.std.proofs.Common.{◌≡◌, ℕ, ◌<◌, Bool, true, false, ◌==◌, ◌||◌, List, ◌∷◌, refl, sym, ap, ◌∙◌, subst}
use Rattle.std.proofs.Common.{arith, lit<, Result, Ok, Err}
use Rattle.std.proofs.lemmas.Bool.Decides.{nat_tests}
use Rattle.descent.specs.Reading.{head}
use Rattle.ruby_types.specs.declared.tree.Expr.{Expr}
use Rattle.ruby_grammar.specs.Words.{Word}
use Rattle.ruby_grammar.specs.Terminals.{Level, units, products, sums, comparisons, equalities, conjunctions}
use Rattle.ruby_grammar.specs.Terminals.{disjunctions}
use Rattle.ruby_grammar.specs.Terminals.{tighter, is_operator, repeats}
use Rattle.ruby_grammar.specs.Rules.{Scope, an_expression, operators, more_operators}
use Rattle.ruby_grammar.specs.Values.{operation}
use Rattle.ruby_grammar.specs.Expressions.{operators_behind}
use Rattle.ruby_grammar.specs.Choices.{next_is}
use Rattle.ruby_parse_cursor.specs.Views.{head_terminal}
use Rattle.ruby_parse_cursor.specs.declared.fault.Fault.{Fault}
use Rattle.ruby_parse_steps.proofs.LevelLaws.{operator_at}
use Rattle.ruby_parse_steps.specs.Gives.{Gives, GivesRule}
use Rattle.ruby_parse_steps.specs.Levels.{is_operator_terminal}
use Rattle.ruby_parse_steps.proofs.Descent.{g_give}
use Rattle.ruby_parse_steps.proofs.OperatorLaws.{operator_reads, operator_breaks}
use Rattle.ruby_parse_steps.proofs.OperatorLaws.{operators_end}

-- ---- the terminal of an operator
at : (n k : ℕ) → k < 98 → (n == k) ≡ true → n < 98
at n k h e = grind (arith, nat_tests)

either : (n : ℕ) (a b : Bool) → (a ≡ true → n < 98) → (b ≡ true → n < 98) → (a || b) ≡ true → n < 98
either n true b f g e = f refl
either n false b f g e = g e

-- a terminal of an operator is a word's
pub operator_bound : (level : Level) (n : ℕ) → is_operator_terminal level n ≡ true → n < 98
operator_bound units n e = absurd (cc)
operator_bound products n e = either n ((n == 81) || (n == 82)) (n == 83)
    (either n (n == 81) (n == 82) (at n 81 (lit< tt)) (at n 82 (lit< tt))) (at n 83 (lit< tt)) e
operator_bound sums n e = either n (n == 79) (n == 80) (at n 79 (lit< tt)) (at n 80 (lit< tt)) e
operator_bound comparisons n e =
    either n ((n == 75) || (n == 76) || (n == 77)) (n == 78)
    (either n ((n == 75) || (n == 76)) (n == 77)
    (either n (n == 75) (n == 76) (at n 75 (lit< tt)) (at n 76 (lit< tt))) (at n 77 (lit< tt)))
    (at n 78 (lit< tt)) e
operator_bound equalities n e = either n (n == 73) (n == 74) (at n 73 (lit< tt)) (at n 74 (lit< tt)) e
operator_bound conjunctions n e = at n 71 (lit< tt) e
operator_bound disjunctions n e = at n 70 (lit< tt) e

-- ---- operands, at the level `t` that is tighter
module _ (level t : Level) (here : Scope) (u : t ≡ tighter level) where
  tight : (ws rest : List Word) (r : Result Expr Fault) → GivesRule (operators t here) ws r rest →
      GivesRule (operators (tighter level) here) ws r rest
  tight ws rest r g = subst (λ l. GivesRule (operators l here) ws r rest) u g

  module _ (w : Word) (x : Expr) (ws mid : List Word) (o : is_operator_terminal level (head_terminal ws) ≡ true)
      (e : ws ≡ w ∷ mid) where
    operator_here : is_operator level w ≡ true
    operator_here = sym (ap (λ l. next_is (is_operator level) (head l)) e) ∙ (sym (operator_at level ws) ∙ o)

    -- An operator that may stand in a row, its second operand, and what follows.
    pub next_reads : (y z : Expr) (behind rest : List Word) (r : Result Expr Fault) →
        GivesRule (operators t here) mid (Ok y) behind → z ≡ operation w x y → repeats level ≡ true →
        GivesRule (more_operators level here z) behind r rest → GivesRule (more_operators level here x) ws r rest
    next_reads y z behind rest r a q m g = operator_reads level here w x y z ws mid behind rest r e operator_here q
        (tight mid behind (Ok y) a)
        (subst (λ b. Gives {s = an_expression} (operators_behind b level here z) behind r rest) (sym m) g)

    -- An operator that stands alone, and its second operand.
    pub last_reads : (y z : Expr) (behind : List Word) → GivesRule (operators t here) mid (Ok y) behind →
        z ≡ operation w x y → repeats level ≡ false → GivesRule (more_operators level here x) ws (Ok z) behind
    last_reads y z behind a q m = operator_reads level here w x y z ws mid behind behind (Ok z) e operator_here q
        (tight mid behind (Ok y) a)
        (subst (λ b. Gives {s = an_expression} (operators_behind b level here z) behind (Ok z) behind) (sym m)
        (g_give {s = an_expression} z behind))

    -- A fault in the second operand of an operator.
    pub next_breaks : (d : Fault) (rest : List Word) → GivesRule (operators t here) mid (Err d) rest →
        GivesRule (more_operators level here x) ws (Err d) rest
    next_breaks d rest a = operator_breaks level here w x d ws mid rest e operator_here (tight mid rest (Err d) a)

-- No operator of the level is at hand, so the expression ends.
pub operands_end : (level : Level) (here : Scope) (x : Expr) (ws : List Word) →
    is_operator_terminal level (head_terminal ws)
    ≡ false → GivesRule (more_operators level here x) ws (Ok x) ws
operands_end level here x ws o = operators_end level here x ws (sym (operator_at level ws) ∙ o)
