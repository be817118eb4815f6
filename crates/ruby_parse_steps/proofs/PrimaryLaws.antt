-- How primaries are chosen by the terminal of their first word, and read.
use Rattle.std.proofs.Common.{◌≡◌, ℕ, true, false, ◌==◌, ◌||◌, cond, List, [], ◌∷◌, drop, refl, sym, ap, ◌∙◌}
use Rattle.std.proofs.Common.{subst, Ok, Err}
use Rattle.std.proofs.lemmas.Bool.{cond-false, eqb-true, or_parts, eq-eqb, ne_eqb}
use Rattle.descent.specs.Grammar.{give, token, only}
use Rattle.descent.specs.Reading.{Choice, take, nothing, head, choose}
use Rattle.ruby_types.specs.declared.tree.Expr.{Expr}
use Rattle.ruby_types.specs.declared.tree.Expr.TheVariants as expr
use Rattle.ruby_grammar.specs.Words.{Word}
use Rattle.ruby_grammar.specs.Terminals.{is, is_int, is_sym, is_ivar, is_nil, is_true, is_false, is_self, is_name}
use Rattle.ruby_grammar.specs.Rules.{ruby, Scope, an_expression, primary, name_rest}
use Rattle.ruby_grammar.specs.Values.{number_of, behind_sign}
use Rattle.ruby_grammar.specs.Expressions.{text_from, constant_alone, array_from, hash_from, group_from}
use Rattle.ruby_grammar.specs.Choices.{ruby_choices, next_is, deepen}
use Rattle.ruby_parse_cursor.specs.Views.{head_terminal}
use Rattle.ruby_parse_cursor.specs.declared.fault.Fault.TheVariants as f
use Rattle.ruby_parse_steps.specs.Gives.{Gives, GivesRule}
use Rattle.ruby_parse_steps.specs.Primaries.{nests}
use Rattle.ruby_parse_steps.proofs.Descent.{g_give, g_chosen, g_word, g_skip, g_nothing}

abbrev other_at : Scope → ℕ → Choice ruby an_expression
other_at here n =
    cond ((n == 86) || (n == 51)) (take constant_alone)
    (cond (n == 93) (deepen here.levels (array_from here))
    (cond (n == 95) (deepen here.levels (hash_from here))
    (cond (n == 91) (deepen here.levels (group_from here))
    nothing)))

-- what is chosen where the first word has this terminal
abbrev pub primary_at : Scope → ℕ → Choice ruby an_expression
primary_at here n =
    cond (n == 55) (take (token is_int λ w. give (expr.Int (number_of w.text))))
    (cond (n == 56) (take (text_from here))
    (cond (n == 54) (take (token is_sym λ w. give (expr.Sym (behind_sign w.text))))
    (cond (n == 12) (take (token is_nil λ _. give expr.Nil))
    (cond (n == 13) (take (token is_true λ _. give expr.True))
    (cond (n == 14) (take (token is_false λ _. give expr.False))
    (cond (n == 11) (take (token is_self λ _. give expr.SelfRef))
    (cond (n == 0) (take (token is_name λ w. only (name_rest here w.text)))
    (cond (n == 52) (take (token is_ivar λ w. give (expr.Ivar (behind_sign w.text))))
    (other_at here n)))))))))

wrong : {A : Type 0} → (98 == 98) ≡ false → A
wrong e = cc

-- What is chosen for a primary, by the terminal at hand.
pub chosen_at : (here : Scope) (ws : List Word) (n : ℕ) (c : Choice ruby an_expression) → head_terminal ws ≡ n →
    (98 == n) ≡ false → primary_at here n ≡ c → choose ruby_choices (primary here) ws ≡ c
chosen_at here [] n c e o h = wrong (subst (λ m. (98 == m) ≡ false) (sym e) o)
chosen_at here (w ∷ ws) n c e o h = subst (λ m. primary_at here m ≡ c) (sym e) h

-- the first word has this terminal
pub sees : (ws : List Word) (n : ℕ) → head_terminal ws ≡ n → (98 == n) ≡ false → next_is (is n) (head ws) ≡ true
sees [] n e o = wrong (subst (λ m. (98 == m) ≡ false) (sym e) o)
sees (w ∷ ws) n e o = subst (λ m. (m == n) ≡ true) (sym e) (eq-eqb n n refl)

-- a word that is an expression by itself
pub word_reads : (here : Scope) (n : ℕ) (x : Expr) (ws rest : List Word) → head_terminal ws ≡ n → (98 == n) ≡ false →
    primary_at here n ≡ take (token (is n) λ _. give x) → rest ≡ drop 1 ws → GivesRule (primary here) ws (Ok x) rest
word_reads here n x ws rest e o h d =
    g_chosen {s = an_expression} (primary here) (token (is n) λ _. give x) ws rest (Ok x)
    (chosen_at here ws n _ e o h)
    (g_skip {s = an_expression} (is n) _ ws rest rest (Ok x) (sees ws n e o) d
    (λ _. g_give {s = an_expression} x rest))

-- a word whose text tells the value
pub text_reads : (here : Scope) (n : ℕ) (value : List ℕ → Expr) (w : Word) (x : Expr) (ws rest : List Word) →
    head_terminal ws ≡ n → (98 == n) ≡ false → primary_at here n ≡ take (token (is n) λ v. give (value v.text)) →
    ws ≡ w ∷ rest → is n w ≡ true → x ≡ value w.text → GivesRule (primary here) ws (Ok x) rest
text_reads here n value w x ws rest e o h q p v =
    g_chosen {s = an_expression} (primary here) (token (is n) λ v. give (value v.text)) ws rest (Ok x)
    (chosen_at here ws n _ e o h)
    (g_word {s = an_expression} (is n) _ w ws rest rest (Ok x) q p
    (subst (λ y. Gives {s = an_expression} (give (value w.text)) rest (Ok y) rest) (sym v)
    (g_give {s = an_expression} (value w.text) rest)))

-- ---- no primary

-- No primary begins with the terminal at hand.
pub primary_none : (here : Scope) (n : ℕ) → nests n ≡ false → (n ≡ 55 → ⊥) → (n ≡ 54 → ⊥) → (n ≡ 52 → ⊥) →
    (n ≡ 12 → ⊥) → (n ≡ 13 → ⊥) → (n ≡ 14 → ⊥) → (n ≡ 11 → ⊥) → primary_at here n ≡ nothing
primary_none here n h int sym' ivar nil yes' no' self =
    let a = or_parts _ _ h in
    let b = or_parts _ _ a.0 in
    let c = or_parts _ _ b.0 in
    let d = or_parts _ _ c.0 in
    let k = or_parts _ _ a.1 in
    let l = or_parts _ _ k.0 in
    let either : ((n == 86) || (n == 51)) ≡ false = ap (λ x. x || (n == 51)) b.1 ∙ c.1 in
    cond-false (n == 55) _ _ (ne_eqb n 55 int)
    ∙ cond-false (n == 56) _ _ d.1
    ∙ cond-false (n == 54) _ _ (ne_eqb n 54 sym')
    ∙ cond-false (n == 12) _ _ (ne_eqb n 12 nil)
    ∙ cond-false (n == 13) _ _ (ne_eqb n 13 yes')
    ∙ cond-false (n == 14) _ _ (ne_eqb n 14 no')
    ∙ cond-false (n == 11) _ _ (ne_eqb n 11 self)
    ∙ cond-false (n == 0) _ _ d.0
    ∙ cond-false (n == 52) _ _ (ne_eqb n 52 ivar)
    ∙ cond-false ((n == 86) || (n == 51)) _ _ either
    ∙ cond-false (n == 93) _ _ l.1
    ∙ cond-false (n == 95) _ _ k.1
    ∙ cond-false (n == 91) _ _ l.0

-- Where no primary is at hand, that is a fault.
pub no_primary : (here : Scope) (n : ℕ) (ws : List Word) → head_terminal ws ≡ n → primary_at here n ≡ nothing →
    GivesRule (primary here) ws (Err f.Unexpected) ws
no_primary here n [] e h = g_nothing {s = an_expression} (primary here) [] refl
no_primary here n (w ∷ ws) e h = g_nothing {s = an_expression} (primary here) (w ∷ ws)
    (subst (λ m. primary_at here m ≡ nothing) (sym e) h)
