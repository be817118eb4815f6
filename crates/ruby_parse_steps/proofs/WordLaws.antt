-- What a word at hand tells of those behind it.
use Rattle.std.proofs.Common.{◌≡◌, ℕ, Bool, true, false, ◌==◌, ◌≤◌, ◌<◌, ◌-◌, List, ◌∷◌, drop, length, refl, sym, []}
use Rattle.std.proofs.Common.{ap, ◌∙◌, subst, arith}
use Rattle.std.proofs.lemmas.Bool.{eqb-true, false≢true}
use Rattle.std.proofs.lemmas.List.{length-drop}
use Rattle.descent.specs.Reading.{head}
use Rattle.ruby_grammar.specs.Words.{Word}
use Rattle.ruby_grammar.specs.Terminals.{is, terminal}
use Rattle.ruby_grammar.specs.Choices.{next_is}

-- A word of one terminal is of no other: it parts alternatives by their first words.
pub apart : (m n : ℕ) (ws : List Word) → (m == n) ≡ false → next_is (is m) (head ws) ≡ true →
    next_is (is n) (head ws) ≡ false
apart m n [] d p = refl
apart m n (w ∷ ws) d p = subst (λ k. (k == n) ≡ false) (sym (eqb-true (terminal w) m p)) d

-- Behind a word that passes a test there are fewer words than before it: for measures.
pub skip_falls : (test : Word → Bool) (ws mid : List Word) → next_is test (head ws) ≡ true → mid ≡ drop 1 ws →
    length mid < length ws
skip_falls test [] mid t d = absurd (false≢true t)
skip_falls test (w ∷ ws) mid t d = let a : length mid ≡ length (w ∷ ws) - 1 = ap length d ∙ length-drop 1 (w ∷ ws) in
    omega (arith, a)

-- Behind a word there are no more words than before it.
pub drop_shorter : (ws mid : List Word) → mid ≡ drop 1 ws → length mid ≤ length ws
drop_shorter ws mid d = let a : length mid ≡ length ws - 1 = ap length d ∙ length-drop 1 ws in omega (arith, a)
