-- A name that is no word of Ruby's own ends a value.
use Rattle.std.proofs.Common.{◌≡◌, ℕ, Bool, true, false, List, [], ◌∷◌, length, refl, ap, sym, subst, ◌∙◌, arith, take}
use Rattle.std.proofs.Common.{take_all, ◌==◌, ◌&&◌, nat_eq, eqb-true}
use Rattle.std.specs.List.{starts_with, AllByRecursion}
use Rattle.std.proofs.lemmas.Slice.Eq.{bytes_eq-Decides}
use Rattle.ruby_token.specs.State.{valueless_words, is_one_of, is_valueless}
use Rattle.ruby_token.proofs.Longest.{and_left, and_right}
use Rattle.ruby_grammar.specs.Terminals.{name_terminal}

abbrev HasSign : List ℕ → Type 0
HasSign w = (name_terminal w == 0) ≡ false

same_text : (n w : List ℕ) → ((length n == length w) && starts_with nat_eq n w) ≡ true → w ≡ n
same_text n w h =
    let e : length n ≡ length w = eqb-true (length n) (length w) (and_left (length n == length w) _ h) in
    let g : w ≡ take (length w) n = (bytes_eq-Decides w (take (length w) n)).0 (and_right (length n == length w) _ h) in
    g ∙ ap (λ m. take m n) (sym e) ∙ take_all (length n) n (omega arith)

cases : {P : Type 0} (b : Bool) → (b ≡ true → P) → (b ≡ false → P) → P
cases true h g = h refl
cases false h g = g refl

one_of_them : (ws : List (List ℕ)) (n : List ℕ) → AllByRecursion HasSign ws → is_one_of ws n ≡ true → HasSign n
one_of_them [] n h e = cc
one_of_them (w ∷ ws) n h e = cases ((length n == length w) && starts_with nat_eq n w)
    (λ t. subst HasSign (same_text n w t) h.0)
    (λ f. one_of_them ws n h.1 (rw f at e))

terminals : AllByRecursion HasSign valueless_words
terminals = (refl, (refl, (refl, (refl, (refl, (refl, (refl, (refl, (refl, (refl, (refl, (refl, (refl, tt)))))))))))))

-- A name that is no word of Ruby's own ends a value.
pub no_valueless : (n : List ℕ) → name_terminal n ≡ 0 → is_valueless n ≡ false
unfolding is_valueless
no_valueless n h = cases (is_one_of valueless_words n)
    (λ t. let g : HasSign n = one_of_them valueless_words n terminals t in let i : (name_terminal n == 0) ≡ true =
    rw h refl in cc)
    (λ f. f)
