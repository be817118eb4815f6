-- The last byte of a name.
use Rattle.std.proofs.Common.{◌≡◌, ℕ, zero, suc, ◌-◌, ◌≤◌, List, [], ◌∷◌, get_or, length, refl, sym, ◌∙◌, ap, subst}
use Rattle.std.proofs.Common.{◌==◌, ◌||◌, ⊎_elim, arith}
use Rattle.std.proofs.lemmas.Bool.{cases_Bool, eqb-true}
use Rattle.ruby_token.specs.Bytes.{is_suffix}
use Rattle.ruby_grammar.specs.Terminals.{ends_in_suffix}

at : (xs : List ℕ) (b n : ℕ) → length xs ≡ n → ends_in_suffix (b ∷ xs) ≡ is_suffix (get_or (b ∷ xs) n 0)
at [] b zero e = refl
at [] b (suc n) e = absurd (omega (arith, e))
at (c ∷ cs) b zero e = absurd (omega (arith, e))
at (c ∷ cs) b (suc n) e = at cs c n (omega (arith, e))

-- A name has a suffix by its last byte.
pub last_byte : (xs : List ℕ) → 1 ≤ length xs → ends_in_suffix xs ≡ is_suffix (get_or xs (length xs - 1) 0)
last_byte [] h = absurd (omega (arith, h))
last_byte (b ∷ bs) h = at bs b (length (b ∷ bs) - 1) (omega arith)

-- A last byte that is `?` is a suffix.
pub question_is_suffix : (xs : List ℕ) → 1 ≤ length xs → get_or xs (length xs - 1) 0 ≡ 63 →
    (get_or xs (length xs - 1) 0 == 63)
    ≡ ends_in_suffix xs
question_is_suffix xs h e = subst (λ x. (x == 63) ≡ is_suffix x) (sym e) refl ∙ sym (last_byte xs h)

other_is_suffix : (g : ℕ) → (g ≡ 63 → ⊥) → (g == 33) ≡ is_suffix g
other_is_suffix g n =
    ⊎_elim
    (λ y. absurd (n (eqb-true g 63 y)))
    (λ e. ap (λ b. b || (g == 33)) (sym e))
    (cases_Bool (g == 63))

-- Another last byte is a suffix where it is `!`.
pub exclamation_is_suffix : (xs : List ℕ) → 1 ≤ length xs → (get_or xs (length xs - 1) 0 ≡ 63 → ⊥) →
    (get_or xs (length xs - 1) 0 == 33) ≡ ends_in_suffix xs
exclamation_is_suffix xs h n = other_is_suffix (get_or xs (length xs - 1) 0) n ∙ sym (last_byte xs h)
