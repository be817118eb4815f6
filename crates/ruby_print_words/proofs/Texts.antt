-- A printed piece of a text is read as the same bytes.
use Rattle.std.proofs.Common.{◌≡◌, ℕ, Bool, true, false, ◌==◌, List, [], ◌∷◌, ◌++◌, refl, sym, ap, ◌∙◌, if◌then◌else◌}
use Rattle.std.specs.List.{flat_map}
use Rattle.std.proofs.lemmas.Bool.{eqb-true}
use Rattle.ruby_print.specs.Pieces as print
use Rattle.ruby_grammar.specs.Values.{double_text, escaped}

-- a byte that is no backslash
plain : (b : ℕ) (bs : List ℕ) → (b == 92) ≡ false → double_text (b ∷ bs) ≡ b ∷ double_text bs
plain b [] h = refl
plain b (c ∷ cs) h = ap (λ t. if t then escaped c ∷ double_text cs else b ∷ double_text (c ∷ cs)) h

-- one byte of this value, and then others
abbrev Read : ℕ → List ℕ → List ℕ → Type 0
Read b bs text = double_text (text ++ bs) ≡ b ∷ double_text bs

pick : (b : ℕ) (bs : List ℕ) (t : Bool) (x y : List ℕ) → (t ≡ true → Read b bs x) → (t ≡ false → Read b bs y) →
    Read b bs (if t then x else y)
pick b bs true x y h k = h refl
pick b bs false x y h k = k refl

is_byte : (b c : ℕ) (bs : List ℕ) → (b == c) ≡ true → c ∷ double_text bs ≡ b ∷ double_text bs
is_byte b c bs h = ap (λ t. t ∷ double_text bs) (sym (eqb-true b c h))

one_byte : (b : ℕ) (bs : List ℕ) → Read b bs (print.escaped b)
one_byte b bs =
    pick b bs (b == 34) _ _ (λ h. is_byte b 34 bs h)
    (λ no. pick b bs (b == 92) _ _ (λ h. is_byte b 92 bs h)
    (λ other. pick b bs (b == 35) _ _ (λ h. is_byte b 35 bs h)
    (λ no. pick b bs (b == 10) _ _ (λ h. is_byte b 10 bs h)
    (λ no. pick b bs (b == 9) _ _ (λ h. is_byte b 9 bs h)
    (λ no. pick b bs (b == 13) _ _ (λ h. is_byte b 13 bs h)
    (λ no. pick b bs (b == 27) _ _ (λ h. is_byte b 27 bs h)
    (λ no. plain b bs other)))))))

-- A printed piece of a text is read as the same bytes.
pub text_back : (text : List ℕ) → double_text (flat_map print.escaped text) ≡ text
text_back [] = refl
text_back (b ∷ bs) = one_byte b (flat_map print.escaped bs) ∙ ap (λ t. b ∷ t) (text_back bs)
