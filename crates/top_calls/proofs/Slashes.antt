-- The first `/` of a text stands at one place.
use Rattle.std.proofs.Common.{◌≡◌, ℕ, true, List, [], ◌∷◌, ◌++◌, refl, sym, ◌∙◌, subst, arith}
use Rattle.std.specs.List.{list_all}
use Rattle.std.specs.Char.{is_ascii_lowercase}
use Rattle.std.proofs.lemmas.Bool.{and_parts}
use Rattle.std.proofs.lemmas.Grind.{common_steps}
use Rattle.load_rules.specs.Names.{IsLetters}
use Rattle.top_calls.specs.Target.{IsSegment, is_no_slash, IsFirstTarget}

is_letter_or_slash : (byte : ℕ) → is_ascii_lowercase byte ≡ true → is_no_slash byte ≡ true
is_letter_or_slash byte h = grind (arith, common_steps)

-- a text of letters alone has no `/`
pub letters_have_none : (bytes : List ℕ) → list_all is_ascii_lowercase bytes ≡ true → IsSegment bytes
letters_have_none [] h = refl
letters_have_none (byte ∷ bytes) h =
    let both = and_parts _ _ h in
    rw (is_letter_or_slash byte both.0, letters_have_none bytes both.1) refl

-- a text with a `/` in it is no piece of a path
pub slash_is_none : (front rest : List ℕ) → ¬ (IsSegment (front ++ 47 ∷ rest))
slash_is_none [] rest h = cc
slash_is_none (byte ∷ front) rest h = slash_is_none front rest (and_parts _ _ h).1

is_slash : (byte : ℕ) → is_no_slash byte ≡ true → byte ≡ 47 → ⊥
is_slash byte h e = grind (arith, common_steps)

-- a text is cut at its first `/` in one way
pub one_first_slash : (a b c d : List ℕ) → IsSegment a → IsSegment c → a ++ 47 ∷ b ≡ c ++ 47 ∷ d → (a ≡ c) × (b ≡ d)
one_first_slash [] b [] d p q e = (refl, cc)
one_first_slash [] b (y ∷ c) d p q e = let head : 47 ≡ y = cc in absurd (is_slash y (and_parts _ _ q).0 (sym head))
one_first_slash (x ∷ a) b [] d p q e = let head : x ≡ 47 = cc in absurd (is_slash x (and_parts _ _ p).0 head)
one_first_slash (x ∷ a) b (y ∷ c) d p q e =
    let head : x ≡ y = cc in
    let tail : a ++ 47 ∷ b ≡ c ++ 47 ∷ d = cc in
    let rest = one_first_slash a b c d (and_parts _ _ p).1 (and_parts _ _ q).1 tail in
    (rw (head, rest.0) refl, rest.1)

-- a target is read in one way
pub one_target : (target rest front back controller action : List ℕ) → target ≡ 47 ∷ rest →
    rest ≡ front ++ 47 ∷ back → IsSegment front
    → IsFirstTarget target controller action → (front ≡ controller) × (back ≡ action)
one_target target rest front back controller action begins splits segment is =
    let tail : rest ≡ controller ++ 47 ∷ action = let whole : ◌≡◌ {A = List ℕ} (47 ∷ rest)
    (47 ∷ (controller ++ 47 ∷ action)) = sym begins ∙ is.0 in cc in
    one_first_slash front back controller action segment (letters_have_none controller is.1.1) (sym splits ∙ tail)

-- a target that is cut at its slashes into other pieces than letters is none that is answered today
pub no_other_target : (target rest front back controller action : List ℕ) → target ≡ 47 ∷ rest →
    rest ≡ front ++ 47 ∷ back → IsSegment front
    → ¬ (IsLetters front × IsLetters back) → ¬ (IsFirstTarget target controller action)
no_other_target target rest front back controller action begins splits segment unlike is =
    let same = one_target target rest front back controller action begins splits segment is in
    unlike (subst IsLetters (sym same.0) is.1, subst IsLetters (sym same.1) is.2)
