-- A text is looked for among the words with its first byte alone.
use Rattle.std.proofs.Common.{◌≡◌, ◌∙◌, ℕ, Bool, true, false, List, [], ◌∷◌, if◌then◌else◌, ◌&&◌, nat_eq, refl, sym}
use Rattle.std.proofs.Common.{◌==◌, ◌<◌, ◌≤◌, length, slice_index, arith}
use Rattle.std.proofs.lemmas.Bool.Decides.{nat_tests}
use Rattle.ruby_token.specs.State.{is_one_of, is_valueless, valueless_words}
use Rattle.ruby_token.specs.Beginning.{beginning}

no_second : (v o : Bool) → (if v && false then true else o) ≡ o
no_second true o = refl
no_second false o = refl

row : (v : Bool) (b c : ℕ) (bs cs : List ℕ) (ws : List (List ℕ)) → nat_eq c b ≡ v →
    is_one_of (beginning b ws) (b ∷ bs) ≡ is_one_of ws (b ∷ bs) →
    is_one_of (if v then (c ∷ cs) ∷ beginning b ws else beginning b ws) (b ∷ bs) ≡ is_one_of ((c ∷ cs) ∷ ws) (b ∷ bs)
row true b c bs cs ws h i = rw i refl
row false b c bs cs ws h i = rw h (i ∙ sym (no_second _ _))

one_beginning : (b : ℕ) (bs : List ℕ) (ws : List (List ℕ)) →
    is_one_of (beginning b ws) (b ∷ bs) ≡ is_one_of ws (b ∷ bs)
one_beginning b bs [] = refl
one_beginning b bs ([] ∷ ws) =
    let e : (length (b ∷ bs) == 0) ≡ false = grind (arith, nat_tests) in rw e (one_beginning b bs ws)
one_beginning b bs ((c ∷ cs) ∷ ws) = row (nat_eq c b) b c bs cs ws refl (one_beginning b bs ws)

-- no word is empty
pub empty_has_value : (text : List ℕ) → length text < 1 → false ≡ is_valueless text
unfolding is_valueless
empty_has_value [] h = refl
empty_has_value (b ∷ bs) h = absurd (omega arith)

-- a text stands for no value where it's one of the words with its first byte
pub by_beginning : (text : List ℕ) → 1 ≤ length text →
    is_one_of (beginning (slice_index text 0) valueless_words) text ≡ is_valueless text
unfolding is_valueless
by_beginning [] h = absurd (omega arith)
by_beginning (b ∷ bs) h = one_beginning b bs valueless_words
