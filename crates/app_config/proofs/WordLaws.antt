-- Words, and the parts that stand around a byte.
use Rattle.std.proofs.Common.{◌≡◌, ◌<◌, ◌≤◌, ◌+◌, ◌-◌, ◌==◌, ℕ, true, false, cond, not, List, [], ◌∷◌, length, take}
use Rattle.std.proofs.Common.{drop, refl, sym, ap, ◌∙◌, arith}
use Rattle.std.specs.Prelude.{Bool, Some, None, nat_lt}
use Rattle.std.specs.Str.{IsUtf8, is_utf8}
use Rattle.std.proofs.lemmas.Str.{IsUtf8-from_is_utf8}
use Rattle.std.proofs.lemmas.Bool.{eqb-true, ltb-true, false≢true}
use Rattle.std.proofs.lemmas.Bool.Decides.{nat_tests}
use Rattle.std.proofs.lemmas.List.{take_rest}
use Rattle.std.proofs.lemmas.List.Splits.{slice_split_first, slice_split-cons_no}
use Rattle.std.specs.List.{onto_first, filter, position, position_or_len}
use Rattle.app_config.specs.Text.{split, words, is_filled, behind_spaces}

-- where a position is found, it is the first
pub position-found : (test : ℕ → Bool) (text : List ℕ) (place : ℕ) → position test text ≡ Some place →
    (place ≡ position_or_len test text) × (place < length text)
position-found test text place e =
    elim (nat_lt (position_or_len test text) (length text)) as (λ v. nat_lt (position_or_len test text) (length text)
    ≡ v
    → cond v (Some (position_or_len test text)) None ≡ Some place →
    (place ≡ position_or_len test text) × (place < length text)) [
      | true ↦ λ lt h.
          let same : place ≡ position_or_len test text = cc in
          let within = ltb-true (position_or_len test text) (length text) lt in
          (same, omega arith)
      | false ↦ λ lt h. cc
    ] refl e

-- where none is found, the test passes nowhere
pub position-none : (test : ℕ → Bool) (text : List ℕ) → position test text ≡ None →
    length text ≤ position_or_len test text
position-none test text e =
    elim (nat_lt (position_or_len test text) (length text)) as (λ v. nat_lt (position_or_len test text) (length text)
    ≡ v
    → cond v (Some (position_or_len test text)) None ≡ None → length text ≤ position_or_len test text) [
      | true ↦ λ lt h. cc
      | false ↦ λ lt h. grind (arith, nat_tests)
    ] refl e

-- a text that has the byte, cut at its first place
pub split-cut : (byte place : ℕ) (text : List ℕ) → place ≡ position_or_len (λ b. b == byte) text → place < length text →
    split byte text ≡ take place text ∷ split byte (take (length text - (place + 1)) (drop (place + 1) text))
split-cut byte place text e within =
    let at_first : position_or_len (λ b. b == byte) text < length text = omega arith in
    rw (take_rest text (place + 1), e) (slice_split_first (λ b. b == byte) text 0 at_first)

-- a text without the byte is its one part
pub split-none : (byte : ℕ) (text : List ℕ) → length text ≤ position_or_len (λ b. b == byte) text →
    split byte text ≡ text ∷ []
split-none byte [] h = refl
split-none byte (first ∷ rest) h =
    elim (first == byte) as (λ v. length (first ∷ rest) ≤ cond (not v) (1 + position_or_len (λ b. b == byte) rest) 0
    → cond v ([] ∷ split byte rest) (onto_first first (split byte rest)) ≡ (first ∷ rest) ∷ []) [
      | true ↦ λ past. absurd (omega arith)
      | false ↦ λ past. ap (onto_first first) (split-none byte rest (omega arith))
    ] h

-- spaces in front of a text change none of its words
pub words-behind_spaces : (text : List ℕ) → words (behind_spaces text) ≡ words text
words-behind_spaces [] = refl
words-behind_spaces (first ∷ rest) =
    elim (first == 32) as (λ v. (first == 32) ≡ v → words (cond v (behind_spaces rest) (first ∷ rest))
    ≡ filter is_filled (cond v ([] ∷ split 32 rest) (onto_first first (split 32 rest))))
    [ true ↦ λ e. words-behind_spaces rest | false ↦ λ e. rw e refl ] refl

-- spaces alone have no word
pub words-spaces : (text line : List ℕ) → line ≡ behind_spaces text → (length line == 0) ≡ true → words text ≡ []
words-spaces text [] e h = sym (words-behind_spaces text) ∙ ap words (sym e)
words-spaces text (first ∷ rest) e h = absurd (omega (arith, eqb-true _ 0 h))

filled_first : (first : ℕ) (parts : List (List ℕ)) (word : List ℕ) (others : List (List ℕ)) →
    onto_first first parts ≡ word ∷ others → filter is_filled (onto_first first parts) ≡ word ∷ filter is_filled others
filled_first first [] word others e = cc
filled_first first (part ∷ parts) word others e = cc

-- the first word is the first part behind the spaces
pub words-word : (text word : List ℕ) (others : List (List ℕ)) → 0 < length (behind_spaces text) →
    split 32 (behind_spaces text) ≡ word ∷ others → words text ≡ word ∷ filter is_filled others
words-word [] word others h e = absurd (omega arith)
words-word (first ∷ rest) word others h e =
    elim (first == 32) as (λ v. (first == 32) ≡ v → 0 < length (cond v (behind_spaces rest) (first ∷ rest)) →
    split 32 (cond v (behind_spaces rest) (first ∷ rest)) ≡ word ∷ others →
    filter is_filled (cond v ([] ∷ split 32 rest) (onto_first first (split 32 rest)))
    ≡ word ∷ filter is_filled others) [
      | true ↦ λ t k d. words-word rest word others k d
      | false ↦ λ t k d. filled_first first (split 32 rest) word others
          (sym (slice_split-cons_no (λ b. b == 32) first rest t) ∙ d)
    ] refl h e

-- the first word of a text that a reader cut behind its spaces
pub words-line : (text line word : List ℕ) (others : List (List ℕ)) → line ≡ behind_spaces text →
    (length line == 0) ≡ false → split 32 line ≡ word ∷ others → words text ≡ word ∷ filter is_filled others
words-line text [] word others e h d = absurd (false≢true (sym h))
words-line text (first ∷ rest) word others e h d =
    words-word text word others (let more : 0 < length (first ∷ rest) = omega arith in rw (sym e) more)
    (ap (split 32) (sym e) ∙ d)

-- bytes that are no UTF-8 fail the test
pub not_utf8 : (bytes : List ℕ) → ¬ (IsUtf8 bytes) → false ≡ is_utf8 bytes
not_utf8 bytes h = elim (is_utf8 bytes) as (λ v. is_utf8 bytes ≡ v →
    false ≡ v) [ true ↦ λ e. absurd (h (IsUtf8-from_is_utf8 bytes e)) | false ↦ λ e. refl ] refl
