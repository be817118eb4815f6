-- A part stands in a text where the search for it finds a place.
use Rattle.std.proofs.Common.{◌≡◌, ℕ, zero, suc, ◌≤◌, Bool, true, false, ◌||◌, List, [], ◌∷◌, length, take, drop}
use Rattle.std.proofs.Common.{Option, Some, None, refl, sym, ap, ◌∙◌, arith, length-take, length-drop, nat_eq}
use Rattle.std.specs.List.{starts_with}
use Rattle.std.specs.Option.{is_some}
use Rattle.std.proofs.lemmas.Bool.{false_from_ne_true}
use Rattle.std.proofs.lemmas.Slice.Eq.{bytes_eq-Decides}
use Rattle.memchr.specs.Find.{FindsNeedle, OccursAt}
use Rattle.memchr.proofs.lemmas.MatchLemmas.{OccursAt-part, OccursAt-from_part}
use Rattle.ruby_builtin_texts.specs.Parts.{has_part}

or_second : (b : Bool) → b || true ≡ true
or_second true = refl
or_second false = refl

or_first : (b c : Bool) → b ≡ true → b || c ≡ true
or_first b c e = ap (λ x. x || c) e

from_place : (text part : List ℕ) (k : ℕ) → k ≤ length text → starts_with nat_eq (drop k text) part ≡ true →
    has_part text part ≡ true
from_place [] part zero within begins = begins
from_place [] part (suc k) within begins = begins
from_place (byte ∷ bytes) part zero within begins =
    or_first (starts_with nat_eq (byte ∷ bytes) part) (has_part bytes part) begins
from_place (byte ∷ bytes) part (suc k) within begins =
    ap (λ b. starts_with nat_eq (byte ∷ bytes) part || b) (from_place bytes part k (omega arith) begins)
    ∙ or_second (starts_with nat_eq (byte ∷ bytes) part)

-- where a part stands
abbrev Place : List ℕ → List ℕ → Type 0
Place text part = (k : ℕ) × (k ≤ length text) × (starts_with nat_eq (drop k text) part ≡ true)

place_behind : (byte : ℕ) (bytes part : List ℕ) → Place bytes part → Place (byte ∷ bytes) part
place_behind byte bytes part (k, within, begins) = (suc k, omega arith, begins)

here_or_further : (byte : ℕ) (bytes part : List ℕ) (here : Bool) → here ≡ starts_with nat_eq (byte ∷ bytes) part →
    here || has_part bytes part ≡ true → (has_part bytes part ≡ true → Place bytes part) → Place (byte ∷ bytes) part
here_or_further byte bytes part true e or later = (0, omega arith, sym e)
here_or_further byte bytes part false e or later = place_behind byte bytes part (later or)

place_of : (text part : List ℕ) → has_part text part ≡ true → Place text part
place_of [] part e = (0, omega arith, e)
place_of (byte ∷ bytes) part e =
    here_or_further byte bytes part (starts_with nat_eq (byte ∷ bytes) part) refl e (place_of bytes part)

place_occurs : (text part : List ℕ) → Place text part → (k : ℕ) × (k ≤ length text) × OccursAt text part k
place_occurs text part (k, within, begins) =
    let same : part ≡ take (length part) (drop k text) =
    (bytes_eq-Decides part (take (length part) (drop k text))).0 begins in (
      k,
      within,
      OccursAt-from_part text part k
          (omega (arith, ap length same, length-take (length part) (drop k text), length-drop k text)) (sym same),
    )

-- the search answers whether the part stands in the text
pub found_is_part : (text part : List ℕ) (found : Option ℕ) → FindsNeedle text part 0 found →
    is_some found ≡ has_part text part
found_is_part text part None nowhere =
    sym (false_from_ne_true (has_part text part)
    (λ e. let at = place_occurs text part (place_of text part e) in
    nowhere at.0 (omega arith) (omega (arith, at.1)) at.2))
found_is_part text part (Some k) found =
    let first = found.0 in
    sym (from_place text part k (omega (arith, first.high))
    ((bytes_eq-Decides part (take (length part) (drop k text))).1 (sym (OccursAt-part text part k found.1))))
