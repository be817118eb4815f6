-- The places of the last lines of bases, while a map of them is made and when it is read.
use Rattle.std.proofs.Common.{◌≡◌, ◌≢◌, ◌+◌, ◌<◌, ℕ, true, false, cond, List, length, get_or, refl, sym, ap}
use Rattle.std.proofs.Common.{below_more, length-drop}
use Rattle.std.proofs.Common.{subst, ◌∙◌, arith}
use Rattle.std.specs.Prelude.{Option, Some, None, slice_get, bytes_eq}
use Rattle.std.specs.Ordering.{nat_cmp}
use Rattle.std.specs.Cmp.Lexicographic.{slice_cmp}
use Rattle.std.specs.BTreeMap.{BTreeMap, UpdatesBy}
use Rattle.std.proofs.lemmas.Bool.{false≢true}
use Rattle.std.proofs.lemmas.List.{get_or_default, get_or-drop}
use Rattle.std.proofs.lemmas.Option.{get_or_from_slice_get}
use Rattle.std.proofs.lemmas.Map.Text.{btree_map_updates_str}
use Rattle.std.proofs.lemmas.Slice.Eq.{bytes_eq-Decides}
use Rattle.app_config.specs.Inflections.{IsLastFor}
use Rattle.app_config.specs.Indexes.Places.{IsLastPlace, place_of}
use Rattle.app_config.proofs.ReadLaws.{IsLastFor-at}
use denote.Ref.{Bor}

-- a place among the first pairs is one among one more, where the next pair has another base
IsLastPlace-other : (count : ℕ) (pairs : List (List ℕ × List ℕ)) (base : List ℕ) (found : Option ℕ) →
    ((d : List ℕ × List ℕ) → (get_or pairs count d).0 ≢ base) →
    IsLastPlace count pairs base found → IsLastPlace (count + 1) pairs base found
IsLastPlace-other count pairs base None other last = λ k d.
    below_more (λ n. (get_or pairs n d).0 ≢ base) count (λ n within. last n d within) (other d) k
IsLastPlace-other count pairs base (Some place) other last = (
  omega arith,
  last.1,
  λ k d behind within. below_more (λ n. place < n → (get_or pairs n d).0 ≢ base) count
      (λ n within behind. last.2 n d behind within) (λ _. other d) k within behind,
)

-- the next pair is the last with its base
IsLastPlace-here : (count : ℕ) (pairs : List (List ℕ × List ℕ)) (base : List ℕ) →
    ((d : List ℕ × List ℕ) → (get_or pairs count d).0 ≡ base) → IsLastPlace (count + 1) pairs base (Some count)
IsLastPlace-here count pairs base here = (omega arith, here, λ k d behind within. absurd (omega arith))

-- a map of the first pairs' places, with the next pair's place put into it
pub IsLastPlace-insert : (count : ℕ) (pairs : List (List ℕ × List ℕ)) (pair : List ℕ × List ℕ) (key : List ℕ)
    (before after : BTreeMap (Bor (List ℕ)) ℕ) → count < length pairs → pair ≡ get_or pairs count pair →
    key ≡ pair.0 →
    UpdatesBy (λ x y. slice_cmp nat_cmp x.now y.now) (λ k. slice_cmp nat_cmp key k.now) before after (Some count) →
    ((base : List ℕ) → IsLastPlace count pairs base (place_of before base)) →
    (base : List ℕ) → IsLastPlace (count + 1) pairs base (place_of after base)
IsLastPlace-insert count pairs pair key before after within at same updates last base =
    let has : (d : List ℕ × List ℕ) → (get_or pairs count d).0 ≡ key =
    λ d. ap (λ p. p.0) (get_or_default pairs count d pair within ∙ sym at) ∙ sym same in
    let P : Option ℕ → Type 0 = λ found. IsLastPlace (count + 1) pairs base found in
    subst P (sym (btree_map_updates_str key before after (Some count) updates base))
    (elim (bytes_eq key base) as (λ v. bytes_eq key base ≡ v → P (cond v (Some count) (place_of before base))) [
      | true ↦ λ e. IsLastPlace-here count pairs base (λ d. has d ∙ (bytes_eq-Decides key base).0 e)
      | false ↦ λ e. IsLastPlace-other count pairs base (place_of before base)
          (λ d h. false≢true (sym e ∙ (bytes_eq-Decides key base).1 (sym (has d) ∙ h))) (last base)
    ] refl)

-- the line at the last place of a base has the base's constant
pub IsLastFor-place : (pairs : List (List ℕ × List ℕ)) (base : List ℕ) (place : ℕ) (pair : List ℕ × List ℕ) →
    IsLastPlace (length pairs) pairs base (Some place) → slice_get pairs place ≡ Some pair →
    IsLastFor pairs base pair.1
IsLastFor-place pairs base place pair last at =
    let here : get_or pairs place pair ≡ pair = get_or_from_slice_get pairs place pair pair at in
    let same : pair.0 ≡ base = sym (ap (λ p. p.0) here) ∙ last.1 pair in
    IsLastFor-at pairs place base pair.1 pair last.0 (here ∙ ap (λ b. (b, pair.1)) same)
    (λ k d within. let P : List ℕ × List ℕ → Type 0 = λ p. p.0 ≢ base in
    subst P (sym (get_or-drop (place + 1) pairs k d))
    (last.2 (place + 1 + k) d (omega arith) (omega (arith, length-drop (place + 1) pairs))))
