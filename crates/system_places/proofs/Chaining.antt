-- One place more in its bucket.
use Rattle.std.proofs.Common.{◌≡◌, ◌≢◌, ℕ, ◌+◌, ◌%◌, ◌<◌, inl, inr, List, length, set}
use Rattle.std.proofs.Common.{Option, Some, None, slice_index, slice_index_or, sym, ap, ◌∙◌, subst, arith}
use Rattle.std.proofs.Common.{length-set}
use Rattle.std.proofs.Common.{get_or-set_same, get_or-set_other}
use Rattle.std.proofs.lemmas.Bool.{cases_eq}
use Rattle.std.proofs.lemmas.Nat.{mod_below}
use Rattle.system_places.specs.declared.places.Link.{Link}
use Rattle.system_places.specs.Chains.{bucket, IsLast, before_at, IsChainedTo}

-- the hashes below a place are the same
abbrev pub Agree : List ℕ → List ℕ → ℕ → Type 0
Agree hs hs' below = (k : ℕ) → k < below → slice_index hs k ≡ slice_index hs' k

-- the last place in a bucket is the same where the hashes are
last_same : (hs hs' : List ℕ) (n b below : ℕ) (o : Option ℕ) → Agree hs hs' below → IsLast hs n b below o →
    IsLast hs' n b below o
last_same hs hs' n b below None same is = λ k under at. is k under (ap (λ h. h % n) (same k under) ∙ at)
last_same hs hs' n b below (Some p) same is = (
  is.0,
  sym (ap (λ h. h % n) (same p is.0)) ∙ is.1,
  λ k over under at. is.2 k over under (ap (λ h. h % n) (same k under) ∙ at),
)

-- a place more in another bucket
last_other : (hs : List ℕ) (n b below : ℕ) (o : Option ℕ) → bucket hs n below ≢ b → IsLast hs n b below o →
    IsLast hs n b (below + 1) o
last_other hs n b below None other is = λ k under.
    elim (cases_eq k below) [
      | inl same ↦ λ at. other (ap (bucket hs n) (sym same) ∙ at)
      | inr apart ↦ is k (omega (arith, under, apart))
    ]
last_other hs n b below (Some p) other is =
    let before : p < below = is.0 in (
      omega (arith, before),
      is.1,
      λ k over under.
          elim (cases_eq k below) [
            | inl same ↦ λ at. other (ap (bucket hs n) (sym same) ∙ at)
            | inr apart ↦ is.2 k over (omega (arith, under, apart))
          ],
    )

-- a place more is the last one of its own bucket
last_own : (hs : List ℕ) (n b below : ℕ) → bucket hs n below ≡ b → IsLast hs n b (below + 1) (Some below)
last_own hs n b below at =
    (omega arith, at, λ k over under. absurd (omega (arith, over, under)))

-- one place more is put into its bucket
pub chained_one : (hs hs' : List ℕ) (heads heads' : List (Option ℕ)) (links links' : List Link) (below hash : ℕ) →
    IsChainedTo hs heads links below → Agree hs hs' below → slice_index hs' below ≡ hash →
    ((k : ℕ) → k < below → before_at links' k ≡ before_at links k) →
    before_at links' below ≡ slice_index_or heads (hash % length heads) None →
    heads' ≡ set heads (hash % length heads) (Some below) → IsChainedTo hs' heads' links' (below + 1)
chained_one hs hs' heads heads' links links' below hash is same here kept new put =
    let n : ℕ = length heads in
    let even : length heads' ≡ n = ap length put ∙ length-set heads (hash % n) (Some below) in
    let within : hash % n < n = mod_below hash n is.some in
    let own : bucket hs' n below ≡ hash % n = ap (λ h. h % n) here in
    subst (λ m. (0 < m) × (((b : ℕ) → b < m → IsLast hs' m b (below + 1) (slice_index_or heads' b None))
    × ((k : ℕ) → k < below + 1 → IsLast hs' m (bucket hs' m k) k (before_at links' k))) →
    IsChainedTo hs' heads' links' (below + 1)) even
    (λ parts. record { some = parts.0; last = parts.1.0; link = parts.1.1 }) (
      is.some,
      (
        (λ b under. elim (cases_eq b (hash % n)) [
          | inl at ↦ subst (λ o. IsLast hs' n b (below + 1) o)
              (sym (ap (λ hs''. slice_index_or hs'' b None) put
              ∙ (ap (λ i. slice_index_or (set heads (hash % n) (Some below)) i None) at
              ∙ get_or-set_same heads (hash % n) (Some below) None within)))
              (last_own hs' n b below (own ∙ sym at))
          | inr apart ↦ subst (λ o. IsLast hs' n b (below + 1) o)
              (sym (ap (λ hs''. slice_index_or hs'' b None) put
              ∙ get_or-set_other heads (hash % n) b (Some below) None apart))
              (last_other hs' n b below _ (λ e. apart (sym e ∙ own))
              (last_same hs hs' n b below _ same (is.last b under)))
        ]),
        (λ k under. elim (cases_eq k below) [
          | inl at ↦ subst (λ i. IsLast hs' n (bucket hs' n i) i (before_at links' i)) (sym at)
              (subst (λ o. IsLast hs' n (bucket hs' n below) below o) (sym new)
              (subst (λ b. IsLast hs' n b below (slice_index_or heads (hash % n) None)) (sym own)
              (last_same hs hs' n (hash % n) below _ same (is.last (hash % n) within))))
          | inr apart ↦
              let lower : k < below = omega (arith, under, apart) in
              subst (λ o. IsLast hs' n (bucket hs' n k) k o) (sym (kept k lower))
              (subst (λ h. IsLast hs' n (h % n) k (before_at links k)) (same k lower)
              (last_same hs hs' n (bucket hs n k) k _ (λ j u. same j (omega (arith, u, lower))) (is.link k lower)))
        ]),
      ),
    )

-- no place is chained yet
pub chained_none : (hs : List ℕ) (heads : List (Option ℕ)) (links : List Link) → 0 < length heads →
    ((b : ℕ) → slice_index_or heads b None ≡ None) → IsChainedTo hs heads links 0
chained_none hs heads links some empty = record {
  some = some;
  last = λ b under. subst (λ o. IsLast hs (length heads) b 0 o) (sym (empty b)) (λ k u. absurd (omega (arith, u)));
  link = λ k u. absurd (omega (arith, u));
}
