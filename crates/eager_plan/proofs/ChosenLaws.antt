-- Numbers that are chosen one after another.
use Rattle.std.proofs.Common.{◌≡◌, ◌≢◌, ◌⊎◌, ℕ, ◌<◌, ◌+◌, List, [], ◌∷◌, ◌++◌, get_or, Contains}
use Rattle.std.proofs.Common.{sym, subst, inl, inr, arith}
use Rattle.std.proofs.lemmas.Bool.{cases_lt}
use Rattle.std.proofs.lemmas.List.Elements.{Contains-append_left, Contains-push, Contains-push_cases, Contains-get_or}
use Rattle.std.proofs.lemmas.List.Quantifiers.{all_pairs_push}
use Rattle.eager_plan.specs.Chosen.{AreChosen}

module _ (Is : ℕ → Type 0) where
  -- no number is below 0
  pub none_chosen : AreChosen Is 0 []
  none_chosen = record {
    once = λ i j d lt within. absurd (omega arith);
    exact = λ n. (λ has. absurd (empty n has), λ h. let below = h.0 in absurd (omega arith));
  }
    where
      empty : (n : ℕ) → Contains [] n → ⊥
      empty n has = let within = has.1 in omega arith

  up_to : (end n : ℕ) → n < end + 1 → (n < end) ⊎ (n ≡ end)
  up_to end n lt = elim (cases_lt n end) [ inl less ↦ inl less | inr ge ↦ inr (omega arith) ]

  -- one number more is chosen
  pub chosen_more : (end : ℕ) (numbers : List ℕ) → AreChosen Is end numbers → Is end →
      AreChosen Is (end + 1) (numbers ++ end ∷ [])
  chosen_more end numbers chosen is = record {
    once = all_pairs_push (λ number other. number ≢ other) numbers end chosen.once
        (λ k d within same.
        let below = ((chosen.exact (get_or numbers k d)).0 (Contains-get_or numbers k d within)).0 in
        omega arith);
    exact = λ n. (λ has. at n (Contains-push_cases numbers end n has), λ h. back n (up_to end n h.0) h.1);
  }
    where
      at : (n : ℕ) → Contains numbers n ⊎ (end ≡ n) → (n < end + 1) × Is n
      at n (inl has) = let h = (chosen.exact n).0 has in let below = h.0 in (omega arith, h.1)
      at n (inr e) = (omega arith, subst Is e is)

      back : (n : ℕ) → (n < end) ⊎ (n ≡ end) → Is n → Contains (numbers ++ end ∷ []) n
      back n (inl below) h = Contains-append_left numbers (end ∷ []) n ((chosen.exact n).1 (below, h))
      back n (inr e) h = subst (λ m. Contains (numbers ++ end ∷ []) m) (sym e) (Contains-push numbers end)

  -- a number is passed over
  pub chosen_same : (end : ℕ) (numbers : List ℕ) → AreChosen Is end numbers → (Is end → ⊥) →
      AreChosen Is (end + 1) numbers
  chosen_same end numbers chosen not = record {
    once = chosen.once;
    exact = λ n. (
      λ has. let h = (chosen.exact n).0 has in let below = h.0 in (omega arith, h.1),
      λ h. back n (up_to end n h.0) h.1,
    );
  }
    where
      back : (n : ℕ) → (n < end) ⊎ (n ≡ end) → Is n → Contains numbers n
      back n (inl below) h = (chosen.exact n).1 (below, h)
      back n (inr e) h = absurd (not (subst Is e h))
