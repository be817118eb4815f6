-- Fronts of sentences: a text stops in one place, and a text that is spelled stops nowhere. Nothing here knows how a
-- text is read.
use Rattle.std.proofs.Common.{◌≡◌, ◌⊎◌, inl, inr, List, [], ◌∷◌, ◌++◌, refl, sym, ap, ◌∙◌, append_assoc, append-nil}
use Rattle.std.proofs.Common.{subst}
use Rattle.descent.specs.Grammar.{Signs, Grammar, Item, word, marked, words, Says, Spells}
use Rattle.descent.specs.Faults.{Begins, Stuck, Stops}
use Rattle.descent.proofs.Lists.{same_first, same_others}

-- of two fronts of a list, one goes on as the other
apart : {A : Type 0} (u v r s : List A) → u ++ r ≡ v ++ s → (r ≡ s)
    ⊎ (((w : A) × (d : List A) × (v ≡ u ++ w ∷ d) × (r ≡ w ∷ (d ++ s)))
    ⊎ ((w : A) × (d : List A) × (u ≡ v ++ w ∷ d) × (s ≡ w ∷ (d ++ r))))
apart [] [] r s e = inl e
apart [] (w ∷ v) r s e = inr (inl (w, v, refl, e))
apart (w ∷ u) [] r s e = inr (inr (w, u, refl, sym e))
apart (w ∷ u) (x ∷ v) r s e = elim (apart u v r s (same_others w x _ _ e)) [
  | inl h ↦ inl h
  | inr h ↦ elim h [
    | inl k ↦ inr (inl (
      k.0,
      k.1,
      ap (λ l. x ∷ l) k.2 ∙ sym (ap (λ z. z ∷ (u ++ k.0 ∷ k.1)) (same_first w x _ _ e)),
      k.3,
    ))
    | inr k ↦ inr (inr (k.0, k.1, ap (λ l. w ∷ l) k.2 ∙ ap (λ z. z ∷ (v ++ k.0 ∷ k.1)) (same_first w x _ _ e), k.3))
  ]
]

-- items that have the first of the words
first_items : {g : Signs} (ts : List (Item g)) (a b : List g.Word) → words ts ≡ a ++ b → (us vs : List (Item g))
    × (ts ≡ us ++ vs) × (words us ≡ a)
first_items ts [] b e = ([], ts, refl, refl)
first_items [] (w ∷ a) b e = cc
first_items (word v ∷ ts) (w ∷ a) b e =
    let h = first_items ts a b (same_others v w _ _ e) in
    (word v ∷ h.0, h.1, ap (λ l. word v ∷ l) h.2, ap (λ l. v ∷ l) h.3 ∙ ap (λ z. z ∷ a) (same_first v w _ _ e))
first_items (marked m ∷ ts) (w ∷ a) b e =
    let h = first_items ts (w ∷ a) b e in
    (marked m ∷ h.0, h.1, ap (λ l. marked m ∷ l) h.2, h.3)

module _ {g : Signs} (grammar : Grammar g) {s : g.Sort} (rule : g.Rule s) where
  -- what stands in front of words that begin a sentence begins one too: fronts of viable prefixes are viable
  pub begins_front : (a b : List g.Word) → Begins grammar rule (a ++ b) → Begins grammar rule a
  begins_front a b h =
      let k = first_items h.0 a b h.1 in (
        k.0,
        k.3,
        (
          k.1 ++ h.2.0,
          h.2.1,
          subst (λ l. Says grammar rule l h.2.1) (ap (λ l. l ++ h.2.0) k.2
              ∙ append_assoc k.0 k.1 h.2.0) h.2.2,
        ),
      )

  -- where it is stuck, no text goes on
  stuck_front : (used rest : List g.Word) (w : g.Word) (d r : List g.Word) → Stuck grammar rule used rest →
      rest ≡ w ∷ (d ++ r) → Begins grammar rule (used ++ w ∷ d) → ⊥
  stuck_front used rest w d r k e b =
      subst (λ l. Stuck grammar rule used l) e k
      (begins_front (used ++ w ∷ []) d (subst (λ l. Begins grammar rule l) (sym (append_assoc used (w ∷ []) d)) b))

  -- there is one first fault
  pub one_stop : (ws r r' : List g.Word) → Stops grammar rule ws r → Stops grammar rule ws r' → r ≡ r'
  one_stop ws r r' a b = elim (apart a.used b.used r r' (sym a.whole ∙ b.whole)) [
    | inl e ↦ e
    | inr h ↦ elim h [
      | inl k ↦ absurd (stuck_front a.used r k.0 k.1 r' a.stuck k.3 (subst (λ l. Begins grammar rule l) k.2 b.begins))
      | inr k ↦ absurd (stuck_front b.used r' k.0 k.1 r b.stuck k.3 (subst (λ l. Begins grammar rule l) k.2 a.begins))
    ]
  ]

  spelled_begins : (ws : List g.Word) (x : g.Val s) → Spells grammar rule ws x → Begins grammar rule ws
  spelled_begins ws x a = (
    a.items,
    a.spelled,
    ([], x, subst (λ l. Says grammar rule l x) (sym (append-nil a.items)) a.says),
  )

  -- what is spelled doesn't stop
  pub stops_spells_none : (ws rest : List g.Word) (x : g.Val s) → Stops grammar rule ws rest →
      Spells grammar rule ws x → ⊥
  stops_spells_none ws [] x a b = a.stuck b.items x (b.spelled ∙ a.whole ∙ append-nil a.used) b.says
  stops_spells_none ws (w ∷ rest) x a b =
      stuck_front a.used (w ∷ rest) w rest [] a.stuck (ap (λ l. w ∷ l) (sym (append-nil rest)))
      (subst (λ l. Begins grammar rule l) a.whole (spelled_begins ws x b))
