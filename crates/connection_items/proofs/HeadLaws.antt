-- Laws of the heads that bytes begin with.
use Rattle.std.proofs.Common.{◌≡◌, ◌⊎◌, inl, inr, ℕ, Bool, true, false, List, [], ◌∷◌, ◌++◌, drop}
use Rattle.std.proofs.Common.{refl, ap, sym, ◌∙◌, subst, append-nil}
use Rattle.std.proofs.lemmas.List.{drop-append-le}
use Rattle.connection_items.specs.declared.heads.Reading.TheVariants.{Whole, More}
use Rattle.connection_items.specs.Exchanges.{Grows}
use Rattle.connection_items.specs.Rules.{Rules, IsLawful, HasNoHead, closes}
use Rattle.connection_items.specs.Heads.{Heads, BeginWith, Passed}
use Rattle.connection_items.specs.Ends.{Last}

-- two readings of whole heads are of one size
pub whole_size : {P : Type 0} (n m : ℕ) (p q : P) → Whole n p ≡ Whole m q → n ≡ m
whole_size n m p q e = cc

-- two readings of whole heads are of one head
pub whole_head : {P : Type 0} (n m : ℕ) (p q : P) → Whole n p ≡ Whole m q → p ≡ q
whole_head n m p q e = cc

-- a reading that asks for more is of no whole head
pub more_is_not_whole : {P : Type 0} (n : ℕ) (p : P) → More ≡ Whole n p → ⊥
more_is_not_whole n p e = cc

-- a truth value is one of two
pub true_or_false : (b : Bool) → (b ≡ true) ⊎ (b ≡ false)
true_or_false true = inl refl
true_or_false false = inr refl

-- it isn't both
pub true_is_not_false : (b : Bool) → b ≡ true → b ≡ false → ⊥
true_is_not_false b t f = cc

-- what is true of the last of some elements, where it is true of one behind them
pub last_one : {P : Type 0} (Holds : P → Type 0) (ps : List P) (p : P) → Holds p → Last Holds (ps ++ p ∷ [])
last_one Holds [] p h = h
last_one Holds (q ∷ []) p h = h
last_one Holds (q ∷ (r ∷ ps)) p h = last_one Holds (r ∷ ps) p h

-- what is true of the last element implies what follows from it
pub last_weaker : {P : Type 0} (Strong Weak : P → Type 0) → ((p : P) → Strong p → Weak p) → (ps : List P) →
    Last Strong ps → Last Weak ps
last_weaker Strong Weak f [] h = h
last_weaker Strong Weak f (p ∷ []) h = f p h
last_weaker Strong Weak f (p ∷ (q ∷ ps)) h = last_weaker Strong Weak f (q ∷ ps) h

module _ {P I E R H F : Type 0} (rules : Rules P I E R H F) where
  -- one head more was passed
  pub passed_more : (b : List ℕ) (ps : List P) (r : List ℕ) (n : ℕ) (p : P) → Passed rules b ps r →
      rules.reads r (Whole n p) → closes rules p ≡ false → Passed rules b (ps ++ p ∷ []) (drop n r)
  passed_more b [] r n p e h k = (n, (subst (λ x. rules.reads x (Whole n p)) (sym e) h, (k, ap (drop n) e)))
  passed_more b (q ∷ ps) r n p w h k =
      (w.0, (w.1.0, (w.1.1.0, passed_more (drop w.0 b) ps r n p w.1.1.1 h k)))

  -- the heads behind those that were passed are the heads of what is behind
  pub passed_then : (b : List ℕ) (ps : List P) (r : List ℕ) (qs : List P) (rest : List ℕ) → Passed rules b ps r →
      Heads rules r qs rest → Heads rules b (ps ++ qs) rest
  passed_then b [] r qs rest e h = subst (λ x. Heads rules x qs rest) (sym e) h
  passed_then b (p ∷ ps) r qs rest w h =
      (w.0, (w.1.0, inr (w.1.1.0, passed_then (drop w.0 b) ps r qs rest w.1.1.1 h)))

  -- where no whole head is behind those that were passed, they are all
  pub passed_all : (b : List ℕ) (ps : List P) (r : List ℕ) → Passed rules b ps r → HasNoHead rules r →
      Heads rules b ps r
  passed_all b ps r w h = subst (λ qs. Heads rules b qs r) (append-nil ps) (passed_then b ps r [] r w (h, refl))

  -- a head that closes is the last one
  pub passed_last : (b : List ℕ) (ps : List P) (r : List ℕ) (n : ℕ) (p : P) → Passed rules b ps r →
      rules.reads r (Whole n p) → closes rules p ≡ true → Heads rules b (ps ++ p ∷ []) (drop n r)
  passed_last b ps r n p w h k = passed_then b ps r (p ∷ []) (drop n r) w (n, (h, inl (k, refl, refl)))

  -- none of the heads that were passed closes
  pub passed_open : (b : List ℕ) (ps : List P) (r : List ℕ) → Passed rules b ps r →
      Last (λ p. closes rules p ≡ true) ps → ⊥
  passed_open b [] r w h = h
  passed_open b (p ∷ []) r w h = true_is_not_false (closes rules p) h w.1.1.0
  passed_open b (p ∷ (q ∷ ps)) r w h = passed_open (drop w.0 b) (q ∷ ps) r w.1.1.1 h

  -- what was passed stays, whatever follows
  pub passed_grows : IsLawful rules → (b c : List ℕ) (ps : List P) (r : List ℕ) → Passed rules b ps r →
      Passed rules (b ++ c) ps (r ++ c)
  passed_grows laws b c [] r e = ap (λ x. x ++ c) e
  passed_grows laws b c (p ∷ ps) r w =
      let behind = drop-append-le w.0 b c (laws.within b w.0 p w.1.0).1 in (
        w.0,
        (
          laws.grows b c w.0 p w.1.0,
          (
            w.1.1.0,
            subst (λ x. Passed rules x ps (r ++ c)) (sym behind) (passed_grows laws (drop w.0 b) c ps r w.1.1.1),
          ),
        ),
      )

  -- the heads that were passed are the first ones, whatever follows
  pub begin_passed : IsLawful rules → (b c : List ℕ) (ps : List P) (r : List ℕ) → Passed rules b ps r →
      BeginWith rules (b ++ c) ps
  begin_passed laws b c [] r e = tt
  begin_passed laws b c (p ∷ ps) r w =
      let behind = drop-append-le w.0 b c (laws.within b w.0 p w.1.0).1 in (
        w.0,
        (
          laws.grows b c w.0 p w.1.0,
          inr (
            w.1.1.0,
            subst (λ x. BeginWith rules x ps) (sym behind) (begin_passed laws (drop w.0 b) c ps r w.1.1.1),
          ),
        ),
      )

  -- so are they and one more
  pub begin_passed_with : IsLawful rules → (b c : List ℕ) (ps : List P) (r : List ℕ) (n : ℕ) (p : P) →
      Passed rules b ps r → rules.reads r (Whole n p) → BeginWith rules (b ++ c) (ps ++ p ∷ [])
  begin_passed_with laws b c [] r n p e h = (
    n,
    (
      laws.grows b c n p (subst (λ x. rules.reads x (Whole n p)) (sym e) h),
      elim (true_or_false (closes rules p)) [
        | inl k ↦ inl (k, refl)
        | inr k ↦ inr (k, tt)
      ],
    ),
  )
  begin_passed_with laws b c (q ∷ ps) r n p w h =
      let behind = drop-append-le w.0 b c (laws.within b w.0 q w.1.0).1 in (
        w.0,
        (
          laws.grows b c w.0 q w.1.0,
          inr (
            w.1.1.0,
            subst (λ x. BeginWith rules x (ps ++ p ∷ [])) (sym behind)
                (begin_passed_with laws (drop w.0 b) c ps r n p w.1.1.1 h),
          ),
        ),
      )

  -- heads with which the bytes begin are the first of all their heads
  pub begin_with_first : IsLawful rules → (b : List ℕ) (ps all : List P) (rest : List ℕ) → BeginWith rules b ps →
      Heads rules b all rest → Grows ps all
  begin_with_first laws b [] all rest w h = (all, refl)
  begin_with_first laws b (p ∷ ps) [] rest w h = absurd (h.0 w.0 p w.1.0)
  begin_with_first laws b (p ∷ ps) (q ∷ all) rest w h =
      let same = laws.unique b (Whole w.0 p) (Whole h.0 q) w.1.0 h.1.0 in
      let size = whole_size w.0 h.0 p q same in
      let head = whole_head w.0 h.0 p q same in
      elim w.1.1 [
        | inl k ↦ (all, ap (λ x. x ∷ all) (sym head) ∙ ap (λ xs. p ∷ (xs ++ all)) (sym k.1))
        | inr k ↦ elim h.1.1 [
          | inl l ↦ absurd (true_is_not_false (closes rules q) l.0 (sym (ap (closes rules) head) ∙ k.0))
          | inr l ↦
              let more = begin_with_first laws (drop w.0 b) ps all rest k.1
              (subst (λ x. Heads rules (drop x b) all rest) (sym size) l.1) in
              (more.0, ap (λ x. x ∷ all) (sym head) ∙ ap (λ xs. p ∷ xs) more.1)
        ]
      ]

  -- two lists of heads with their rests are one
  pub record AreSame (ps qs : List P) (r s : List ℕ) : Type 0 where
    pub heads : ps ≡ qs
    pub rest : r ≡ s

  -- the heads and the rest are determined by the bytes
  pub heads_unique : IsLawful rules → (b : List ℕ) (ps qs : List P) (r s : List ℕ) → Heads rules b ps r →
      Heads rules b qs s → AreSame ps qs r s
  heads_unique laws b [] [] r s v w = record { heads = refl; rest = sym v.1 ∙ w.1 }
  heads_unique laws b [] (q ∷ qs) r s v w = absurd (v.0 w.0 q w.1.0)
  heads_unique laws b (p ∷ ps) [] r s v w = absurd (w.0 v.0 p v.1.0)
  heads_unique laws b (p ∷ ps) (q ∷ qs) r s v w =
      let same = laws.unique b (Whole v.0 p) (Whole w.0 q) v.1.0 w.1.0 in
      let n = whole_size v.0 w.0 p q same in
      let head = whole_head v.0 w.0 p q same in
      elim v.1.1 [
        | inl k ↦ elim w.1.1 [
          | inl l ↦ record {
            heads = ap (λ x. x ∷ ps) head ∙ ap (λ xs. q ∷ xs) (k.1 ∙ sym l.1);
            rest = sym k.2 ∙ ap (λ x. drop x b) n ∙ l.2;
          }
          | inr l ↦ absurd (true_is_not_false (closes rules q) (sym (ap (closes rules) head) ∙ k.0) l.0)
        ]
        | inr k ↦ elim w.1.1 [
          | inl l ↦ absurd (true_is_not_false (closes rules q) l.0 (sym (ap (closes rules) head) ∙ k.0))
          | inr l ↦
              let more = heads_unique laws (drop v.0 b) ps qs r s k.1
              (subst (λ x. Heads rules (drop x b) qs s) (sym n) l.1) in
              record { heads = ap (λ x. x ∷ ps) head ∙ ap (λ xs. q ∷ xs) more.heads; rest = more.rest }
        ]
      ]

  -- heads of which the last closes stay, whatever follows
  pub closing_grows : IsLawful rules → (b c : List ℕ) (ps : List P) (r : List ℕ) → Heads rules b ps r →
      Last (λ p. closes rules p ≡ true) ps → Heads rules (b ++ c) ps (r ++ c)
  closing_grows laws b c [] r w h = absurd h
  closing_grows laws b c (p ∷ []) r w h =
      let behind = drop-append-le w.0 b c (laws.within b w.0 p w.1.0).1 in
      elim w.1.1 [
        | inl k ↦ (w.0, (laws.grows b c w.0 p w.1.0, inl (k.0, k.1, behind ∙ ap (λ x. x ++ c) k.2)))
        | inr k ↦ absurd (true_is_not_false (closes rules p) h k.0)
      ]
  closing_grows laws b c (p ∷ (q ∷ ps)) r w h =
      let behind = drop-append-le w.0 b c (laws.within b w.0 p w.1.0).1 in
      elim w.1.1 [
        | inl k ↦ (w.0, (laws.grows b c w.0 p w.1.0, inl (k.0, k.1, behind ∙ ap (λ x. x ++ c) k.2)))
        | inr k ↦ (
          w.0,
          (
            laws.grows b c w.0 p w.1.0,
            inr (
              k.0,
              subst (λ x. Heads rules x (q ∷ ps) (r ++ c)) (sym behind)
                  (closing_grows laws (drop w.0 b) c (q ∷ ps) r k.1 h),
            ),
          ),
        )
      ]
