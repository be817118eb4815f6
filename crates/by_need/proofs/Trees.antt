-- The laws of runs hold of each tree of questions.
use Rattle.std.proofs.Common.{◌≡◌, List, [], ◌∷◌, ◌++◌, Option, Some, None, Bool, true, false, is_some, ◌⊎◌, inl, inr}
use Rattle.std.proofs.Common.{refl, sym, ap, ◌∙◌, subst}
use Rattle.std.proofs.lemmas.Bool.{false≢true, or_cases}
use Rattle.std.specs.List.{list_any}
use Rattle.by_need.specs.Asking.{Answer, Done, Raised, Asks, Otherwise, Outcome, Gives, Ask, Value, Error, Other}
use Rattle.by_need.specs.Asking.{Computation, with_value, over}
use Rattle.by_need.specs.Rounds.{Part, rules_by, is_task}
use Rattle.by_need.specs.Laws.{Lawful, Closed, Waits, EndsWith}

module _ {T V E O : Type 0} where
  grow_at : (K L : T → Option V) → Part K L → (u : T) (f g : V → Outcome T V E O) →
      ((v : V) → Waits L (g v).answer → f v ≡ g v) → (o : Option V) → K u ≡ o → Waits L (with_value u g o).answer →
      with_value u f (L u) ≡ with_value u g o
  grow_at K L p u f g ih None h e = rw e refl
  grow_at K L p u f g ih (Some v) h e =
      rw (p.keeps u v h) (ap (λ x. record { answer = x.answer; asked = u ∷ x.asked }) (ih v e))

  -- an answer stays while what it waits for is not known
  pub grow : (K L : T → Option V) → Part K L → (c : Computation T V E O) → Waits L (over K c).answer →
      over L c ≡ over K c
  grow K L p (Gives a) h = refl
  grow K L p (Ask u k) h = grow_at K L p u (λ v. over L (k v)) (λ v. over K (k v)) (λ v. grow K L p (k v)) (K u) refl h

  prefix_at : (K L : T → Option V) → Part K L → (u : T) (f g : V → Outcome T V E O) →
      ((v : V) → (rest : List T) × ((f v).asked ≡ (g v).asked ++ rest)) → (o m : Option V) → K u ≡ o → L u ≡ m →
      (rest : List T) × ((with_value u f m).asked ≡ (with_value u g o).asked ++ rest)
  prefix_at K L p u f g ih None None h e = ([], refl)
  prefix_at K L p u f g ih None (Some v) h e = ((f v).asked, refl)
  prefix_at K L p u f g ih (Some v) None h e = let e' = p.keeps u v h in absurd cc
  prefix_at K L p u f g ih (Some v) (Some w) h e = let e' = p.keeps u v h in let same : v ≡ w = cc in let i = ih w in
      subst (λ x. (rest : List T) × (u ∷ (f w).asked ≡ (u ∷ (g x).asked) ++ rest)) (sym same) (i.0, ap (λ x. u ∷ x) i.1)

  -- over more a run asks for the same and then perhaps for more
  pub prefix : (K L : T → Option V) → Part K L → (c : Computation T V E O) → (rest : List T)
      × ((over L c).asked ≡ (over K c).asked ++ rest)
  prefix K L p (Gives a) = ([], refl)
  prefix K L p (Ask u k) = prefix_at K L p u (λ v. over L (k v)) (λ v. over K (k v)) (λ v. prefix K L p (k v)) (K u)
      (L u) refl refl

  ends_more : (u : T) (ts : List T) (a : Answer T V E O) → EndsWith ts a → EndsWith (u ∷ ts) a
  ends_more u ts (Done v) h = tt
  ends_more u ts (Raised e) h = tt
  ends_more u ts (Asks w) h = (u ∷ h.0, ap (λ x. u ∷ x) h.1)
  ends_more u ts (Otherwise o) h = tt

  last_at : (u : T) (g : V → Outcome T V E O) → ((v : V) → EndsWith (g v).asked (g v).answer) → (o : Option V) →
      EndsWith (with_value u g o).asked (with_value u g o).answer
  last_at u g ih None = ([], refl)
  last_at u g ih (Some v) = ends_more u (g v).asked (g v).answer (ih v)

  -- what a run waits for is the last that it asked for
  pub last : (K : T → Option V) (c : Computation T V E O) → EndsWith (over K c).asked (over K c).answer
  last K (Gives (Value v)) = tt
  last K (Gives (Error e)) = tt
  last K (Gives (Other o)) = tt
  last K (Ask u k) = last_at u (λ v. over K (k v)) (λ v. last K (k v)) (K u)

  lacks_at : (K : T → Option V) (u : T) (g : V → Outcome T V E O) → ((v : V) → Waits K (g v).answer) →
      (o : Option V) → K u ≡ o → Waits K (with_value u g o).answer
  lacks_at K u g ih None h = h
  lacks_at K u g ih (Some v) h = ih v

  -- what a run waits for is not known
  pub lacks : (K : T → Option V) (c : Computation T V E O) → Waits K (over K c).answer
  lacks K (Gives (Value v)) = tt
  lacks K (Gives (Error e)) = tt
  lacks K (Gives (Other o)) = tt
  lacks K (Ask u k) = lacks_at K u (λ v. over K (k v)) (λ v. lacks K (k v)) (K u) refl

  -- what a run asked for is known, or is what it stops at
  asked_at : (same : T → T → Bool) → ((a b : T) → same a b ≡ true → a ≡ b) →
      (K : T → Option V) (u : T) (g : V → Outcome T V E O) (t : T) →
      ((v : V) → list_any (same t) (g v).asked ≡ true → (is_some (K t) ≡ true) ⊎ ((g v).answer ≡ Asks t)) →
      (o : Option V) → K u ≡ o → list_any (same t) (with_value u g o).asked ≡ true → (is_some (K t) ≡ true)
      ⊎ ((with_value u g o).answer ≡ Asks t)
  asked_at same is K u g t ih None h m = elim (or_cases (same t u) _ m) [
    | inl q ↦ inr (ap Asks (sym (is t u q)))
    | inr q ↦ absurd (false≢true q)
  ]
  asked_at same is K u g t ih (Some v) h m =
      elim (or_cases (same t u) _ m) [ inl q ↦ inl (rw (ap K (is t u q) ∙ h) refl) | inr q ↦ ih v q ]

  -- each task that a run asked for is known, or is what it waits for
  pub asked_known : (same : T → T → Bool) → ((a b : T) → same a b ≡ true → a ≡ b) →
      (K : T → Option V) (c : Computation T V E O) (t : T) → list_any (same t) (over K c).asked ≡ true →
      (is_some (K t) ≡ true) ⊎ ((over K c).answer ≡ Asks t)
  asked_known same is K (Gives a) t m = absurd (false≢true m)
  asked_known same is K (Ask u k) t m = asked_at same is K u (λ v. over K (k v)) t
      (λ v. asked_known same is K (k v) t) (K u) refl m

-- tasks whose runs are trees meet all laws, if names order them and each task that a task asks for is one of them
module _ {T V E O : Type 0} (same at_most : T → T → Bool) (tasks : List T) (meaning : T → Computation T V E O) where
  -- tasks whose runs are trees meet all laws, if these hold of their order and of what they ask for
  pub lawful : ((a b : T) → same a b ≡ true → a ≡ b) → ((a : T) → same a a ≡ true) →
      ((a b : T) → at_most a b ≡ false → at_most b a ≡ true) →
      ((a b c : T) → at_most a b ≡ true → at_most b c ≡ true → at_most a c ≡ true) →
      ((a b : T) → is_task (rules_by same at_most tasks meaning) a ≡ true →
      is_task (rules_by same at_most tasks meaning) b ≡ true → at_most a b ≡ true → at_most b a ≡ true → a ≡ b) →
      Closed (rules_by same at_most tasks meaning) → Lawful (rules_by same at_most tasks meaning)
  lawful is self total chain equal closed = record {
    same_is = is;
    same_self = self;
    total = total;
    chain = chain;
    equal = equal;
    grow = λ t K L p e. grow K L p (meaning t) e;
    prefix = λ t K L p. prefix K L p (meaning t);
    last = λ t K. last K (meaning t);
    lacks = λ t K. lacks K (meaning t);
    asked_known = λ t K u m. asked_known same is K (meaning t) u m;
    closed = closed;
  }
