-- The rounds only add, and come to an end.
use Rattle.std.proofs.Common.{◌≡◌, ℕ, zero, suc, ◌+◌, ◌-◌, ◌≤◌, length, Option, Some, None, Bool, true, false, is_some}
use Rattle.std.proofs.Common.{◌⊎◌, inl, inr, refl, sym, ap, ◌∙◌, subst, arith}
use Rattle.std.proofs.lemmas.Bool.{cases_lt}
use Rattle.by_need.proofs.Counts.{some_value, some_is, count_all, tight, tally}
use Rattle.by_need.specs.Asking.{Answer, Done, Raised, Asks, Otherwise}
use Rattle.by_need.specs.Rounds.{Rules, Part, is_task, round, known}
use Rattle.by_need.specs.Laws.{Lawful, Waits}

-- each table is part of itself
pub Part-refl : {T V : Type 0} (K : T → Option V) → Part K K
Part-refl K = record { keeps = λ t v h. h }

-- a part of a part is a part
pub Part-trans : {T V : Type 0} {K L M : T → Option V} → Part K L → Part L M → Part K M
Part-trans p q = record { keeps = λ t v h. q.keeps t v (p.keeps t v h) }

-- a value that is known after n rounds is what a run over them gives
pub record Stays {T V E O : Type 0} (r : Rules T V E O) (n : ℕ) : Type 0 where
  pub task : (t : T) (v : V) → round r n t ≡ Some v → is_task r t ≡ true
  pub gives : (t : T) (v : V) → round r n t ≡ Some v → (r.run t (round r n)).answer ≡ Done v

-- another round adds nothing
pub record Stable {T V E O : Type 0} (r : Rules T V E O) (n : ℕ) : Type 0 where
  pub all : (t : T) (v : V) → is_task r t ≡ true → (r.run t (round r n)).answer ≡ Done v → round r n t ≡ Some v

module _ {T V E O : Type 0} (r : Rules T V E O) (laws : Lawful r) where
  -- the law of growth, answer by answer
  pub grow_done : (t : T) (K L : T → Option V) (v : V) → Part K L → (r.run t K).answer ≡ Done v → r.run t L ≡ r.run t K
  grow_done t K L v p e = laws.grow t K L p (subst (Waits L) (sym e) tt)

  -- the law of growth, for an error
  pub grow_raised : (t : T) (K L : T → Option V) (x : E) → Part K L → (r.run t K).answer ≡ Raised x →
      r.run t L ≡ r.run t K
  grow_raised t K L x p e = laws.grow t K L p (subst (Waits L) (sym e) tt)

  -- the law of growth, for an end of another kind
  pub grow_otherwise : (t : T) (K L : T → Option V) (o : O) → Part K L → (r.run t K).answer ≡ Otherwise o →
      r.run t L ≡ r.run t K
  grow_otherwise t K L o p e = laws.grow t K L p (subst (Waits L) (sym e) tt)

  -- the law of growth, for a question that stays open
  pub grow_asks : (t : T) (K L : T → Option V) (u : T) → Part K L → (r.run t K).answer ≡ Asks u → L u ≡ None →
      r.run t L ≡ r.run t K
  grow_asks t K L u p e n = laws.grow t K L p (subst (Waits L) (sym e) n)

  -- what a run waits for is not known
  pub lacks : (t : T) (K : T → Option V) (u : T) → (r.run t K).answer ≡ Asks u → K u ≡ None
  lacks t K u e = subst (Waits K) e (laws.lacks t K)

  -- how a round comes to know a value
  origin_at : (n : ℕ) (t : T) (v : V) (b : Bool) (a : Answer T V E O) → is_task r t ≡ b →
      (r.run t (round r n)).answer ≡ a → round r (suc n) t ≡ Some v → (round r n t ≡ Some v)
      ⊎ ((is_task r t ≡ true) × ((r.run t (round r n)).answer ≡ Done v))
  origin_at n t v true (Done w) e f h = let h' = rw (e, f) at h in inr (e, f ∙ cc)
  origin_at n t v true (Raised x) e f h = inl (rw (e, f) at h)
  origin_at n t v true (Asks u) e f h = inl (rw (e, f) at h)
  origin_at n t v true (Otherwise o) e f h = inl (rw (e, f) at h)
  origin_at n t v false a e f h = inl (rw e at h)

  -- a value of a round was there before, or a run over the rounds before is done with it
  pub origin : (n : ℕ) (t : T) (v : V) → round r (suc n) t ≡ Some v → (round r n t ≡ Some v)
      ⊎ ((is_task r t ≡ true) × ((r.run t (round r n)).answer ≡ Done v))
  origin n t v h = origin_at n t v (is_task r t) ((r.run t (round r n)).answer) refl refl h

  -- a run over the rounds before that is done makes its value known
  pub enters : (n : ℕ) (t : T) (v : V) → is_task r t ≡ true → (r.run t (round r n)).answer ≡ Done v →
      round r (suc n) t ≡ Some v
  enters n t v e f = rw (e, f) refl

  up_from : (n : ℕ) → Stays r n → Part (round r n) (round r (suc n))
  up_from n s = record { keeps = λ t v h. enters n t v (s.task t v h) (s.gives t v h) }

  -- what a round knows is what a run over it gives
  pub stays : (n : ℕ) → Stays r n
  stays zero = record { task = λ t v h. absurd cc; gives = λ t v h. absurd cc }
  stays (suc n) =
      let s : Stays r n = stays n in
      let p : Part (round r n) (round r (suc n)) = up_from n s in
      let grown : (t : T) (v : V) → (r.run t (round r n)).answer ≡ Done v → (r.run t (round r (suc n))).answer
      ≡ Done v = λ t v e. ap (λ o. o.answer) (grow_done t (round r n) (round r (suc n)) v p e) ∙ e in
      record {
        task = λ t v h. elim (origin n t v h) [ inl h' ↦ s.task t v h' | inr w ↦ w.0 ];
        gives = λ t v h. elim (origin n t v h) [ inl h' ↦ grown t v (s.gives t v h') | inr w ↦ grown t v w.1 ];
      }

  -- a round knows all that the one before knew
  pub up : (n : ℕ) → Part (round r n) (round r (suc n))
  up n = up_from n (stays n)

  up_by : (k n : ℕ) → Part (round r n) (round r (k + n))
  up_by zero n = let e : n ≡ zero + n = omega arith in
      subst (λ m. Part (round r n) (round r m)) e (Part-refl (round r n))
  up_by (suc k) n = let e : suc (k + n) ≡ suc k + n = omega arith in
      subst (λ m. Part (round r n) (round r m)) e (Part-trans (up_by k n) (up (k + n)))

  -- later rounds know all that earlier ones knew
  pub round-le : (m n : ℕ) → m ≤ n → Part (round r m) (round r n)
  round-le m n le = let e : (n - m) + m ≡ n = omega arith in
      subst (λ k. Part (round r m) (round r k)) e (up_by (n - m) m)

  -- the end
  count : ℕ → ℕ
  count n = tally (λ t. is_some (round r n t)) r.tasks

  stable_from : (n : ℕ) → ((t : T) (v : V) → is_task r t ≡ true → (r.run t (round r n)).answer ≡ Done v →
      is_some (round r n t) ≡ true) → Stable r n
  stable_from n h = record {
    all = λ t v e f. let s = some_value (round r n t) (h t v e f) in
        let g = (stays n).gives t s.0 s.1 in s.1 ∙ ap Some cc;
  }

  down : (n : ℕ) → Stable r n → Part (round r (suc n)) (round r n)
  down n s = record { keeps = λ t v h. elim (origin n t v h) [ inl h' ↦ h' | inr w ↦ s.all t v w.0 w.1 ] }

  stable_up : (n : ℕ) → Stable r n → Stable r (suc n)
  stable_up n s = record {
    all = λ t v e f.
        (up n).keeps t v (s.all t v e (ap (λ o. o.answer) (grow_done t (round r (suc n)) (round r n) v (down n s) f)
        ∙ f));
  }

  stable_tight : (n : ℕ) → count (suc n) ≤ count n → Stable r n
  unfolding count
  stable_tight n le =
      stable_from n (λ t v e f. tight r.same laws.same_is (λ t. is_some (round r n t))
      (λ t. is_some (round r (suc n) t)) (λ t h. let s = some_value (round r n t) h in
      some_is _ s.0 ((up n).keeps t s.0 s.1)) r.tasks le t e (some_is _ v (enters n t v e f)))

  many_or_stable : (n : ℕ) → (n ≤ count n) ⊎ Stable r n
  many_or_stable zero = inl (omega arith)
  many_or_stable (suc n) =
      elim (many_or_stable n) [
        | inl le ↦
            elim (cases_lt (count n) (count (suc n))) [
              | inl lt ↦ inl (omega (arith, le, lt))
              | inr ge ↦ inr (stable_up n (stable_tight n ge))
            ]
        | inr s ↦ inr (stable_up n s)
      ]

  all_known : (n : ℕ) → length r.tasks ≤ count n → Stable r n
  unfolding count
  all_known n le =
      stable_from n (λ t v e f. tight r.same laws.same_is (λ t. is_some (round r n t)) (λ t. true)
      (λ t h. refl) r.tasks (rw count_all le) t e refl)

  -- after as many rounds as there are tasks another one adds nothing
  pub known_stable : Stable r (length r.tasks)
  known_stable = elim (many_or_stable (length r.tasks)) [ inl le ↦ all_known (length r.tasks) le | inr s ↦ s ]

  -- Known is a fixed point
  pub known_gives : (t : T) (v : V) → known r t ≡ Some v → (r.run t (known r)).answer ≡ Done v
  known_gives = (stays (length r.tasks)).gives

  -- what is known is a task
  pub known_task : (t : T) (v : V) → known r t ≡ Some v → is_task r t ≡ true
  known_task = (stays (length r.tasks)).task

  -- a run over all that is known that is done has the known value
  pub known_takes : (t : T) (v : V) → is_task r t ≡ true → (r.run t (known r)).answer ≡ Done v → known r t ≡ Some v
  known_takes = known_stable.all
