-- A task that asks for a lost one has its blame.
use Rattle.std.proofs.Common.{◌≡◌, ℕ, zero, suc, ◌+◌, ◌-◌, ◌≤◌, ◌<◌, length, Bool, true, false, ◌⊎◌, inl, inr, refl}
use Rattle.std.proofs.Common.{sym, ap, ◌∙◌, subst, arith}
use Rattle.std.proofs.lemmas.Bool.{false≢true, or_cases, or_right, cases_lt}
use Rattle.by_need.proofs.Loads.{Apart, AllTasks, few}
use Rattle.by_need.proofs.Blames.{Ring, On, follow_add, follow_suc, length-walk, walk_in, next_asks, next_raised}
use Rattle.by_need.proofs.Blames.{next_otherwise, stay_follow, least_is, on_next, next_task, follow_task, on_follow}
use Rattle.by_need.proofs.Blames.{on_start, on_walk, walk_on, asks_on, ring_is}
use Rattle.by_need.specs.Asking.{Answer, Done, Raised, Asks, Otherwise}
use Rattle.by_need.specs.Rounds.{Rules, is_in, is_task, known}
use Rattle.by_need.specs.Blame.{Circle, next, follow, walk, least_of, ring_of, cause_at, cause_of, blame}
use Rattle.by_need.specs.Laws.{Lawful}

module _ {T V E O : Type 0} (r : Rules T V E O) (laws : Lawful r) where
  next_done : (t : T) (v : V) → (r.run t (known r)).answer ≡ Done v → next r t ≡ t
  next_done t v e = rw e refl

  walk_tasks : (n : ℕ) (t : T) → is_task r t ≡ true → AllTasks r (walk r n t)
  walk_tasks zero t h = tt
  walk_tasks (suc n) t h = (h, walk_tasks n (next r t) (next_task r laws t h))

  record Comes (n : ℕ) (t : T) : Type 0 where
    start : ℕ
    period : ℕ
    some : 0 < period
    within : start + period < n
    back : follow r period (follow r start t) ≡ follow r start t

  apart_or_comes : (n : ℕ) (t : T) → Apart r (walk r n t) ⊎ Comes n t
  apart_or_comes zero t = inl tt
  apart_or_comes (suc n) t = at (is_in r t (walk r n (next r t))) refl (apart_or_comes n (next r t))
    where
      at : (b : Bool) → is_in r t (walk r n (next r t)) ≡ b → Apart r (walk r n (next r t)) ⊎ Comes n (next r t) →
          Apart r (walk r (suc n) t) ⊎ Comes (suc n) t
      at true e ih = let i = walk_in r laws n (next r t) t e in
          inr (record { start = 0; period = suc i.0; some = omega arith; within = omega (arith, i.1); back = i.2 })
      at false e ih =
          elim ih [
            | inl a ↦ inl (e, a)
            | inr c ↦ let w = c.within in
                inr (record {
                  start = suc c.start;
                  period = c.period;
                  some = c.some;
                  within = omega (arith, w);
                  back = c.back;
                })
          ]

  -- among one more step than there are tasks some task comes back
  comes : (t : T) → is_task r t ≡ true → Comes (suc (length r.tasks)) t
  comes t h =
      elim (apart_or_comes (suc (length r.tasks)) t) [
        | inl a ↦ absurd (omega (
          arith,
          few r laws (walk r (suc (length r.tasks)) t) a
              (walk_tasks (suc (length r.tasks)) t h),
          length-walk r (suc (length r.tasks)) t,
        ))
        | inr c ↦ c
      ]

  record First (n : ℕ) (x : T) : Type 0 where
    period : ℕ
    some : 0 < period
    within : period ≤ n
    back : follow r period x ≡ x
    first : (j : ℕ) → 0 < j → j < period → follow r j x ≡ x → ⊥

  first_or_none : (n : ℕ) (x : T) → ((j : ℕ) → 0 < j → j ≤ n → follow r j x ≡ x → ⊥) ⊎ First n x
  first_or_none zero x = inl (λ j pos le e. omega (arith, pos, le))
  first_or_none (suc n) x = at (r.same (follow r (suc n) x) x) refl (first_or_none n x)
    where
      at : (b : Bool) → r.same (follow r (suc n) x) x ≡ b → ((j : ℕ) → 0 < j → j ≤ n → follow r j x ≡ x → ⊥)
          ⊎ First n x → ((j : ℕ) → 0 < j → j ≤ suc n → follow r j x ≡ x → ⊥) ⊎ First (suc n) x
      at b e (inr f) = let w = f.within in
          inr (record { period = f.period; some = f.some; within = omega (arith, w); back = f.back; first = f.first })
      at true e (inl none) = inr
          (record {
            period = suc n;
            some = omega arith;
            within = omega arith;
            back = laws.same_is _ x e;
            first = λ j pos lt. none j pos (omega (arith, lt));
          })
      at false e (inl none) =
          inl (λ j pos le h. elim (cases_lt j (suc n)) [
            | inl lt ↦ none j pos (omega (arith, lt)) h
            | inr ge ↦ let same : j ≡ suc n = omega (arith, le, ge) in
                false≢true (sym e ∙ subst (λ z. r.same z x ≡ true) (sym (ap (λ k. follow r k x) (sym same) ∙ h))
                (laws.same_self x))
          ])

  first_of : (n p : ℕ) (x : T) → 0 < p → p ≤ n → follow r p x ≡ x → First n x
  first_of n p x pos le e = elim (first_or_none n x) [ inl none ↦ absurd (none p pos le e) | inr f ↦ f ]

  -- tasks that stay where they are ask for nothing
  asks_or_stays : (z : T) → ((w : T) × ((r.run z (known r)).answer ≡ Asks w)) ⊎ (next r z ≡ z)
  asks_or_stays z = at ((r.run z (known r)).answer) refl
    where
      at : (a : Answer T V E O) → (r.run z (known r)).answer ≡ a → ((w : T) × ((r.run z (known r)).answer ≡ Asks w))
          ⊎ (next r z ≡ z)
      at (Done v) e = inr (next_done z v e)
      at (Raised x) e = inr (next_raised r z x e)
      at (Asks w) e = inl (w, e)
      at (Otherwise o) e = inr (next_otherwise r z o e)

  module _ (t : T) (h : is_task r t ≡ true) where
    ring_from : (x : T) (p : ℕ) (k : ℕ) (y w : T) → is_task r x ≡ true → 0 < p → p ≤ length r.tasks →
        follow r p x ≡ x → follow r k x ≡ y → (r.run y (known r)).answer ≡ Asks w → (q : ℕ) × Ring r x q
    ring_from x p k y w task pos le back way e =
        let f = first_of (length r.tasks) p x pos le back in (
          f.period,
          record {
            is = task;
            some = f.some;
            small = f.within;
            back = f.back;
            first = f.first;
            asks = λ j lt. elim (asks_or_stays (follow r j x)) [
              | inl a ↦ a
              | inr s ↦ (w, subst (λ z. (r.run z (known r)).answer ≡ Asks w) (sym (same f j lt s)) e)
            ];
          },
        )
      where
        same : (f : First (length r.tasks) x) (j : ℕ) → j < f.period → next r (follow r j x) ≡ follow r j x →
            follow r j x ≡ y
        same f j lt s =
            let z = follow r j x in
            let to_x : z ≡ x = sym (stay_follow r (f.period - j) z s)
            ∙ sym (follow_add r j (f.period - j) f.period (omega (arith, lt)) x) ∙ f.back in
            let s' : next r x ≡ x = subst (λ v. next r v ≡ v) to_x s in
            to_x ∙ sym (stay_follow r k x s') ∙ way

    same_ring : (x : T) (p : ℕ) → Ring r x p → (y : T) → On r x p y → ring_of r (next r y) ≡ ring_of r y
    same_ring x p ring y oy =
        let n = length r.tasks in
        let m = least_of r y (walk r n y) in
        let l = least_is r laws y (walk r n y) in
        let om : On r x p m = elim (or_cases (r.same m y) _ l.member)
        [ inl e ↦ subst (On r x p) (sym (laws.same_is m y e)) oy | inr i ↦ on_walk r laws x p ring n y m oy i ] in
        let below : (z : T) → On r x p z →
        r.at_most m z ≡ true = λ z oz.
        l.below z (or_right (r.same z y) _ (walk_on r laws x p ring n y z ring.small oy oz)) in
        ring_is r laws x p ring (next r y) m (on_next r laws x p ring y oy) om below
        ∙ sym (ring_is r laws x p ring y m oy om below)

    cause_next : (y : T) → follow r (length r.tasks) t ≡ y → cause_of r (next r y) ≡ cause_of r y
    cause_next y way = elim (asks_or_stays y) [ inr s ↦ ap (cause_of r) s | inl a ↦ go a.0 a.1 ]
      where
        go : (w : T) → (r.run y (known r)).answer ≡ Asks w → cause_of r (next r y) ≡ cause_of r y
        go w e =
            let n = length r.tasks in
            let c = comes t h in
            let within = c.within in
            let x = follow r c.start t in
            let k = n - c.start in
            let on_way : follow r k x ≡ y = sym (follow_add r c.start k n (omega (arith, within)) t) ∙ way in
            let ring = ring_from x c.period k y w (follow_task r laws c.start t h) c.some
            (omega (arith, within)) c.back on_way e in
            let oy : On r x ring.0 y =
            subst (On r x ring.0) on_way (on_follow r laws x ring.0 ring.1 k x (on_start r laws x ring.0 ring.1)) in
            let b = asks_on r laws x ring.0 ring.1 (next r y) (on_next r laws x ring.0 ring.1 y oy) in
            ap (cause_at r (next r y)) b.1 ∙ ap Circle (same_ring x ring.0 ring.1 y oy) ∙ sym (ap (cause_at r y) e)

    -- a task and the one that it leads to have one blame
    pub blame_next : blame r (next r t) ≡ blame r t
    blame_next =
        let n = length r.tasks in
        ap (cause_of r) (follow_suc r n t) ∙ cause_next (follow r n t) refl

    -- the blame of a task that asks is that of the task it asks for
    pub blame_asks : (u : T) → (r.run t (known r)).answer ≡ Asks u → blame r t ≡ blame r u
    blame_asks u e = sym blame_next ∙ ap (blame r) (next_asks r t u e)
