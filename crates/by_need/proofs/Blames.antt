-- Where the questions of a lost task end.
use Rattle.std.proofs.Common.{◌≡◌, ℕ, zero, suc, ◌+◌, ◌-◌, ◌≤◌, ◌<◌, List, [], ◌∷◌, ◌++◌, length, Bool, true, false}
use Rattle.std.proofs.Common.{cond, inl, inr, refl, sym, ap, ◌∙◌, subst, arith, take, drop, get_or}
use Rattle.std.proofs.lemmas.Bool.{false≢true, or_cases, or_right, or_left, cases_lt}
use Rattle.by_need.proofs.Tables.{Chain, first_or, asks_task}
use Rattle.by_need.proofs.Rounds.{Part-refl}
use Rattle.by_need.specs.Asking.{Answer, Done, Raised, Asks, Otherwise}
use Rattle.by_need.specs.Rounds.{Rules, is_in, is_task, known}
use Rattle.by_need.specs.Blame.{Fault, Circle, Ended, asked_by, next, follow, walk, least_of, until, circle_of, ring_of}
use Rattle.by_need.specs.Blame.{cause_at, cause_of, blame}
use Rattle.by_need.specs.Laws.{Lawful}

-- u is on a ring of p tasks
pub record Ring {T V E O : Type 0} (r : Rules T V E O) (u : T) (p : ℕ) : Type 0 where
  pub is : is_task r u ≡ true
  pub some : 0 < p
  pub small : p ≤ length r.tasks
  pub back : follow r p u ≡ u
  pub first : (j : ℕ) → 0 < j → j < p → follow r j u ≡ u → ⊥
  pub asks : (j : ℕ) → j < p → (w : T) × ((r.run (follow r j u) (known r)).answer ≡ Asks w)

-- x is on that ring
pub record On {T V E O : Type 0} (r : Rules T V E O) (u : T) (p : ℕ) (x : T) : Type 0 where
  pub at : ℕ
  pub below : at < p
  pub is : follow r at u ≡ x

module _ {T V E O : Type 0} (r : Rules T V E O) where
  -- a way of a + b questions is one of a and then one of b
  pub follow_add : (a b n : ℕ) → n ≡ a + b → (t : T) → follow r n t ≡ follow r b (follow r a t)
  follow_add zero b n e t = let e' : n ≡ b = omega arith in ap (λ k. follow r k t) e'
  follow_add (suc a) b zero e t = absurd (omega arith)
  follow_add (suc a) b (suc n) e t = follow_add a b n (omega arith) (next r t)

  -- the last question of a way
  pub follow_suc : (n : ℕ) (t : T) → follow r (suc n) t ≡ next r (follow r n t)
  follow_suc n t = follow_add n 1 (suc n) (omega arith) t

  follow_comm : (a b : ℕ) (t : T) → follow r a (follow r b t) ≡ follow r b (follow r a t)
  follow_comm a b t = sym (follow_add b a (a + b) (omega arith) t) ∙ follow_add a b (a + b) refl t

  -- the tasks on a way of a + b questions
  pub walk_add : (a b n : ℕ) → n ≡ a + b → (t : T) → walk r n t ≡ walk r a t ++ walk r b (follow r a t)
  walk_add zero b n e t = let e' : n ≡ b = omega arith in ap (λ k. walk r k t) e'
  walk_add (suc a) b zero e t = absurd (omega arith)
  walk_add (suc a) b (suc n) e t = ap (λ us. t ∷ us) (walk_add a b n (omega arith) (next r t))

  -- the tasks on the way behind the first i
  pub drop-walk : (i n : ℕ) (t : T) → i ≤ n → drop i (walk r n t) ≡ walk r (n - i) (follow r i t)
  drop-walk zero n t le = let e : n ≡ n - 0 = omega arith in ap (λ k. walk r k t) e
  drop-walk (suc i) zero t le = absurd (omega (arith, le))
  drop-walk (suc i) (suc n) t le = let e : n - i ≡ suc n - suc i = omega arith in
      drop-walk i n (next r t) (omega (arith, le)) ∙ ap (λ k. walk r k (follow r i (next r t))) e

  -- the first i tasks on the way
  pub take-walk : (i n : ℕ) (t : T) → i ≤ n → take i (walk r n t) ≡ walk r i t
  take-walk zero n t le = refl
  take-walk (suc i) zero t le = absurd (omega (arith, le))
  take-walk (suc i) (suc n) t le = ap (λ us. t ∷ us) (take-walk i n (next r t) (omega (arith, le)))

  -- the task behind i questions, read off the way
  pub get_or-walk : (i n : ℕ) (t d : T) → i < n → get_or (walk r n t) i d ≡ follow r i t
  get_or-walk i zero t d lt = absurd (omega (arith, lt))
  get_or-walk zero (suc n) t d lt = refl
  get_or-walk (suc i) (suc n) t d lt = get_or-walk i n (next r t) d (omega (arith, lt))

  -- a way of n questions has n tasks on it
  pub length-walk : (n : ℕ) (t : T) → length (walk r n t) ≡ n
  length-walk zero t = refl
  length-walk (suc n) t = ap suc (length-walk n (next r t))

  -- a task that waits for u leads to u
  pub next_asks : (t u : T) → (r.run t (known r)).answer ≡ Asks u → next r t ≡ u
  next_asks t u e = rw e refl

  -- a task whose run raises leads nowhere
  pub next_raised : (t : T) (x : E) → (r.run t (known r)).answer ≡ Raised x → next r t ≡ t
  next_raised t x e = rw e refl

  -- a task whose run ends otherwise leads nowhere
  pub next_otherwise : (t : T) (o : O) → (r.run t (known r)).answer ≡ Otherwise o → next r t ≡ t
  next_otherwise t o e = rw e refl

  -- a chain leads to the task behind its last one
  pub chain_follow : (ts : List T) (u : T) → Chain r (known r) ts u → follow r (length ts) (first_or u ts) ≡ u
  chain_follow [] u c = refl
  chain_follow (t ∷ ts) u c = ap (follow r (length ts)) (next_asks t _ c.0) ∙ chain_follow ts u c.1

  -- the tasks on that way are the chain
  pub chain_walk : (ts : List T) (u : T) → Chain r (known r) ts u → walk r (length ts) (first_or u ts) ≡ ts
  chain_walk [] u c = refl
  chain_walk (t ∷ ts) u c = ap (λ us. t ∷ us) (ap (walk r (length ts)) (next_asks t _ c.0) ∙ chain_walk ts u c.1)

  -- each task of a chain asks
  pub chain_asks : (ts : List T) (u : T) → Chain r (known r) ts u → (j : ℕ) → j < length ts → (w : T)
      × ((r.run (follow r j (first_or u ts)) (known r)).answer ≡ Asks w)
  chain_asks [] u c j lt = absurd (omega (arith, lt))
  chain_asks (t ∷ ts) u c zero lt = (first_or u ts, c.0)
  chain_asks (t ∷ ts) u c (suc j) lt =
      let i = chain_asks ts u c.1 j (omega (arith, lt)) in
      (i.0, subst (λ x. (r.run (follow r j x) (known r)).answer ≡ Asks i.0) (sym (next_asks t _ c.0)) i.1)

  -- a task that leads nowhere stays where it is
  pub stay_follow : (n : ℕ) (t : T) → next r t ≡ t → follow r n t ≡ t
  stay_follow zero t e = refl
  stay_follow (suc n) t e = ap (follow r n) e ∙ stay_follow n t e

  -- what leads to an error in at most as many steps as there are tasks has it for its blame
  pub blame_raised : (d : ℕ) (t x : T) (e : E) → d ≤ length r.tasks → follow r d t ≡ x →
      (r.run x (known r)).answer ≡ Raised e → blame r t ≡ Fault e
  blame_raised d t x e le f h =
      let n = length r.tasks in
      let s : follow r n t ≡ x = follow_add d (n - d) n (omega arith) t ∙ ap (follow r (n - d)) f
      ∙ stay_follow (n - d) x (next_raised x e h) in
      ap (cause_of r) s ∙ ap (cause_at r x) h

  -- what leads to an end of another kind has it for its blame
  pub blame_otherwise : (d : ℕ) (t x : T) (o : O) → d ≤ length r.tasks → follow r d t ≡ x →
      (r.run x (known r)).answer ≡ Otherwise o → blame r t ≡ Ended o
  blame_otherwise d t x o le f h =
      let n = length r.tasks in
      let s : follow r n t ≡ x = follow_add d (n - d) n (omega arith) t ∙ ap (follow r (n - d)) f
      ∙ stay_follow (n - d) x (next_otherwise x o h) in
      ap (cause_of r) s ∙ ap (cause_at r x) h

module _ {T V E O : Type 0} (r : Rules T V E O) (laws : Lawful r) where
  -- where j questions lead is on the way of more
  pub in_walk : (n j : ℕ) (t z : T) → j < n → follow r j t ≡ z → is_in r z (walk r n t) ≡ true
  in_walk zero j t z lt e = absurd (omega (arith, lt))
  in_walk (suc n) zero t z lt e = or_left (r.same z t) _ (subst (λ x. r.same z x ≡ true) (sym e) (laws.same_self z))
  in_walk (suc n) (suc j) t z lt e = or_right (r.same z t) _ (in_walk n j (next r t) z (omega (arith, lt)) e)

  -- what is on the way is where some questions lead
  pub walk_in : (n : ℕ) (t z : T) → is_in r z (walk r n t) ≡ true → (j : ℕ) × (j < n) × (follow r j t ≡ z)
  walk_in zero t z h = absurd (false≢true h)
  walk_in (suc n) t z h =
      elim (or_cases (r.same z t) _ h) [
        | inl e ↦ (0, omega arith, sym (laws.same_is z t e))
        | inr e ↦ let i = walk_in n (next r t) z e in (suc i.0, omega (arith, i.1), i.2)
      ]

  -- questions lead from tasks to tasks
  pub next_task : (t : T) → is_task r t ≡ true → is_task r (next r t) ≡ true
  next_task t h = at ((r.run t (known r)).answer) refl
    where
      at : (a : Answer T V E O) → (r.run t (known r)).answer ≡ a → is_task r (asked_by t a) ≡ true
      at (Done v) e = h
      at (Raised x) e = h
      at (Asks u) e = asks_task r laws t (known r) u (Part-refl (known r)) e
      at (Otherwise o) e = h

  -- and so do many of them
  pub follow_task : (n : ℕ) (t : T) → is_task r t ≡ true → is_task r (follow r n t) ≡ true
  follow_task zero t h = h
  follow_task (suc n) t h = follow_task n (next r t) (next_task t h)

  -- where no task's run ends otherwise, no blame does
  pub never_ended : ((t : T) (o : O) → is_task r t ≡ true → (r.run t (known r)).answer ≡ Otherwise o → ⊥) → (t : T)
      (o : O) → is_task r t ≡ true → blame r t ≡ Ended o → ⊥
  never_ended never t o h b = at ((r.run last (known r)).answer) refl b
    where
      last : T
      last = follow r (length r.tasks) t

      at : (a : Answer T V E O) → (r.run last (known r)).answer ≡ a → cause_at r last a ≡ Ended o → ⊥
      at (Done v) e f = absurd cc
      at (Raised x) e f = absurd cc
      at (Asks u) e f = absurd cc
      at (Otherwise p) e f = never last p (follow_task (length r.tasks) t h) e

  -- the order has each task at most itself
  pub at_most_self : (t : T) → r.at_most t t ≡ true
  at_most_self t = at (r.at_most t t) refl
    where
      at : (b : Bool) → r.at_most t t ≡ b → r.at_most t t ≡ true
      at true e = e
      at false e = laws.total t t e

  -- m is in the list, and no task of it is less
  pub record Least (m : T) (ts : List T) : Type 0 where
    pub member : is_in r m ts ≡ true
    pub below : (z : T) → is_in r z ts ≡ true → r.at_most m z ≡ true

  least_at : (t u : T) (us : List T) (b : Bool) → r.at_most t u ≡ b → Least (least_of r t us) (t ∷ us) →
      Least (least_of r u us) (u ∷ us) → Least (cond b (least_of r t us) (least_of r u us)) (t ∷ u ∷ us)
  least_at t u us true e lt lu = record {
    member = elim (or_cases (r.same (least_of r t us) t) _ lt.member) [
      | inl h ↦ or_left (r.same (least_of r t us) t) _ h
      | inr h ↦ or_right (r.same (least_of r t us) t) _ (or_right (r.same (least_of r t us) u) _ h)
    ];
    below = λ z h. elim (or_cases (r.same z t) _ h) [
      | inl h1 ↦ lt.below z (or_left (r.same z t) _ h1)
      | inr h1 ↦ elim (or_cases (r.same z u) _ h1) [
        | inl h2 ↦ subst (λ x. r.at_most (least_of r t us) x ≡ true) (sym (laws.same_is z u h2))
            (laws.chain _ t u (lt.below t (or_left (r.same t t) _ (laws.same_self t))) e)
        | inr h2 ↦ lt.below z (or_right (r.same z t) _ h2)
      ]
    ];
  }
  least_at t u us false e lt lu = record {
    member = or_right (r.same (least_of r u us) t) _ lu.member;
    below = λ z h. elim (or_cases (r.same z t) _ h) [
      | inl h1 ↦ subst (λ x. r.at_most (least_of r u us) x ≡ true) (sym (laws.same_is z t h1))
          (laws.chain _ u t (lu.below u (or_left (r.same u u) _ (laws.same_self u))) (laws.total t u e))
      | inr h1 ↦ lu.below z h1
    ];
  }

  -- the least of a list
  pub least_is : (t : T) (ts : List T) → Least (least_of r t ts) (t ∷ ts)
  least_is t [] = record {
    member = or_left (r.same t t) false (laws.same_self t);
    below = λ z h. elim (or_cases (r.same z t) false h) [
      | inl e ↦ subst (λ x. r.at_most t x ≡ true) (sym (laws.same_is z t e)) (at_most_self t)
      | inr e ↦ absurd (false≢true e)
    ];
  }
  least_is t (u ∷ us) = least_at t u us (r.at_most t u) refl (least_is t us) (least_is u us)

  -- the way up to a task that is not met before
  until_walk : (q n : ℕ) (x m : T) → q < n → follow r q x ≡ m → ((j : ℕ) → j < q → follow r j x ≡ m → ⊥) →
      until r m (walk r n x) ≡ walk r q x
  until_walk q zero x m lt e never = absurd (omega (arith, lt))
  until_walk zero (suc n) x m lt e never = rw (subst (λ y. r.same x y ≡ true) e (laws.same_self x)) refl
  until_walk (suc q) (suc n) x m lt e never =
      at (r.same x m) refl (until_walk q n (next r x) m (omega (arith, lt)) e
      (λ j l f. never (suc j) (omega (arith, l)) f))
    where
      at : (b : Bool) → r.same x m ≡ b → until r m (walk r n (next r x)) ≡ walk r q (next r x) →
          cond b [] (x ∷ until r m (walk r n (next r x))) ≡ x ∷ walk r q (next r x)
      at true s ih = absurd (never 0 (omega arith) (laws.same_is x m s))
      at false s ih = ap (λ us. x ∷ us) ih

  module _ (u : T) (p : ℕ) (ring : Ring r u p) where
    -- a question leads from the ring onto the ring
    pub on_next : (x : T) → On r u p x → On r u p (next r x)
    on_next x o =
        elim (cases_lt (suc o.at) p) [
          | inl lt ↦ record { at = suc o.at; below = lt; is = follow_suc r o.at u ∙ ap (next r) o.is }
          | inr ge ↦ let lt = o.below in let e : p ≡ suc o.at = omega (arith, lt, ge) in
              record {
                at = 0;
                below = ring.some;
                is = sym ring.back ∙ ap (λ k. follow r k u) e ∙ follow_suc r o.at u
                    ∙ ap (next r) o.is;
              }
        ]

    -- and so do many of them
    pub on_follow : (n : ℕ) (x : T) → On r u p x → On r u p (follow r n x)
    on_follow zero x o = o
    on_follow (suc n) x o = on_follow n (next r x) (on_next x o)

    -- the task that the ring is told by is on it
    pub on_start : On r u p u
    on_start = record { at = 0; below = ring.some; is = refl }

    -- the rest of the way round
    home : (x : T) (o : On r u p x) → follow r (p - o.at) x ≡ u
    home x o = let lt = o.below in ap (follow r (p - o.at)) (sym o.is)
        ∙ sym (follow_add r o.at (p - o.at) p (omega (arith, lt)) u) ∙ ring.back

    -- from each task of the ring questions lead to each other one
    pub between : (x y : T) → On r u p x → On r u p y → (j : ℕ) × (j < p) × (follow r j x ≡ y)
    between x y a b =
        let la = a.below in
        let lb = b.below in
        elim (cases_lt b.at a.at) [
          | inl lt ↦ (
            (p - a.at) + b.at,
            omega (arith, la, lb, lt),
            follow_add r (p - a.at) b.at _ refl x
                ∙ ap (follow r b.at) (home x a) ∙ b.is,
          )
          | inr ge ↦ (
            b.at - a.at,
            omega (arith, la, lb, ge),
            ap (follow r (b.at - a.at)) (sym a.is)
                ∙ sym (follow_add r a.at (b.at - a.at) b.at (omega (arith, ge)) u) ∙ b.is,
          )
        ]

    -- a way that begins on the ring stays on it
    pub on_walk : (n : ℕ) (x z : T) → On r u p x → is_in r z (walk r n x) ≡ true → On r u p z
    on_walk n x z o h = let i = walk_in n x z h in subst (On r u p) i.2 (on_follow i.0 x o)

    -- a way as long as the ring meets all of it
    pub walk_on : (n : ℕ) (x z : T) → p ≤ n → On r u p x → On r u p z → is_in r z (walk r n x) ≡ true
    walk_on n x z le o b = let j = between x z o b in in_walk n j.0 x z (omega (arith, le, j.1)) j.2

    first_at : (m : T) → On r u p m → (j : ℕ) → 0 < j → j < p → follow r j m ≡ m → ⊥
    first_at m o j pos lt e =
        let k = p - o.at in
        ring.first j pos lt (ap (follow r j) (sym (home m o)) ∙ follow_comm r j k m ∙ ap (follow r k) e ∙ home m o)

    circle_is : (m : T) → On r u p m → circle_of r m ≡ walk r p m
    circle_is m o = at p refl
      where
        at : (q : ℕ) → p ≡ q → circle_of r m ≡ walk r q m
        at zero e = let s = ring.some in absurd (omega (arith, s))
        at (suc q) e =
            let s = ring.small in
            let h = between m m o o in
            let again : follow r (suc q) m ≡ m = ap (λ k. follow r k m) (sym e) ∙ ap (follow r p) (sym o.is)
            ∙ follow_comm r p o.at u ∙ ap (follow r o.at) ring.back ∙ o.is in
            ap (λ us. m ∷ us) (until_walk q (length r.tasks) (next r m) m (omega (arith, s, e)) again
            (λ j lt f. first_at m o (suc j) (omega arith) (omega (arith, e, lt)) f))

    on_task : (x : T) → On r u p x → is_task r x ≡ true
    on_task x o = subst (λ y. is_task r y ≡ true) o.is (follow_task o.at u ring.is)

    -- the ring that is named from x begins at the least
    pub ring_is : (x m : T) → On r u p x → On r u p m → ((z : T) → On r u p z → r.at_most m z ≡ true) →
        ring_of r x ≡ walk r p m
    ring_is x m ox om below =
        let n = length r.tasks in
        let l = least_is x (walk r n x) in
        let m' = least_of r x (walk r n x) in
        let om' : On r u p m' = elim (or_cases (r.same m' x) _ l.member)
        [ inl e ↦ subst (On r u p) (sym (laws.same_is m' x e)) ox | inr h ↦ on_walk n x m' ox h ] in
        let le : r.at_most m' m ≡ true = l.below m (or_right (r.same m x) _ (walk_on n x m ring.small ox om)) in
        let same : m' ≡ m = laws.equal m' m (on_task m' om') (on_task m om) le (below m' om') in
        ap (circle_of r) same ∙ circle_is m om

    -- each task on the ring asks
    pub asks_on : (x : T) → On r u p x → (w : T) × ((r.run x (known r)).answer ≡ Asks w)
    asks_on x o = let a = ring.asks o.at o.below in (a.0, subst (λ y. (r.run y (known r)).answer ≡ Asks a.0) o.is a.1)

    -- what leads to a ring has the ring's error for its blame
    pub blame_ring : (d : ℕ) (t m : T) → d ≤ length r.tasks → follow r d t ≡ u → On r u p m →
        ((z : T) → On r u p z → r.at_most m z ≡ true) → blame r t ≡ Circle (walk r p m)
    blame_ring d t m le f om below =
        let n = length r.tasks in
        let y = follow r (n - d) u in
        let s : follow r n t ≡ y = follow_add r d (n - d) n (omega arith) t ∙ ap (follow r (n - d)) f in
        let oy : On r u p y = on_follow (n - d) u on_start in
        let a = asks_on y oy in
        ap (cause_of r) s ∙ ap (cause_at r y) a.1 ∙ ap Circle (ring_is y m oy om below)
