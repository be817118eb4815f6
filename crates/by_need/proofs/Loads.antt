-- A load, step by step: the tasks that are open, each asking for the next, over a table that grows.
use Rattle.std.proofs.Common.{◌≡◌, ℕ, zero, suc, ◌+◌, ◌-◌, ◌≤◌, ◌<◌, List, [], ◌∷◌, ◌++◌, length, Option, Some, None}
use Rattle.std.proofs.Common.{Bool, true, false, inl, inr, refl, sym, ap, ◌∙◌, subst, subst₂, ap₂, arith, take}
use Rattle.std.proofs.Common.{drop, get_or, length-append}
use Rattle.std.specs.List.{AllByRecursion, IsDistinct}
use Rattle.std.specs.Cmp.{IsEquivalence}
use Rattle.std.proofs.lemmas.Map.Made.{length-le_from_is_member}
use Rattle.std.proofs.lemmas.List.Folds.{list_any-append}
use Rattle.std.proofs.lemmas.Bool.{false≢true, or_from, or_cases, or_parts}
use Rattle.by_need.proofs.Rounds.{lacks}
use Rattle.by_need.proofs.Tables.{Chain, NoneKnown, first_or, asks_task, asks_needs, raised_known}
use Rattle.by_need.proofs.Tables.{raised_lost, otherwise_known, otherwise_lost, chain_lost, ring_lost}
use Rattle.by_need.proofs.Tables.{chain_push, chain_front, chain_back}
use Rattle.by_need.proofs.Blames.{Ring, in_walk, blame_raised, blame_otherwise, blame_ring, chain_follow, chain_walk}
use Rattle.by_need.proofs.Blames.{chain_asks, walk_add, drop-walk, take-walk, get_or-walk, follow_add}
use Rattle.by_need.specs.Asking.{Raised, Asks, Otherwise}
use Rattle.by_need.specs.Rounds.{Rules, Part, Needs, is_in, is_task, known}
use Rattle.by_need.specs.Blame.{Fault, Circle, Ended, next, follow, walk, blame}
use Rattle.by_need.specs.Laws.{Lawful}
use Rattle.by_need.specs.Load.{Defines}
pub use Rattle.by_need.specs.Open.{Apart, AllTasks, Loading}

module _ {T V E O : Type 0} (r : Rules T V E O) (laws : Lawful r) where
  -- to differ goes both ways
  pub differ : (a b : T) → r.same a b ≡ false → r.same b a ≡ false
  differ a b e = at (r.same b a) refl
    where
      at : (c : Bool) → r.same b a ≡ c → r.same b a ≡ false
      at true f = absurd (false≢true
          (sym e ∙ subst (λ x. r.same a x ≡ true) (sym (laws.same_is b a f)) (laws.same_self a)))
      at false f = f

  -- what is in neither of two lists is not in both together
  pub not_in_append : (x : T) (ts us : List T) → is_in r x ts ≡ false → is_in r x us ≡ false →
      is_in r x (ts ++ us) ≡ false
  not_in_append x ts us h k = list_any-append (r.same x) ts us ∙ or_from (is_in r x ts) _ h k

  not_in_parts : (x : T) (ts us : List T) → is_in r x (ts ++ us) ≡ false → (is_in r x ts ≡ false)
      × (is_in r x us ≡ false)
  not_in_parts x ts us h = or_parts (is_in r x ts) _ (sym (list_any-append (r.same x) ts us) ∙ h)

  -- a task that is not in the list may stand behind it
  pub apart_push : (ts : List T) (u : T) → Apart r ts → is_in r u ts ≡ false → Apart r (ts ++ u ∷ [])
  apart_push [] u a h = (refl, tt)
  apart_push (t ∷ ts) u a h =
      let p = or_parts (r.same u t) _ h in
      (not_in_append t ts (u ∷ []) a.0 (or_from (r.same t u) false (differ u t p.0) refl), apart_push ts u a.1 p.1)

  -- the front of tasks that stand apart
  pub apart_front : (ts us : List T) → Apart r (ts ++ us) → Apart r ts
  apart_front [] us a = tt
  apart_front (t ∷ ts) us a = ((not_in_parts t ts us a.0).0, apart_front ts us a.1)

  -- the back of tasks that stand apart
  pub apart_back : (ts us : List T) → Apart r (ts ++ us) → Apart r us
  apart_back [] us a = a
  apart_back (t ∷ ts) us a = apart_back ts us a.1

  -- no task of the front is the last one
  pub apart_last : (ts : List T) (t : T) → Apart r (ts ++ t ∷ []) → is_in r t ts ≡ false
  apart_last [] t a = refl
  apart_last (x ∷ ts) t a =
      let p = or_parts (r.same x t) false (not_in_parts x ts (t ∷ []) a.0).1 in
      or_from (r.same t x) _ (differ x t p.0) (apart_last ts t a.1)

  -- the first task stays where one is put behind all
  pub first_push : (ts : List T) (t u : T) → first_or u (ts ++ t ∷ []) ≡ first_or t ts
  first_push [] t u = refl
  first_push (x ∷ ts) t u = refl

  -- a chain that begins with a task has tasks alone
  pub chain_tasks : (ts : List T) (t : T) (K : T → Option V) → Part K (known r) → Chain r K ts t →
      is_task r (first_or t ts) ≡ true → AllTasks r (ts ++ t ∷ [])
  chain_tasks [] t K p c h = (h, tt)
  chain_tasks (x ∷ ts) t K p c h = (h, chain_tasks ts t K p c.1 (asks_task r laws x K (first_or t ts) p c.0))

  -- and leads to a task
  pub chain_last_task : (ts : List T) (t : T) (K : T → Option V) → Part K (known r) → Chain r K ts t →
      is_task r (first_or t ts) ≡ true → is_task r t ≡ true
  chain_last_task [] t K p c h = h
  chain_last_task (x ∷ ts) t K p c h = chain_last_task ts t K p c.1 (asks_task r laws x K (first_or t ts) p c.0)

  chain_needs : (s : T) (ts : List T) (t : T) (K : T → Option V) → Part K (known r) → Needs r s (first_or t ts) →
      Chain r K ts t → Needs r s t
  chain_needs s [] t K p n c = n
  chain_needs s (x ∷ ts) t K p n c = chain_needs s ts t K p (asks_needs r laws s x K (first_or t ts) p n c.0) c.1

  -- what is known of the tasks of a chain over K
  pub chain_none : (ts : List T) (t : T) (K : T → Option V) → K (first_or t ts) ≡ None → Chain r K ts t →
      NoneKnown K ts × (K t ≡ None)
  chain_none [] t K n c = (tt, n)
  chain_none (x ∷ ts) t K n c = let i = chain_none ts t K (lacks r laws x K (first_or t ts) c.0) c.1 in ((n, i.0), i.1)

  -- a define of another task leaves the list unknown
  pub none_kept : (ts : List T) (K L : T → Option V) (t : T) (v : V) → Defines r K t v L → is_in r t ts ≡ false →
      NoneKnown K ts → NoneKnown L ts
  none_kept [] K L t v d h n = tt
  none_kept (x ∷ ts) K L t v d h n =
      let p = or_parts (r.same t x) _ h in
      (d.old x (differ t x p.0) ∙ n.0, none_kept ts K L t v d p.1 n.1)

  -- the front of unknown tasks
  pub none_front : (ts : List T) (s : T) (L : T → Option V) → NoneKnown L (ts ++ s ∷ []) → NoneKnown L ts
  none_front [] s L n = tt
  none_front (x ∷ ts) s L n = (n.0, none_front ts s L n.1)

  -- the last of unknown tasks
  pub none_last : (ts : List T) (s : T) (L : T → Option V) → NoneKnown L (ts ++ s ∷ []) → L s ≡ None
  none_last [] s L n = n.0
  none_last (x ∷ ts) s L n = none_last ts s L n.1

  -- as many tasks are open as there are, at most
  equivalence : IsEquivalence r.same
  equivalence = record {
    refl = laws.same_self;
    symm = λ x y. at x y (r.same x y) refl;
    congr = λ x y z h. ap (λ w. r.same w z) (laws.same_is x y h);
  }
    where
      at : (x y : T) (b : Bool) → r.same x y ≡ b → r.same x y ≡ r.same y x
      at x y true e = let i = laws.same_is x y e in
          subst (λ w. r.same x y ≡ r.same w x) i (subst (λ w. r.same x w ≡ r.same x x) i refl)
      at x y false e = e ∙ sym (differ x y e)

  apart_distinct : (ts : List T) → Apart r ts → IsDistinct r.same ts
  unfolding IsDistinct
  apart_distinct [] a = tt
  apart_distinct (t ∷ ts) a = (each ts t a.0, apart_distinct ts a.1)
    where
      each : (us : List T) (t : T) → is_in r t us ≡ false → AllByRecursion (λ u. r.same t u ≡ false) us
      each us t h = elim us as (λ us. is_in r t us ≡ false → AllByRecursion (λ u. r.same t u ≡ false) us)
          [ [] ↦ λ h. tt | ◌∷◌ x (us → ih) ↦ λ h. let p = or_parts (r.same t x) _ h in (p.0, ih p.1) ] h

  tasks_each : (ts : List T) → AllTasks r ts → (t : T) → is_in r t ts ≡ true → is_task r t ≡ true
  tasks_each [] a t h = absurd (false≢true h)
  tasks_each (x ∷ ts) a t h =
      elim (or_cases (r.same t x) _ h) [
        | inl e ↦ subst (λ y. is_task r y ≡ true) (sym (laws.same_is t x e)) a.0
        | inr e ↦ tasks_each ts a.1 t e
      ]

  -- tasks that stand apart are as many as all tasks, at most
  pub few : (ts : List T) → Apart r ts → AllTasks r ts → length ts ≤ length r.tasks
  few ts a h = length-le_from_is_member equivalence ts r.tasks (apart_distinct ts a) (tasks_each ts h)

  -- a table with one known value more is still part of what is known
  pub defines_part : (K L : T → Option V) (t : T) (v : V) → Part K (known r) → known r t ≡ Some v →
      Defines r K t v L → Part L (known r)
  defines_part K L t v p k d = record { keeps = λ u w h. at u w h (r.same u t) refl }
    where
      at : (u : T) (w : V) → L u ≡ Some w → (b : Bool) → r.same u t ≡ b → known r u ≡ Some w
      at u w h true e = let i = laws.same_is u t e in ap (known r) i ∙ k ∙ sym d.new ∙ ap L (sym i) ∙ h
      at u w h false e = p.keeps u w (sym (d.old u e) ∙ h)

  -- and the table before is part of it
  pub defines_grows : (K L : T → Option V) (t : T) (v : V) → K t ≡ None → Defines r K t v L → Part K L
  defines_grows K L t v n d = record { keeps = λ u w h. at u w h (r.same u t) refl }
    where
      at : (u : T) (w : V) → K u ≡ Some w → (b : Bool) → r.same u t ≡ b → L u ≡ Some w
      at u w h true e = let i = ap K (laws.same_is u t e) in absurd cc
      at u w h false e = d.old u e ∙ h

  module _ (task : T) (is : is_task r task ≡ true) where
    -- no open task is in the table, nor is the one that runs
    pub open_none : (K : T → Option V) (ts : List T) (t : T) → Loading r task K ts t → NoneKnown K ts × (K t ≡ None)
    open_none K ts t l = chain_none ts t K (ap K l.start ∙ l.fresh) l.chain

    -- the task that runs is a task
    pub open_task : (K : T → Option V) (ts : List T) (t : T) → Loading r task K ts t → is_task r t ≡ true
    open_task K ts t l = chain_last_task ts t K l.part l.chain (ap (is_task r) l.start ∙ is)

    -- the wanted task needs it
    pub open_needed : (K : T → Option V) (ts : List T) (t : T) → Loading r task K ts t → Needs r task t
    open_needed K ts t l = chain_needs task ts t K l.part (subst (Needs r task) (sym l.start) Needs.itself) l.chain

    -- the open tasks are as many as all tasks, at most
    pub open_few : (K : T → Option V) (ts : List T) (t : T) → Loading r task K ts t →
        length (ts ++ t ∷ []) ≤ length r.tasks
    open_few K ts t l = few (ts ++ t ∷ []) l.apart (chain_tasks ts t K l.part l.chain (ap (is_task r) l.start ∙ is))

    -- a run raises: the error is the blame of the wanted task
    pub ends_raised : (K : T → Option V) (ts : List T) (t : T) (e : E) → Loading r task K ts t →
        (r.run t K).answer ≡ Raised e → (known r task ≡ None) × (blame r task ≡ Fault e)
    ends_raised K ts t e l h =
        let h' = raised_known r laws t K e l.part h in
        let c = chain_lost r laws ts K t l.part (raised_lost r laws t e h') l.chain in
        let n = open_few K ts t l in (
          ap (known r) (sym l.start) ∙ c.1,
          ap (blame r) (sym l.start)
              ∙ blame_raised r (length ts) (first_or t ts) t e (omega (arith, n, length-append ts (t ∷ [])))
              (chain_follow r ts t c.0) h',
        )

    -- a run ends otherwise: that is the blame of the wanted task
    pub ends_otherwise : (K : T → Option V) (ts : List T) (t : T) (o : O) → Loading r task K ts t →
        (r.run t K).answer ≡ Otherwise o → (known r task ≡ None) × (blame r task ≡ Ended o)
    ends_otherwise K ts t o l h =
        let h' = otherwise_known r laws t K o l.part h in
        let c = chain_lost r laws ts K t l.part (otherwise_lost r laws t o h') l.chain in
        let n = open_few K ts t l in (
          ap (known r) (sym l.start) ∙ c.1,
          ap (blame r) (sym l.start)
              ∙ blame_otherwise r (length ts) (first_or t ts) t o (omega (arith, n, length-append ts (t ∷ [])))
              (chain_follow r ts t c.0) h',
        )

    -- a run asks for an open task: the ring from there, turned to its least, is the blame of the wanted task
    pub ends_ring : (K : T → Option V) (ts : List T) (t u : T) (front mid : List T) (i : ℕ) → Loading r task K ts t →
        (r.run t K).answer ≡ Asks u → ts ++ t ∷ [] ≡ front ++ u ∷ mid → i < length (u ∷ mid) →
        ((k : ℕ) → k < length (u ∷ mid) → r.at_most (get_or (u ∷ mid) i u) (get_or (u ∷ mid) k u) ≡ true) →
        (known r task ≡ None) × (blame r task ≡ Circle (drop i (u ∷ mid) ++ take i (u ∷ mid)))
    ends_ring K ts t u front mid i l e split lt least =
        let ring = u ∷ mid in
        let p = length ring in
        let c : Chain r K (front ++ ring) u = subst (λ us. Chain r K us u) split
        (chain_push r laws ts K t u l.chain e) in
        let lost = ring_lost r laws mid u K l.part (chain_back r laws front ring K u c) in
        let d = chain_lost r laws (front ++ ring) K u l.part lost c in
        let n : length (front ++ ring) ≤ length r.tasks = subst (λ us. length us ≤ length r.tasks) split
        (open_few K ts t l) in
        let apart : Apart r ring = apart_back front ring (subst (Apart r) split l.apart) in
        let round : Chain r (known r) ring u = chain_back r laws front ring (known r) u d.0 in
        let walks : walk r p u ≡ ring = chain_walk r ring u round in
        let first : first_or u (front ++ ring) ≡ task = ap (first_or u) (sym split) ∙ first_push ts t u ∙ l.start in
        let le : p + length front ≤ length r.tasks = omega (arith, n, length-append front ring) in
        let is_ring : Ring r u p = record {
          is = asks_task r laws t K u l.part e;
          some = omega arith;
          small = omega (arith, le);
          back = chain_follow r ring u round;
          first = λ j pos below f. never mid u apart.0 walks j pos below f;
          asks = chain_asks r ring u round;
        } in
        let m = follow r i u in
        let reads : (k : ℕ) → k < p → get_or ring k u ≡ follow r k u = λ k b. ap (λ us. get_or us k u) (sym walks)
        ∙ get_or-walk r k p u u b in
        let b = blame_ring r laws u p is_ring (length front) (first_or u front) m (omega (arith, le))
        (chain_follow r front u (chain_front r laws front mid (known r) u u d.0))
        (record { at = i; below = lt; is = refl })
        (λ z o. subst₂ (λ x y. r.at_most x y ≡ true) (reads i lt) (reads o.at o.below ∙ o.is)
        (least o.at o.below)) in
        let home : follow r (p - i) m ≡ u = sym (follow_add r i (p - i) p (omega (arith, lt)) u) ∙ is_ring.back in
        let turned : drop i ring ++ take i ring ≡ walk r p m = ap (λ us. drop i us ++ take i us) (sym walks)
        ∙ ap₂ (λ x y. x ++ y) (drop-walk r i p u (omega (arith, lt))) (take-walk r i p u (omega (arith, lt)))
        ∙ ap (λ x. walk r (p - i) m ++ walk r i x) (sym home)
        ∙ sym (walk_add r (p - i) i p (omega (arith, lt)) m) in (
          ap (known r) (sym first) ∙ d.1,
          ap (blame r) (sym (first_front front u mid ∙ first)) ∙ b
              ∙ ap Circle (sym turned),
        )
      where
        never : (mid : List T) (u : T) → is_in r u mid ≡ false → walk r (length (u ∷ mid)) u ≡ u ∷ mid → (j : ℕ) →
            0 < j → j < length (u ∷ mid) → follow r j u ≡ u → ⊥
        never mid u out w zero pos below f = omega (arith, pos)
        never mid u out w (suc j) pos below f =
            let w' : walk r (length mid) (next r u) ≡ mid = cc w in
            let at = in_walk r laws (length mid) j (next r u) u (omega (arith, below)) f in
            false≢true (sym out ∙ subst (λ us. is_in r u us ≡ true) w' at)

        first_front : (front : List T) (u : T) (mid : List T) → first_or u front ≡ first_or u (front ++ u ∷ mid)
        first_front [] u mid = refl
        first_front (x ∷ front) u mid = refl
