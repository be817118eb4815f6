-- What the steps of a loader tell.
use Rattle.std.proofs.Common.{◌≡◌, ℕ, zero, suc, ◌+◌, ◌*◌, ◌-◌, ◌≤◌, ◌<◌, List, [], ◌∷◌, ◌++◌, length, Option, Some}
use Rattle.std.proofs.Common.{None, Bool, true, false, ◌⊎◌, inl, inr, refl, sym, ap, ◌∙◌, subst, arith, reverse, drop}
use Rattle.std.proofs.Common.{le_of_eq, slice_get}
use Rattle.by_need.specs.Asking.{Computation, Asks, Gives, Ask, Value, Error, Other, over}
use Rattle.by_need.specs.Rounds.{Rules, Needs, is_in, is_task, known}
use Rattle.by_need.specs.Blame.{Fault, Circle, Ended, blame}
use Rattle.by_need.specs.Laws.{Lawful}
use Rattle.by_need.specs.Load.{Defines}
use Rattle.by_need.specs.Order.{Load}
use Rattle.by_need.specs.Open.{Loading, AllTasks, first_or, left}
use Rattle.by_need.proofs.Rounds.{Part-refl}
use Rattle.std.proofs.lemmas.Bool.{or_from, or_cases, or_parts, or_left}
use Rattle.std.proofs.lemmas.List.{reverse-append}
use Rattle.by_need.proofs.Tables.{done_known, in_append_left, in_append_right}
use Rattle.by_need.proofs.Loads.{open_task, open_needed, ends_raised, ends_otherwise, ends_ring, chain_tasks}
use Rattle.by_need.proofs.Loads.{not_in_append}
use Rattle.by_need_loader.proofs.Opens.{asks_one_more, loading, pushed, popped, supplied, defined, never_alone}
use Rattle.by_need_loader.proofs.History.{enters, starts, fails_raised, fails_otherwise, fails_open, ends}
use Rattle.by_need_loader.proofs.History.{goes_back, there}
use Rattle.by_need_loader.proofs.Progress.{waits_some, waits_push, few_asks, waits_few, less_defined, less_entered}
use Rattle.std.proofs.lemmas.Option.{slice_get-get_or}
use Rattle.by_need_loader.specs.Ring.{IsTurned}
use Rattle.by_need_loader.specs.Steps.{Behind, Opened, SoFar, Before, Running, IsAt, IsReady, todo, asks_left}
use Rattle.by_need_loader.specs.Steps.{waits_left}
use Rattle.by_need_loader.specs.Steps.{wide}
use Rattle.by_need_loader.specs.declared.loader.Phase.{Phase}
use Rattle.by_need_loader.specs.declared.loader.Phase.TheVariants.{Asked, Looks, Lacks, Runs, Loaded}

unsnoc_on : {T : Type 0} (t : T) (ts : List T) → (ts ≡ []) ⊎ ((front : List T) × (s : T) × (ts ≡ front ++ s ∷ [])) →
    (front : List T) × (s : T) × (t ∷ ts ≡ front ++ s ∷ [])
unsnoc_on t ts (inl e) = ([], t, ap (λ xs. t ∷ xs) e)
unsnoc_on t ts (inr i) = (t ∷ i.0, i.1, ap (λ xs. t ∷ xs) i.2)

-- a list is empty, or has a last member
pub unsnoc : {T : Type 0} (ts : List T) → (ts ≡ []) ⊎ ((front : List T) × (s : T) × (ts ≡ front ++ s ∷ []))
unsnoc [] = inl refl
unsnoc (t ∷ ts) = inr (unsnoc_on t ts (unsnoc ts))

-- a look is at one task
pub looks_same : {T R : Type 0} (phase : Phase T R) (u w : T) → phase ≡ Looks u → phase ≡ Looks w → u ≡ w
looks_same phase u w p q = cc

split_at : {T : Type 0} (ts : List T) (i : ℕ) → i < length ts → (front : List T) × (y : T) × (mid : List T)
    × (slice_get ts i ≡ Some y) × (ts ≡ front ++ y ∷ mid) × (drop i ts ≡ y ∷ mid)
split_at [] i lt = absurd (omega (arith, lt))
split_at (t ∷ ts) zero lt = ([], t, ts, refl, refl, refl)
split_at (t ∷ ts) (suc i) lt = let s = split_at ts i (omega (arith, lt)) in
    (t ∷ s.0, s.1, s.2, s.3, ap (λ x. t ∷ x) s.4, s.5)

module _ {T V E O R W : Type 0} (r : Rules T V E O) (branch : W → V → Computation T V E O)
    (rest : R → Computation T V E O) (laws : Lawful r) where
  in_reverse : (u : T) (ts : List T) (b : Bool) → is_in r u ts ≡ b → is_in r u (reverse ts) ≡ b
  in_reverse u [] b h = h
  in_reverse u (x ∷ xs) true h =
      subst (λ ys. is_in r u ys ≡ true) (sym (reverse-append (x ∷ []) xs))
      (elim (or_cases (r.same u x) _ h) [
        | inl e ↦ in_append_right r laws u (reverse xs) (x ∷ [])
            (or_left (r.same u x) false e)
        | inr e ↦ in_append_left r laws u (reverse xs) (x ∷ []) (in_reverse u xs true e)
      ])
  in_reverse u (x ∷ xs) false h =
      let p = or_parts (r.same u x) _ h in
      subst (λ ys. is_in r u ys ≡ false) (sym (reverse-append (x ∷ []) xs))
      (not_in_append r laws u (reverse xs) (x ∷ []) (in_reverse u xs false p.1)
      (or_from (r.same u x) false p.0 refl))

  module _ (wanted : T) (J : T → Option V) (made : List (T × V)) (K : T → Option V) (ts : List T) (ws : List W) where
    -- the value of t is told, and the load goes on in this phase
    abbrev pub Defining : T → V → ℕ → Phase T R → Type 0
    Defining t v bound phase = IsReady phase × (K t ≡ None) × (known r t ≡ Some v) × Needs r wanted t
        × ((L : T → Option V) → Defines r K t v L → IsAt r branch rest wanted J (made ++ (t, v) ∷ []) L ts ws phase
        × (todo r branch rest L ts ws phase < bound))

    module _ (t : T) (m : R) (g : Running r branch rest wanted J made K ts ws t m) where
      answers : (c : Computation T V E O) → rest m ≡ c → (r.run t K).answer ≡ (over K c).answer
      answers c e = g.now.same K (Part-refl K) ∙ ap (λ x. (over K x).answer) e

      runs : Loading r wanted K ts t
      runs = loading r branch laws wanted K ts ws t g.opened g.lacks g.out

      runs_task : is_task r t ≡ true
      runs_task = open_task r laws wanted g.opened.is K ts t runs

      runs_tasks : AllTasks r (ts ++ t ∷ [])
      runs_tasks = chain_tasks r laws ts t K g.opened.part runs.chain (ap (is_task r) runs.start ∙ g.opened.is)

      -- an error is the blame of the wanted task
      pub tells_raised : (x : E) → rest m ≡ Gives (Error x) → (known r wanted ≡ None) × (blame r wanted ≡ Fault x)
          × Load r J wanted made K false
      tells_raised x e =
          let a = answers (Gives (Error x)) e in
          let b = ends_raised r laws wanted g.opened.is K ts t x runs a in
          (b.0, b.1, fails_raised r J wanted (reverse ts) t K made x g.begun g.so_far a)

      -- and so is an end of another kind
      pub tells_otherwise : (o : O) → rest m ≡ Gives (Other o) → (known r wanted ≡ None) × (blame r wanted ≡ Ended o)
          × Load r J wanted made K false
      tells_otherwise o e =
          let a = answers (Gives (Other o)) e in
          let b = ends_otherwise r laws wanted g.opened.is K ts t o runs a in
          (b.0, b.1, fails_otherwise r J wanted (reverse ts) t K made o g.begun g.so_far a)

      module _ (v : V) (bound : ℕ) (e : rest m ≡ Gives (Value v))
          (le : todo r branch rest K ts ws (Runs t m) ≤ bound) where
        value_known : known r t ≡ Some v
        value_known = done_known r laws t K v g.opened.part runs_task (answers (Gives (Value v)) e)

        -- the value of the wanted task is known
        pub tells_last : ts ≡ [] → Defining t v bound Loaded
        tells_last none =
            let is : t ≡ wanted = ap (first_or t) (sym none) ∙ g.opened.start in (
              tt,
              g.lacks,
              value_known,
              open_needed r laws wanted g.opened.is K ts t runs,
              λ L d. (
                (
                  v,
                  ap (known r) (sym is) ∙ value_known,
                  ap L (sym is) ∙ d.new,
                  ends r J wanted t K L made v g.begun
                      (subst (λ os. SoFar r J wanted (reverse os) t K made) none g.so_far)
                      (answers (Gives (Value v)) e) d,
                ),
                omega (arith, le),
              ),
            )

        -- the value of a task that others wait for is known
        pub tells_next : (u : T) → u ≡ t → (ts ≡ [] → ⊥) → Defining t v bound (Asked u)
        tells_next u same some =
            subst (λ x. Defining t v bound (Asked x)) (sym same) (
              tt,
              g.lacks,
              value_known,
              open_needed r laws wanted g.opened.is K ts t runs,
              λ L d. (
                (
                  defined r branch laws wanted K L ts ws t v g.opened g.lacks g.out value_known d,
                  before L d (unsnoc ts),
                ),
                less L d,
              ),
            )
          where
            before : (L : T → Option V) → Defines r K t v L → (ts ≡ [])
                ⊎ ((front : List T) × (s : T) × (ts ≡ front ++ s ∷ [])) →
                Before r J wanted (reverse ts) L (made ++ (t, v) ∷ [])
            before L d (inl e') = absurd (some e')
            before L d (inr i) =
                let q : reverse ts ≡ i.1 ∷ reverse i.0 = ap reverse i.2 ∙ reverse-append i.0 (i.1 ∷ []) in
                subst (λ os. Before r J wanted os L (made ++ (t, v) ∷ [])) (sym q) (
                  g.begun,
                  goes_back r J wanted (reverse i.0) i.1 t K L made v
                      (subst (λ os. SoFar r J wanted os t K made) q g.so_far) (answers (Gives (Value v)) e) d,
                )

            less : (L : T → Option V) → Defines r K t v L → todo r branch rest L ts ws (Asked t) < bound
            less L d =
                let lt = less_defined r branch laws K L ts t v (waits_left r branch ws t)
                (2 * asks_left r (rest m) + 1) g.lacks runs_task g.out d
                (waits_few r branch laws K ts ws t t runs_tasks g.opened.behind) in
                omega (arith, lt, le)

      -- the run asks, and waits
      pub asks_on : (u : T) (w : W) (more : List T) (pile : List W) → rest m ≡ Ask u (branch w) →
          more ≡ ts ++ t ∷ [] → pile ≡ ws ++ w ∷ [] → Opened r branch wanted K more pile u
          × Before r J wanted (reverse more) K made
          × (todo r branch rest K more pile (Looks u) < todo r branch rest K ts ws (Runs t m))
      asks_on u w more pile e f h = (
        pushed r branch laws wanted K ts more ws pile t u w g.opened g.lacks g.out (subst (Behind r K t) e g.now) f h,
        subst (λ os. Before r J wanted os K made) (sym (ap reverse f ∙ reverse-append ts (t ∷ []))) (g.begun, g.so_far),
        let a : waits_left r branch pile u ≡ asks_left r (rest m) = ap (λ ys. waits_left r branch ys u) h
            ∙ waits_push r branch ws u w ∙ ap (asks_left r) (sym e) in
            let b : left r K more * wide r ≡ left r K (ts ++ t ∷ []) * wide r = ap (λ xs. left r K xs * wide r) f in
            omega (arith, a, b),
      )

    -- a task that the table lacks
    module _ (u : T) (o : Opened r branch wanted K ts ws u) (b : Before r J wanted (reverse ts) K made)
        (n : K u ≡ None) where
      module _ (out : is_in r u ts ≡ false) (m : R) (begun : (L : T → Option V) → r.run u L ≡ over L (rest m)) where
        enters_now : Behind r K u (rest m)
        enters_now = record {
          same = λ L p. ap (λ x. x.answer) (begun L);
          fewer = le_of_eq (ap (λ x. length x.asked) (sym (begun (known r))));
        }

        history : (ts ≡ []) ⊎ ((front : List T) × (s : T) × (ts ≡ front ++ s ∷ [])) → (J wanted ≡ None)
            × SoFar r J wanted (reverse ts) u K made
        history (inl e) =
            let p = subst (λ os. Before r J wanted os K made) (ap reverse e) b in
            let is : u ≡ wanted = ap (first_or u) (sym e) ∙ o.start in (
              ap (λ M. M wanted) (sym p.1) ∙ ap K (sym is)
                  ∙ n,
              subst (λ os. SoFar r J wanted os u K made) (sym (ap reverse e))
                  (subst (λ x. SoFar r J wanted [] x K made) (sym is) (starts r J wanted K made p.0 p.1)),
            )
        history (inr i) = last (unsnoc ws)
          where
            last : (ws ≡ []) ⊎ ((pile : List W) × (w : W) × (ws ≡ pile ++ w ∷ [])) → (J wanted ≡ None)
                × SoFar r J wanted (reverse ts) u K made
            last (inl e) = absurd (never_alone r branch laws wanted K ts i.0 ws i.1 u o i.2 e)
            last (inr j) =
                let q : reverse ts ≡ i.1 ∷ reverse i.0 = ap reverse i.2 ∙ reverse-append i.0 (i.1 ∷ []) in
                let p = subst (λ os. Before r J wanted os K made) q b in
                let l = popped r branch laws wanted K ts i.0 ws j.0 i.1 u j.1 o i.2 j.2 in
                let a : (r.run i.1 K).answer ≡ Asks u = l.waits.same K (Part-refl K) ∙ rw n refl in (
                  p.0,
                  subst (λ os. SoFar r J wanted os u K made) (sym q)
                      (enters r J wanted (reverse i.0) i.1 u K made a
                      (subst (λ os. is_in r u os ≡ false) q (in_reverse u ts false out)) p.1),
                )

        -- the run of a task that the table lacks begins
        pub entered : (bound : ℕ) → todo r branch rest K ts ws (Lacks u) ≤ bound →
            Running r branch rest wanted J made K ts ws u m × (todo r branch rest K ts ws (Runs u m) ≤ bound)
        entered bound le =
            let is = open_task r laws wanted o.is K ts u (loading r branch laws wanted K ts ws u o n out) in
            let h = history (unsnoc ts) in
            let lt = less_entered r branch laws K ts u (asks_left r (rest m)) (2 * waits_left r branch ws u - 1) n is
            out (few_asks r branch laws K u (rest m) is enters_now) in (
              record { opened = o; lacks = n; out = out; now = enters_now; begun = h.0; so_far = h.1 },
              omega (arith, lt, le),
            )

      -- the ring is the blame of the wanted task
      pub tells_ring : (place : ℕ) (ring : List T) → place < length ts →
          ((x : T) → slice_get ts place ≡ Some x → r.same u x ≡ true) → IsTurned r.at_most (drop place ts) ring →
          (known r wanted ≡ None) × (blame r wanted ≡ Circle ring) × Load r J wanted made K false
      tells_ring place ring lt there turned = at (unsnoc ts) (unsnoc ws)
        where
          at : (ts ≡ []) ⊎ ((front : List T) × (s : T) × (ts ≡ front ++ s ∷ [])) → (ws ≡ [])
              ⊎ ((pile : List W) × (w : W) × (ws ≡ pile ++ w ∷ [])) → (known r wanted ≡ None)
              × (blame r wanted ≡ Circle ring) × Load r J wanted made K false
          at (inl e) z = let e' = ap length e in absurd (omega (arith, lt, e'))
          at (inr i) (inl e) = absurd (never_alone r branch laws wanted K ts i.0 ws i.1 u o i.2 e)
          at (inr i) (inr j) =
              let c = split_at ts place lt in
              let same : u ≡ c.1 = laws.same_is u c.1 (there c.1 c.3) in
              let split : ts ≡ c.0 ++ u ∷ c.2 = c.4 ∙ ap (λ x. c.0 ++ x ∷ c.2) (sym same) in
              let behind : drop place ts ≡ u ∷ c.2 = c.5 ∙ ap (λ x. x ∷ c.2) (sym same) in
              let q : IsTurned r.at_most (u ∷ c.2) ring = subst (λ xs. IsTurned r.at_most xs ring) behind turned in
              let l = popped r branch laws wanted K ts i.0 ws j.0 i.1 u j.1 o i.2 j.2 in
              let a : (r.run i.1 K).answer ≡ Asks u = l.waits.same K (Part-refl K) ∙ rw n refl in
              let d = ends_ring r laws wanted o.is K i.0 i.1 u c.0 c.2 q.place
              (loading r branch laws wanted K i.0 j.0 i.1 l.opened l.lacks l.out) a (sym i.2 ∙ split) q.within
              (λ k w. q.least _ _ k (slice_get-get_or (u ∷ c.2) q.place u q.within)
              (slice_get-get_or (u ∷ c.2) k u w)) in
              let e : reverse ts ≡ i.1 ∷ reverse i.0 = ap reverse i.2 ∙ reverse-append i.0 (i.1 ∷ []) in
              let p = subst (λ os. Before r J wanted os K made) e b in
              let here : is_in r u ts ≡ true = subst (λ xs. is_in r u xs ≡ true) (sym split)
              (in_append_right r laws u c.0 (u ∷ c.2) (or_left (r.same u u) _ (laws.same_self u))) in (
                d.0,
                d.1 ∙ ap Circle (sym q.is),
                fails_open r J wanted (reverse i.0) i.1 u K made p.0 p.1 a
                    (subst (λ os. is_in r u os ≡ true) e (in_reverse u ts true here)),
              )

    -- a value that is there
    module _ (u : T) (v : V) (o : Opened r branch wanted K ts ws u) (b : Before r J wanted (reverse ts) K made)
        (h : K u ≡ Some v) where
      -- where no task is open the wanted one is loaded
      pub resumes_none : ts ≡ [] → IsAt r branch rest wanted J made K ts ws Loaded
          × (0 < todo r branch rest K ts ws (Looks u))
      resumes_none e =
          let p = subst (λ os. Before r J wanted os K made) (ap reverse e) b in
          let is : u ≡ wanted = ap (first_or u) (sym e) ∙ o.start in
          let k : K wanted ≡ Some v = ap K (sym is) ∙ h in
          let some = waits_some r branch ws u in
          ((v, o.part.keeps wanted v k, k, there r J wanted v K made p.0 p.1 k), omega (arith, some))

      -- the latest open task goes on with the value
      pub resumes_some : (front : List T) (pile : List W) (s : T) (w : W) (m : R) → ts ≡ front ++ s ∷ [] →
          ws ≡ pile ++ w ∷ [] → rest m ≡ branch w v → Running r branch rest wanted J made K front pile s m
          × (todo r branch rest K front pile (Runs s m) < todo r branch rest K ts ws (Looks u))
      resumes_some front pile s w m e f g =
          let l = popped r branch laws wanted K ts front ws pile s u w o e f in
          let p = subst (λ os. Before r J wanted os K made) (ap reverse e ∙ reverse-append front (s ∷ [])) b in
          let one = asks_one_more r branch u v (branch w) (o.part.keeps u v h) in
          let a : waits_left r branch ws u ≡ asks_left r (Ask u (branch w)) = ap (λ ys. waits_left r branch ys u) f
          ∙ waits_push r branch pile u w in
          let c : asks_left r (rest m) ≡ asks_left r (branch w v) = ap (asks_left r) g in
          let d : left r K ts * wide r ≡ left r K (front ++ s ∷ []) * wide r = ap (λ xs. left r K xs * wide r) e in (
            record {
              opened = l.opened;
              lacks = l.lacks;
              out = l.out;
              now = supplied r branch laws wanted K s u v (branch w) (rest m) o.part h g l.waits;
              begun = p.0;
              so_far = p.1;
            },
            omega (arith, one, a, c, d),
          )

    -- the answers to a look
    pub answered_none : (phase : Phase T R) (u task : T) (found : Option V) → phase ≡ Looks u → phase ≡ Looks task →
        found ≡ K u → found ≡ None → IsAt r branch rest wanted J made K ts ws phase → Unit {0}
        × IsAt r branch rest wanted J made K ts ws (Lacks task)
        × (todo r branch rest K ts ws (Lacks task) < todo r branch rest K ts ws phase)
    answered_none phase u task found p q f n h =
        let same : u ≡ task = looks_same phase u task p q in
        let o = rw q at h in
        let some = waits_some r branch ws task in
        let lt : todo r branch rest K ts ws (Lacks task) < todo r branch rest K ts ws (Looks task) =
        omega (arith, some) in (
          tt,
          (o.0, o.1, ap K (sym same) ∙ sym f ∙ n),
          subst (λ x. todo r branch rest K ts ws (Lacks task) < todo r branch rest K ts ws x) (sym q) lt,
        )
