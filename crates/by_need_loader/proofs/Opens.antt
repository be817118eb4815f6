-- The open tasks of a loader, and their waiting runs.
use Rattle.std.proofs.Common.{◌≡◌, ◌+◌, List, [], ◌∷◌, ◌++◌, Option, Some, None, false, refl, sym, ap, ◌∙◌, subst}
use Rattle.std.proofs.Common.{arith}
use Rattle.by_need.specs.Asking.{Computation, Ask}
use Rattle.by_need.specs.Rounds.{Rules, Part, is_in, known}
use Rattle.by_need.specs.Laws.{Lawful}
use Rattle.by_need.specs.Load.{Defines}
use Rattle.by_need.specs.Open.{Chain, NoneKnown, Apart, Loading, first_or}
use Rattle.by_need.proofs.Rounds.{Part-refl, Part-trans}
use Rattle.by_need.proofs.Loads.{apart_push, apart_front, apart_last, first_push, none_kept, none_front, none_last}
use Rattle.by_need.proofs.Loads.{defines_part, defines_grows}
use Rattle.by_need_loader.specs.Steps.{Behind, AllBehind, Opened, asks_left}

-- unknown tasks with one more
pub none_push : {T V : Type 0} (K : T → Option V) (ts : List T) (t : T) → NoneKnown K ts → K t ≡ None →
    NoneKnown K (ts ++ t ∷ [])
none_push K [] t n h = (h, tt)
none_push K (x ∷ ts) t n h = (n.0, none_push K ts t n.1 h)

-- the first of unknown tasks
pub none_at : {T V : Type 0} (K : T → Option V) (ts : List T) (u : T) → NoneKnown K ts → K u ≡ None →
    K (first_or u ts) ≡ None
none_at K [] u n h = h
none_at K (x ∷ ts) u n h = n.0

module _ {T V E O W : Type 0} (r : Rules T V E O) (branch : W → V → Computation T V E O) where
  Behind-grow : (K L : T → Option V) (t : T) (c : Computation T V E O) → Part K L → Behind r K t c → Behind r L t c
  Behind-grow K L t c p b = record { same = λ N q. b.same N (Part-trans p q); fewer = b.fewer }

  AllBehind-grow : (K L : T → Option V) → Part K L → (ts : List T) (ws : List W) (u : T) →
      AllBehind r branch K ts ws u → AllBehind r branch L ts ws u
  AllBehind-grow K L p [] [] u b = tt
  AllBehind-grow K L p (t ∷ ts) (w ∷ ws) u b = (Behind-grow K L t _ p b.0, AllBehind-grow K L p ts ws u b.1)
  AllBehind-grow K L p [] (w ∷ ws) u b = absurd b
  AllBehind-grow K L p (t ∷ ts) [] u b = absurd b

  AllBehind-push : (K : T → Option V) (ts : List T) (ws : List W) (t u : T) (w : W) → AllBehind r branch K ts ws t →
      Behind r K t (Ask u (branch w)) → AllBehind r branch K (ts ++ t ∷ []) (ws ++ w ∷ []) u
  AllBehind-push K [] [] t u w b h = (h, tt)
  AllBehind-push K (x ∷ []) (y ∷ ws) t u w b h = (b.0, AllBehind-push K [] ws t u w b.1 h)
  AllBehind-push K (x ∷ z ∷ ts) (y ∷ ws) t u w b h = (b.0, AllBehind-push K (z ∷ ts) ws t u w b.1 h)
  AllBehind-push K [] (y ∷ ws) t u w b h = absurd b
  AllBehind-push K (x ∷ ts) [] t u w b h = absurd b

  AllBehind-pop : (K : T → Option V) (ts : List T) (ws : List W) (t u : T) (w : W) →
      AllBehind r branch K (ts ++ t ∷ []) (ws ++ w ∷ []) u → AllBehind r branch K ts ws t
      × Behind r K t (Ask u (branch w))
  AllBehind-pop K [] [] t u w b = (tt, b.0)
  AllBehind-pop K (x ∷ []) (y ∷ ws) t u w b = let i = AllBehind-pop K [] ws t u w b.1 in ((b.0, i.0), i.1)
  AllBehind-pop K (x ∷ z ∷ ts) (y ∷ ws) t u w b = let i = AllBehind-pop K (z ∷ ts) ws t u w b.1 in ((b.0, i.0), i.1)
  AllBehind-pop K [] (y ∷ []) t u w b = absurd b.1
  AllBehind-pop K [] (y ∷ z ∷ ws) t u w b = absurd b.1
  AllBehind-pop K (x ∷ []) [] t u w b = absurd b.1
  AllBehind-pop K (x ∷ z ∷ ts) [] t u w b = absurd b.1

  AllBehind-none : (K : T → Option V) (ts : List T) (t u : T) → AllBehind r branch K (ts ++ t ∷ []) [] u → ⊥
  AllBehind-none K [] t u b = b
  AllBehind-none K (x ∷ ts) t u b = b

  -- where u is not known either, each open task asks for the next
  pub chain_of : (K : T → Option V) (ts : List T) (ws : List W) (u : T) → NoneKnown K ts → K u ≡ None →
      AllBehind r branch K ts ws u → Chain r K ts u
  chain_of K [] ws u n h b = tt
  chain_of K (t ∷ ts) (w ∷ ws) u n h b =
      (b.0.same K (Part-refl K) ∙ rw (none_at K ts u n.1 h) refl, chain_of K ts ws u n.1 h b.1)
  chain_of K (t ∷ ts) [] u n h b = absurd b

  -- a question that is known is one less
  pub asks_one_more : (u : T) (v : V) (k : V → Computation T V E O) → known r u ≡ Some v →
      asks_left r (Ask u k) ≡ 1 + asks_left r (k v)
  asks_one_more u v k h = rw h (omega arith)

  module _ (laws : Lawful r) (wanted : T) (K : T → Option V) where
    -- with a task that is not open the open tasks are a load of the theory
    pub loading : (ts : List T) (ws : List W) (u : T) → Opened r branch wanted K ts ws u → K u ≡ None →
        is_in r u ts ≡ false → Loading r wanted K ts u
    loading ts ws u o n out = record {
      part = o.part;
      chain = chain_of K ts ws u o.none n o.behind;
      start = o.start;
      fresh = ap K (sym o.start) ∙ none_at K ts u o.none n;
      apart = apart_push r laws ts u o.apart out;
    }

    -- the run of t asks for u, and waits
    pub pushed : (ts more : List T) (ws pile : List W) (t u : T) (w : W) → Opened r branch wanted K ts ws t →
        K t ≡ None → is_in r t ts ≡ false → Behind r K t (Ask u (branch w)) → more ≡ ts ++ t ∷ [] →
        pile ≡ ws ++ w ∷ [] → Opened r branch wanted K more pile u
    pushed ts more ws pile t u w o n out b e f =
        subst (λ xs. Opened r branch wanted K xs pile u) (sym e)
        (subst (λ ys. Opened r branch wanted K (ts ++ t ∷ []) ys u) (sym f) (record {
          is = o.is;
          part = o.part;
          start = first_push r laws ts t u ∙ o.start;
          none = none_push K ts t o.none n;
          apart = apart_push r laws ts t o.apart out;
          behind = AllBehind-push K ts ws t u w o.behind b;
        }))

    -- the latest open task
    pub record Popped (front : List T) (pile : List W) (s u : T) (w : W) : Type 0 where
      pub opened : Opened r branch wanted K front pile s
      pub lacks : K s ≡ None
      pub out : is_in r s front ≡ false
      pub waits : Behind r K s (Ask u (branch w))

    -- the open tasks without the latest
    pub popped : (ts front : List T) (ws pile : List W) (s u : T) (w : W) → Opened r branch wanted K ts ws u →
        ts ≡ front ++ s ∷ [] → ws ≡ pile ++ w ∷ [] → Popped front pile s u w
    popped ts front ws pile s u w o e f =
        let b = AllBehind-pop K front pile s u w
        (subst (λ ys. AllBehind r branch K (front ++ s ∷ []) ys u) f
        (subst (λ xs. AllBehind r branch K xs ws u) e o.behind)) in
        let none : NoneKnown K (front ++ s ∷ []) = subst (NoneKnown K) e o.none in
        let apart : Apart r (front ++ s ∷ []) = subst (Apart r) e o.apart in
        record {
          opened = record {
            is = o.is;
            part = o.part;
            start = sym (first_push r laws front s u) ∙ ap (first_or u) (sym e) ∙ o.start;
            none = none_front r laws front s K none;
            apart = apart_front r laws front (s ∷ []) apart;
            behind = b.0;
          };
          lacks = none_last r laws front s K none;
          out = apart_last r laws front s apart;
          waits = b.1;
        }

    -- a value that is there lets the waiting run go on
    pub supplied : (s u : T) (v : V) (k : V → Computation T V E O) (c : Computation T V E O) → Part K (known r) →
        K u ≡ Some v → c ≡ k v → Behind r K s (Ask u k) → Behind r K s c
    supplied s u v k c p h e b =
        let one = asks_one_more u v k (p.keeps u v h) in
        let fewer = b.fewer in
        subst (Behind r K s) (sym e) (record {
          same = λ L q. b.same L q ∙ rw (q.keeps u v h) refl;
          fewer = omega (arith, one, fewer);
        })

    -- over a table with the value of t, the tasks that waited for t wait as before
    pub defined : (L : T → Option V) (ts : List T) (ws : List W) (t : T) (v : V) → Opened r branch wanted K ts ws t →
        K t ≡ None → is_in r t ts ≡ false → known r t ≡ Some v → Defines r K t v L → Opened r branch wanted L ts ws t
    defined L ts ws t v o n out k d = record {
      is = o.is;
      part = defines_part r laws K L t v o.part k d;
      start = o.start;
      none = none_kept r laws ts K L t v d out o.none;
      apart = o.apart;
      behind = AllBehind-grow K L (defines_grows r laws K L t v n d) ts ws t o.behind;
    }

    -- no task is open without its run
    pub never_alone : (ts front : List T) (ws : List W) (s u : T) → Opened r branch wanted K ts ws u →
        ts ≡ front ++ s ∷ [] → ws ≡ [] → ⊥
    never_alone ts front ws s u o e f =
        AllBehind-none K front s u
        (subst (λ ys. AllBehind r branch K (front ++ s ∷ []) ys u) f
        (subst (λ xs. AllBehind r branch K xs ws u) e o.behind))
