-- What a run over a part of what is known tells.
use Rattle.std.proofs.Common.{◌≡◌, ℕ, zero, suc, ◌≤◌, ◌<◌, List, [], ◌∷◌, ◌++◌, length, Option, Some, None, true, false}
use Rattle.std.proofs.Common.{is_some, inl, inr, sym, ap, ◌∙◌, subst, arith}
use Rattle.std.proofs.lemmas.List.Folds.{list_any-append}
use Rattle.std.proofs.lemmas.Bool.{false≢true, or_right, or_left}
use Rattle.by_need.proofs.Counts.{some_value, some_is, none_or_some}
use Rattle.by_need.proofs.Rounds.{round-le, known_gives, known_takes, origin, grow_done, grow_raised, grow_otherwise}
use Rattle.by_need.proofs.Rounds.{grow_asks}
use Rattle.by_need.specs.Asking.{Answer, Done, Raised, Asks, Otherwise}
use Rattle.by_need.specs.Rounds.{Rules, Part, Needs, is_in, is_task, round, known}
use Rattle.by_need.specs.Laws.{Lawful, EndsWith}
pub use Rattle.by_need.specs.Open.{first_or, Chain, NoneKnown}

asks_same : {T V E O : Type 0} {a : Answer T V E O} {u w : T} → a ≡ Asks u → a ≡ Asks w → u ≡ w
asks_same p q = cc

module _ {T V E O : Type 0} (r : Rules T V E O) (laws : Lawful r) where
  -- what is in the back of a list is in the list
  pub in_append_right : (t : T) (ts us : List T) → is_in r t us ≡ true → is_in r t (ts ++ us) ≡ true
  in_append_right t ts us h = list_any-append (r.same t) ts us ∙ or_right (is_in r t ts) _ h

  -- what is in the front of a list is in the list
  pub in_append_left : (t : T) (ts us : List T) → is_in r t ts ≡ true → is_in r t (ts ++ us) ≡ true
  in_append_left t ts us h = list_any-append (r.same t) ts us ∙ or_left (is_in r t ts) _ h

  -- the task that a run stops at is asked for by each run over more
  pub asks_asked : (t : T) (K L : T → Option V) (u : T) → Part K L → (r.run t K).answer ≡ Asks u →
      is_in r u (r.run t L).asked ≡ true
  asks_asked t K L u p e =
      let f = subst (EndsWith (r.run t K).asked) e (laws.last t K) in
      let m = laws.prefix t K L p in
      let here : is_in r u (u ∷ []) ≡ true = or_left (r.same u u) false (laws.same_self u) in
      let at : is_in r u (r.run t K).asked ≡ true = rw f.1 (in_append_right u f.0 (u ∷ []) here) in
      rw m.1 (in_append_left u (r.run t K).asked m.0 at)

  -- what is asked for over a part of all that is known is a task
  pub asked_task : (t : T) (K : T → Option V) (u : T) → Part K (known r) → is_in r u (r.run t K).asked ≡ true →
      is_task r u ≡ true
  asked_task t K u p m =
      let q = laws.prefix t K (known r) p in
      laws.closed t u (rw q.1 (in_append_left u (r.run t K).asked q.0 m))

  -- and so is what it waits for
  pub asks_task : (t : T) (K : T → Option V) (u : T) → Part K (known r) → (r.run t K).answer ≡ Asks u →
      is_task r u ≡ true
  asks_task t K u p e = laws.closed t u (asks_asked t K (known r) u p e)

  -- what a needed task waits for is needed
  pub asks_needs : (s t : T) (K : T → Option V) (u : T) → Part K (known r) → Needs r s t →
      (r.run t K).answer ≡ Asks u → Needs r s u
  asks_needs s t K u p n e = Needs.asked n (asks_asked t K (known r) u p e)

  -- a value that a run over a part gives is the known one
  pub done_known : (t : T) (K : T → Option V) (v : V) → Part K (known r) → is_task r t ≡ true →
      (r.run t K).answer ≡ Done v → known r t ≡ Some v
  done_known t K v p h e = known_takes r laws t v h (ap (λ o. o.answer) (grow_done r laws t K (known r) v p e) ∙ e)

  -- an error of a run over a part is that of the run over all that is known
  pub raised_known : (t : T) (K : T → Option V) (e : E) → Part K (known r) → (r.run t K).answer ≡ Raised e →
      (r.run t (known r)).answer ≡ Raised e
  raised_known t K x p e = ap (λ o. o.answer) (grow_raised r laws t K (known r) x p e) ∙ e

  -- and so is an end of another kind
  pub otherwise_known : (t : T) (K : T → Option V) (o : O) → Part K (known r) → (r.run t K).answer ≡ Otherwise o →
      (r.run t (known r)).answer ≡ Otherwise o
  otherwise_known t K o p e = ap (λ x. x.answer) (grow_otherwise r laws t K (known r) o p e) ∙ e

  -- a task whose run ends otherwise stays unknown
  pub otherwise_lost : (t : T) (o : O) → (r.run t (known r)).answer ≡ Otherwise o → known r t ≡ None
  otherwise_lost t o e = elim (none_or_some (known r t)) [
    | inl n ↦ n
    | inr s ↦ let g = known_gives r laws t s.0 s.1 in absurd cc
  ]

  -- a task whose run raises stays unknown
  pub raised_lost : (t : T) (e : E) → (r.run t (known r)).answer ≡ Raised e → known r t ≡ None
  raised_lost t x e = elim (none_or_some (known r t)) [
    | inl n ↦ n
    | inr s ↦ let g = known_gives r laws t s.0 s.1 in
        absurd cc
  ]

  -- a task whose run waits to the end stays unknown
  pub asks_lost : (t u : T) → (r.run t (known r)).answer ≡ Asks u → known r t ≡ None
  asks_lost t u e = elim (none_or_some (known r t)) [
    | inl n ↦ n
    | inr s ↦ let g = known_gives r laws t s.0 s.1 in
        absurd cc
  ]

  -- a run that is done has all that it asked for
  pub done_has : (t : T) (K : T → Option V) (v : V) (u : T) → (r.run t K).answer ≡ Done v →
      is_in r u (r.run t K).asked ≡ true → is_some (K u) ≡ true
  done_has t K v u e m = elim (laws.asked_known t K u m) [ inl h ↦ h | inr h ↦ absurd cc ]

  -- what a known task asks for was known in an earlier round
  pub asked_earlier : (n : ℕ) → n ≤ length r.tasks → (t : T) (v : V) (K : T → Option V) (u : T) → Part K (known r) →
      round r n t ≡ Some v → (r.run t K).answer ≡ Asks u → (m : ℕ) × (m < n) × (is_some (round r m u) ≡ true)
  asked_earlier zero le t v K u p h e = absurd cc
  asked_earlier (suc n) le t v K u p h e =
      elim (origin r laws n t v h) [
        | inl h' ↦ let i = asked_earlier n (omega arith) t v K u p h' e in (i.0, omega (arith, i.1), i.2)
        | inr w ↦
            let q : Part (round r n) (known r) = round-le r laws n (length r.tasks) (omega arith) in
            let a = asks_asked t K (known r) u p e in
            let a' : is_in r u (r.run t (round r n)).asked ≡ true = subst (λ o. is_in r u o.asked ≡ true)
            (grow_done r laws t (round r n) (known r) v q w.1) a in
            (n, omega arith, done_has t (round r n) v u w.1 a')
      ]

  -- a task that asks for a lost one is lost, and asks for it to the end
  pub lost_back : (t : T) (K : T → Option V) (u : T) → Part K (known r) → (r.run t K).answer ≡ Asks u →
      known r u ≡ None → (r.run t (known r)).answer ≡ Asks u
  lost_back t K u p e n = ap (λ o. o.answer) (grow_asks r laws t K (known r) u p e n) ∙ e

  -- a chain that leads to a lost task is lost, and asks so to the end
  pub chain_lost : (ts : List T) (K : T → Option V) (u : T) → Part K (known r) → known r u ≡ None → Chain r K ts u →
      Chain r (known r) ts u × (known r (first_or u ts) ≡ None)
  chain_lost [] K u p n c = (tt, n)
  chain_lost (t ∷ ts) K u p n c =
      let i = chain_lost ts K u p n c.1 in
      let a = lost_back t K (first_or u ts) p c.0 i.1 in
      ((a, i.0), asks_lost t _ a)

  -- along a chain of known tasks the rounds fall
  chain_falls : (ts : List T) (t : T) (n : ℕ) → n ≤ length r.tasks → (K : T → Option V) (u : T) → Part K (known r) →
      Chain r K (t ∷ ts) u → is_some (round r n t) ≡ true → (m : ℕ) × (m < n) × (is_some (round r m u) ≡ true)
  chain_falls [] t n le K u p c h = let s = some_value _ h in asked_earlier n le t s.0 K u p s.1 c.0
  chain_falls (x ∷ ts) t n le K u p c h =
      let s = some_value _ h in
      let a = asked_earlier n le t s.0 K x p s.1 c.0 in
      let i = chain_falls ts x a.0 (omega (arith, a.1)) K u p c.1 a.2 in
      (i.0, omega (arith, i.1, a.1), i.2)

  no_ring : (k n : ℕ) → n < k → n ≤ length r.tasks → (ts : List T) (t : T) (K : T → Option V) → Part K (known r) →
      Chain r K (t ∷ ts) t → is_some (round r n t) ≡ true → ⊥
  no_ring zero n lt le ts t K p c h = omega (arith, lt)
  no_ring (suc k) n lt le ts t K p c h =
      let a = chain_falls ts t n le K t p c h in
      no_ring k a.0 (omega (arith, a.1, lt)) (omega (arith, a.1, le)) ts t K p c a.2

  -- tasks that ask for one another in a ring are lost
  pub ring_lost : (ts : List T) (t : T) (K : T → Option V) → Part K (known r) → Chain r K (t ∷ ts) t → known r t ≡ None
  ring_lost ts t K p c =
      elim (none_or_some (known r t)) [
        | inl n ↦ n
        | inr s ↦ absurd (no_ring (suc (length r.tasks)) (length r.tasks) (omega arith) (omega arith) ts t K p c
            (some_is _ s.0 s.1))
      ]

  -- a chain with one task more at its end
  pub chain_push : (ts : List T) (K : T → Option V) (t u : T) → Chain r K ts t → (r.run t K).answer ≡ Asks u →
      Chain r K (ts ++ t ∷ []) u
  chain_push [] K t u c e = (e, tt)
  chain_push (x ∷ []) K t u c e = (c.0, (e, tt))
  chain_push (x ∷ y ∷ ts) K t u c e = (c.0, chain_push (y ∷ ts) K t u c.1 e)

  -- the front of a chain
  pub chain_front : (ts us : List T) (K : T → Option V) (u z : T) → Chain r K (ts ++ u ∷ us) z → Chain r K ts u
  chain_front [] us K u z c = tt
  chain_front (x ∷ []) us K u z c = (c.0, tt)
  chain_front (x ∷ y ∷ ts) us K u z c = (c.0, chain_front (y ∷ ts) us K u z c.1)

  -- the back of a chain
  pub chain_back : (ts us : List T) (K : T → Option V) (z : T) → Chain r K (ts ++ us) z → Chain r K us z
  chain_back [] us K z c = c
  chain_back (x ∷ ts) us K z c = chain_back ts us K z c.1

  -- a request's run over a table: its end is the one over all that is known, and what it asked for is in the table
  pub done_ends : (t : T) (K : T → Option V) (v : V) (u : T) → Part K (known r) → (r.run t K).answer ≡ Done v →
      is_in r u (r.run t (known r)).asked ≡ true → is_some (K u) ≡ true
  done_ends t K v u p e m =
      done_has t K v u e (subst (λ o. is_in r u o.asked ≡ true) (grow_done r laws t K (known r) v p e) m)

  -- a run that waits for a lost task has all else that it asks for over all that is known
  pub lost_ends : (t : T) (K : T → Option V) (w u : T) → Part K (known r) → (r.run t K).answer ≡ Asks w →
      known r w ≡ None → is_in r u (r.run t (known r)).asked ≡ true → is_some (known r u) ≡ true → is_some (K u) ≡ true
  lost_ends t K w u p e n m k =
      elim (laws.asked_known t K u (subst (λ o. is_in r u o.asked ≡ true) (grow_asks r laws t K (known r) w p e n) m)) [
        | inl h ↦ h
        | inr h ↦ let same : w ≡ u = asks_same e h in
            absurd (false≢true (sym (ap is_some (ap (known r) (sym same) ∙ n)) ∙ k))
      ]
