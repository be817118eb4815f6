-- Each step and each answer leaves less to do.
use Rattle.std.proofs.Common.{◌≡◌, ℕ, suc, ◌+◌, ◌*◌, ◌≤◌, ◌<◌, List, [], ◌∷◌, ◌++◌, length, Option, Some, None, false}
use Rattle.std.proofs.Common.{true, refl, arith, mul-le-mul_right}
use Rattle.by_need.specs.Asking.{Computation, Outcome, Ask, over, with_value}
use Rattle.by_need.specs.Rounds.{Rules, is_in, is_task, known}
use Rattle.by_need.specs.Laws.{Lawful}
use Rattle.by_need.specs.Load.{Defines}
use Rattle.by_need.specs.Open.{AllTasks, left}
use Rattle.by_need.proofs.Measure.{left_pushes, left_pops, total-member}
use Rattle.by_need_loader.specs.Steps.{Behind, AllBehind, asks_left, most_asks, waits_left, wide}

-- one task less outweighs what the runs may ask
outweighs : (a b wide x y : ℕ) → a < b → x < wide → a * wide + x < b * wide + y
outweighs a b wide x y lt le = let m : suc a * wide ≤ b * wide = mul-le-mul_right wide lt in omega (arith, m, le)

module _ {T V E O W : Type 0} (r : Rules T V E O) (branch : W → V → Computation T V E O) where
  some_asks : (u : T) (k : V → Computation T V E O) → 0 < asks_left r (Ask u k)
  some_asks u k = at (λ v. over (known r) (k v)) (known r u)
    where
      at : (go : V → Outcome T V E O) (o : Option V) → 0 < length (with_value u go o).asked
      at go None = omega arith
      at go (Some v) = omega arith

  -- a run that waits has a question left
  pub waits_some : (ws : List W) (u : T) → 0 < waits_left r branch ws u
  waits_some [] u = omega arith
  waits_some (w ∷ []) u = some_asks u (branch w)
  waits_some (w ∷ x ∷ ws) u = waits_some (x ∷ ws) u

  -- the latest run that waits
  pub waits_push : (ws : List W) (u : T) (w : W) → waits_left r branch (ws ++ w ∷ []) u ≡ asks_left r (Ask u (branch w))
  waits_push [] u w = refl
  waits_push (x ∷ []) u w = refl
  waits_push (x ∷ y ∷ ws) u w = waits_push (y ∷ ws) u w

  module _ (laws : Lawful r) where
    -- what is left of a run asks no more than the run of its task
    pub few_asks : (K : T → Option V) (t : T) (c : Computation T V E O) → is_task r t ≡ true → Behind r K t c →
        asks_left r c ≤ most_asks r
    few_asks K t c is b =
        let h = total-member r laws (λ x. length (r.run x (known r)).asked) r.tasks t is in
        let f = b.fewer in
        omega (arith, h, f)

    -- and so does what is left of the latest run that waits
    pub waits_few : (K : T → Option V) (ts : List T) (ws : List W) (t u : T) → AllTasks r (ts ++ t ∷ []) →
        AllBehind r branch K ts ws u → waits_left r branch ws u ≤ most_asks r + 1
    waits_few K [] [] t u h b = omega arith
    waits_few K (x ∷ []) (w ∷ []) t u h b = let f = few_asks K x (Ask u (branch w)) h.0 b.0 in omega (arith, f)
    waits_few K (x ∷ ts) (w ∷ y ∷ ws) t u h b = waits_few K ts (y ∷ ws) t u h.1 b.1
    waits_few K (x ∷ z ∷ ts) (w ∷ []) t u h b = absurd b.1
    waits_few K [] (w ∷ ws) t u h b = absurd b
    waits_few K (x ∷ ts) [] t u h b = absurd b

    -- a value is defined, and the tasks that wait go on
    pub less_defined : (K L : T → Option V) (ts : List T) (t : T) (v : V) (n x : ℕ) → K t ≡ None →
        is_task r t ≡ true → is_in r t ts ≡ false → Defines r K t v L → n ≤ most_asks r + 1 →
        left r L ts * wide r + (2 * n + 1) < left r K (ts ++ t ∷ []) * wide r + x
    less_defined K L ts t v n x none is out d few = outweighs (left r L ts) (left r K (ts ++ t ∷ [])) (wide r)
        (2 * n + 1) x (left_pops r laws K L ts t v none is out d) (omega (arith, few))

    -- a task's run begins
    pub less_entered : (K : T → Option V) (ts : List T) (u : T) (n x : ℕ) → K u ≡ None → is_task r u ≡ true →
        is_in r u ts ≡ false → n ≤ most_asks r →
        left r K (ts ++ u ∷ []) * wide r + (2 * n + 1) < left r K ts * wide r + x
    less_entered K ts u n x none is out few = outweighs (left r K (ts ++ u ∷ [])) (left r K ts) (wide r)
        (2 * n + 1) x (left_pushes r laws K ts u none is out) (omega (arith, few))
