-- Each step of a load leaves less to do.
use Rattle.std.proofs.Common.{◌≡◌, ℕ, ◌≤◌, ◌<◌, List, [], ◌∷◌, ◌++◌, Option, Some, None, Bool, true, false, inl, inr}
use Rattle.std.proofs.Common.{refl, ap, ◌∙◌, subst, arith}
use Rattle.std.proofs.lemmas.Bool.{false≢true, or_from, or_cases, or_left}
use Rattle.by_need.proofs.Tables.{in_append_left, in_append_right}
use Rattle.by_need.proofs.Loads.{not_in_append}
use Rattle.by_need.specs.Rounds.{Rules, is_in, is_task}
use Rattle.by_need.specs.Laws.{Lawful}
use Rattle.by_need.specs.Load.{Defines}
pub use Rattle.by_need.specs.Open.{total, weight, left}

total-le : {T : Type 0} (f g : T → ℕ) → ((t : T) → f t ≤ g t) → (ts : List T) → total f ts ≤ total g ts
total-le f g le [] = omega arith
total-le f g le (t ∷ ts) = omega (arith, le t, total-le f g le ts)

module _ {T V E O : Type 0} (r : Rules T V E O) (laws : Lawful r) where
  -- one of a list weighs no more than all of it
  pub total-member : (f : T → ℕ) (ts : List T) (u : T) → is_in r u ts ≡ true → f u ≤ total f ts
  total-member f [] u h = absurd (false≢true h)
  total-member f (t ∷ ts) u h =
      elim (or_cases (r.same u t) _ h) [
        | inl e ↦ let here : f u ≡ f t = ap f (laws.same_is u t e) in omega (arith, here)
        | inr e ↦ omega (arith, total-member f ts u e)
      ]

  -- less at one task, and more at none, is less in all
  pub total-lt : (f g : T → ℕ) → ((t : T) → f t ≤ g t) → (ts : List T) (u : T) → is_in r u ts ≡ true → f u < g u →
      total f ts < total g ts
  total-lt f g le [] u h lt = absurd (false≢true h)
  total-lt f g le (t ∷ ts) u h lt =
      elim (or_cases (r.same u t) _ h) [
        | inl e ↦ let here : f t < g t = subst (λ x. f x < g x) (laws.same_is u t e) lt in
            omega (arith, here, total-le f g le ts)
        | inr e ↦ omega (arith, le t, total-lt f g le ts u e lt)
      ]

  -- a load that begins leaves less to do
  pub left_pushes : (K : T → Option V) (ts : List T) (u : T) → K u ≡ None → is_task r u ≡ true →
      is_in r u ts ≡ false → left r K (ts ++ u ∷ []) < left r K ts
  left_pushes K ts u n h out =
      total-lt (λ t. weight (K t) (is_in r t (ts ++ u ∷ []))) (λ t. weight (K t) (is_in r t ts))
      (λ t. at t (K t) (is_in r t ts) refl) r.tasks u h
      (rw (n, out, in_append_right r laws u ts (u ∷ []) (or_left (r.same u u) false (laws.same_self u)))
      (omega arith))
    where
      at : (t : T) (o : Option V) (b : Bool) → is_in r t ts ≡ b → weight o (is_in r t (ts ++ u ∷ [])) ≤ weight o b
      at t (Some v) b e = omega arith
      at t None true e = rw (in_append_left r laws t ts (u ∷ []) e) (omega arith)
      at t None false e = any (is_in r t (ts ++ u ∷ []))
        where
          any : (b : Bool) → weight {V = V} None b ≤ 2
          any true = omega arith
          any false = omega arith

  -- a define leaves less to do
  pub left_pops : (K L : T → Option V) (ts : List T) (t : T) (v : V) → K t ≡ None → is_task r t ≡ true →
      is_in r t ts ≡ false → Defines r K t v L → left r L ts < left r K (ts ++ t ∷ [])
  left_pops K L ts t v n h out d =
      total-lt (λ x. weight (L x) (is_in r x ts)) (λ x. weight (K x) (is_in r x (ts ++ t ∷ [])))
      (λ x. at x (r.same x t) refl) r.tasks t h
      (rw (n, d.new, in_append_right r laws t ts (t ∷ []) (or_left (r.same t t) false (laws.same_self t)))
      (omega arith))
    where
      at : (x : T) (b : Bool) → r.same x t ≡ b → weight (L x) (is_in r x ts) ≤ weight (K x) (is_in r x (ts ++ t ∷ []))
      at x true e = rw (ap L (laws.same_is x t e) ∙ d.new) (omega arith)
      at x false e = rw (d.old x e) (go (K x) (is_in r x ts) refl)
        where
          go : (o : Option V) (b : Bool) → is_in r x ts ≡ b → weight o b ≤ weight o (is_in r x (ts ++ t ∷ []))
          go (Some w) b f = omega arith
          go None true f = rw (in_append_left r laws x ts (t ∷ []) f) (omega arith)
          go None false f = rw (not_in_append r laws x ts (t ∷ []) f (or_from (r.same x t) false e refl)) (omega arith)
