-- Lists of values against rounds.
use Rattle.std.proofs.Common.{◌≡◌, ℕ, zero, suc, ◌+◌, ◌≤◌, ◌<◌, List, [], ◌∷◌, ◌++◌, length, replicate, Option, Some}
use Rattle.std.proofs.Common.{None, Bool, true, false, inl, inr, refl, sym, ap, ◌∙◌, arith, eqb, ltb}
use Rattle.std.specs.List.{list_any}
use Rattle.std.proofs.lemmas.Bool.{false≢true, and_parts, or_cases, cases_lt, eqb-true, ltb-true}
use Rattle.by_need.specs.Asking.{Outcome, Computation, Gives, Ask, over, with_value}
use Rattle.by_need.specs.Open.{AllTasks}
use Rattle.by_need.specs.Rounds.{Part, is_task, round, known, value_or}
use Rattle.by_need_graph.specs.Graph.{below, meaning, questions_below, rules_of, value_at}
use Rattle.by_need_graph.specs.GraphLaws.{in_below}
use Rattle.by_need_graph.specs.declared.graph.Body.{Body}

-- no value stands behind the last
pub value_beyond : (values : List (Option ℕ)) (t : ℕ) → length values ≤ t → value_at values t ≡ None
value_beyond [] t le = refl
value_beyond (v ∷ values) zero le = absurd (omega (arith, le))
value_beyond (v ∷ values) (suc t) le = value_beyond values t (omega (arith, le))

value_front : (xs : List (Option ℕ)) (y : Option ℕ) (t : ℕ) → t < length xs → value_at (xs ++ y ∷ []) t ≡ value_at xs t
value_front [] y t lt = absurd (omega (arith, lt))
value_front (x ∷ xs) y zero lt = refl
value_front (x ∷ xs) y (suc t) lt = value_front xs y t (omega (arith, lt))

value_last : (xs : List (Option ℕ)) (y : Option ℕ) → value_at (xs ++ y ∷ []) (length xs) ≡ y
value_last [] y = refl
value_last (x ∷ xs) y = value_last xs y

-- no value stands among missing ones
pub value_none : (n t : ℕ) → value_at (replicate n None) t ≡ None
value_none zero t = refl
value_none (suc n) zero = refl
value_none (suc n) (suc t) = value_none n t

-- values that are all missing are part of whatever is known
pub nothing_part : (values : List (Option ℕ)) (n : ℕ) (K : ℕ → Option ℕ) → values ≡ replicate n None →
    Part (value_at values) K
nothing_part values n K e = record {
  keeps = λ t v h. let none = ap (λ vs. value_at vs t) e ∙ value_none n t in absurd cc;
}

-- one value more that is right
pub value_push : (f : ℕ → Option ℕ) (xs ys : List (Option ℕ)) (y : Option ℕ) (i : ℕ) → ys ≡ xs ++ y ∷ [] →
    length xs ≡ i → y ≡ f i → ((t : ℕ) → t < i → value_at xs t ≡ f t) → (t : ℕ) → t < i + 1 → value_at ys t ≡ f t
value_push f xs ys y i e l h below t lt =
    elim (cases_lt t i) [
      | inl s ↦ ap (λ zs. value_at zs t) e ∙ value_front xs y t (omega (arith, s, l)) ∙ below t s
      | inr g ↦ let same : t ≡ length xs = omega (arith, lt, g, l) in let at : length xs ≡ t = sym same in let i_is :
          i ≡ t = omega (arith, lt, g) in ap (λ zs. value_at zs t) e ∙ ap (value_at (xs ++ y ∷ [])) same
          ∙ value_last xs y ∙ h ∙ ap f i_is
    ]

-- values that agree with all that is found are part of it
pub part_from : (values found : List (Option ℕ)) (K : ℕ → Option ℕ) (n : ℕ) → length values ≡ n →
    ((t v : ℕ) → t < n → value_at values t ≡ Some v → value_at found t ≡ Some v) →
    ((t : ℕ) → value_at found t ≡ K t) → Part (value_at values) K
part_from values found K n l agree is =
    record {
      keeps = λ t v h. elim (cases_lt t n) [
        | inl lt ↦ sym (is t) ∙ agree t v lt h
        | inr ge ↦ let e = value_beyond values t (omega (arith, l, ge)) in absurd cc
      ];
    }

over_same_at : (u : ℕ) (f g : ℕ → Outcome ℕ ℕ ℕ ℕ) → ((v : ℕ) → f v ≡ g v) → (o : Option ℕ) →
    with_value u f o ≡ with_value u g o
over_same_at u f g h None = refl
over_same_at u f g h (Some v) = ap (λ x. record { answer = x.answer; asked = u ∷ x.asked }) (h v)

-- a run over the same values is the same
pub over_same : (K L : ℕ → Option ℕ) → ((t : ℕ) → K t ≡ L t) → (c : Computation ℕ ℕ ℕ ℕ) → over K c ≡ over L c
over_same K L h (Gives a) = refl
over_same K L h (Ask u k) = over_same_at u (λ v. over K (k v)) (λ v. over L (k v)) (λ v. over_same K L h (k v)) (K u)
    ∙ ap (with_value u (λ v. over L (k v))) (h u)

-- what is among the numbers below n is below n
pub below_in : (n t : ℕ) → list_any (eqb t) (below n) ≡ true → t < n
below_in zero t h = absurd (false≢true h)
below_in (suc n) t h = elim (or_cases (eqb t n) _ h) [
  | inl e ↦ let i = eqb-true t n e in omega (arith, i)
  | inr e ↦ let lt = below_in n t e in omega (arith, lt)
]

-- there are n numbers below n
pub length-below : (n : ℕ) → length (below n) ≡ n
length-below zero = refl
length-below (suc n) = ap suc (length-below n)

module _ (bodies : List Body) where
  -- one round more of the program is one round more
  pub round_next : (values next : List (Option ℕ)) (k : ℕ) → length values ≡ length bodies →
      ((t : ℕ) → value_at values t ≡ round (rules_of bodies) k t) → length next ≡ length values →
      ((t : ℕ) → t < length values →
      value_at next t ≡ value_or (value_at values t) (over (value_at values) (meaning bodies t)).answer) → (t : ℕ) →
      value_at next t ≡ round (rules_of bodies) (suc k) t
  round_next values next k l h m step t = at (is_task (rules_of bodies) t) refl
    where
      at : (b : Bool) → is_task (rules_of bodies) t ≡ b → value_at next t ≡ round (rules_of bodies) (suc k) t
      at true e =
          let lt = below_in (length bodies) t e in
          step t (omega (arith, lt, l))
          ∙ ap (λ o. value_or (value_at values t) o.answer)
          (over_same (value_at values) (round (rules_of bodies) k) h (meaning bodies t))
          ∙ ap (λ v. value_or v (over (round (rules_of bodies) k) (meaning bodies t)).answer) (h t) ∙ rw e refl
      at false e =
          elim (cases_lt t (length bodies)) [
            | inl lt ↦ absurd (false≢true (sym e ∙ in_below (length bodies) t lt))
            | inr ge ↦ value_beyond next t (omega (arith, ge, l, m))
                ∙ sym (value_beyond values t (omega (arith, ge, l))) ∙ h t ∙ rw e refl
          ]

  -- after as many rounds as there are tasks all is known
  pub rounds_end : (values : List (Option ℕ)) (k : ℕ) → k ≡ length bodies →
      ((t : ℕ) → value_at values t ≡ round (rules_of bodies) k t) → (t : ℕ) →
      value_at values t ≡ known (rules_of bodies) t
  rounds_end values k e h t = h t ∙ ap (λ n. round (rules_of bodies) n t) (e ∙ sym (length-below (length bodies)))

-- numbers below the count of tasks are tasks
pub below_are_tasks : (bodies : List Body) (ts : List ℕ) → questions_below (length bodies) ts ≡ true →
    AllTasks (rules_of bodies) ts
below_are_tasks bodies [] h = tt
below_are_tasks bodies (t ∷ ts) h =
    let parts = and_parts (ltb t (length bodies)) (questions_below (length bodies) ts) h in
    (in_below (length bodies) t (ltb-true t (length bodies) parts.0), below_are_tasks bodies ts parts.1)
