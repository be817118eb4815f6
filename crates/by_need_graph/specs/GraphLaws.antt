-- The laws of runs hold of graphs.
use Rattle.std.proofs.Common.{◌≡◌, ℕ, zero, suc, ◌+◌, ◌<◌, ◌%◌, ◌^◌, List, [], ◌∷◌, length, Option, Some, None, true}
use Rattle.std.proofs.Common.{false, eqb, leb, ltb, inl, inr, refl, sym, subst, arith}
use Rattle.std.specs.List.{list_any}
use Rattle.std.proofs.lemmas.Bool.{false≢true, or_cases, or_left, or_right, and_parts, ltb-true, leb-true, eqb-true}
use Rattle.std.proofs.lemmas.Bool.{eq-eqb, le-leb, leb-false, cases_eq}
use Rattle.by_need.specs.Asking.{Outcome, over, with_value}
use Rattle.by_need.specs.Laws.{Lawful}
use Rattle.by_need.proofs.Trees.{lawful}
use Rattle.by_need_graph.specs.Graph.{asks, meaning, below, questions_below, all_below, rules_of}
use Rattle.by_need_graph.specs.declared.graph.Body.{Body}
use Rattle.by_need_graph.specs.declared.graph.Ending.{Ending}
use Rattle.by_need_graph.specs.declared.graph.Ending.TheVariants.{Sum, Fail, Stop}

-- a number below n is among them
pub in_below : (n t : ℕ) → t < n → list_any (eqb t) (below n) ≡ true
in_below zero t lt = absurd (omega (arith, lt))
in_below (suc n) t lt = elim (cases_eq t n) [
  | inl e ↦ or_left (eqb t n) _ (eq-eqb t n e)
  | inr ne ↦ or_right (eqb t n) _ (in_below n t (omega (arith, lt, ne)))
]

asked_at : (n u t : ℕ) (g : ℕ → Outcome ℕ ℕ ℕ ℕ) → ltb t n ≡ true →
    ((v : ℕ) → list_any (eqb u) (g v).asked ≡ true → u < n) → (o : Option ℕ) →
    list_any (eqb u) (with_value t g o).asked ≡ true → u < n
asked_at n u t g b ih None h =
    elim (or_cases (eqb u t) _ h) [
      | inl e ↦ subst (λ x. x < n) (sym (eqb-true u t e)) (ltb-true t n b)
      | inr e ↦ absurd (false≢true e)
    ]
asked_at n u t g b ih (Some v) h =
    elim (or_cases (eqb u t) _ h) [
      | inl e ↦ subst (λ x. x < n) (sym (eqb-true u t e)) (ltb-true t n b)
      | inr e ↦ ih v e
    ]

asked_below : (n u : ℕ) (K : ℕ → Option ℕ) (ts : List ℕ) (ending : Ending) (sum : ℕ) → questions_below n ts ≡ true →
    list_any (eqb u) (over K (asks sum ts ending)).asked ≡ true → u < n
asked_below n u K [] Sum sum b h = absurd (false≢true h)
asked_below n u K [] (Fail code) sum b h = absurd (false≢true h)
asked_below n u K [] (Stop code) sum b h = absurd (false≢true h)
asked_below n u K (t ∷ ts) ending sum b h =
    let p = and_parts (ltb t n) _ b in
    asked_at n u t (λ v. over K (asks ((sum + v) % 2 ^ 64) ts ending)) p.0
    (λ v h'. asked_below n u K ts ending ((sum + v) % 2 ^ 64) p.1 h') (K t) h

closed_at : (n : ℕ) (bodies : List Body) (t u : ℕ) (K : ℕ → Option ℕ) → all_below n bodies ≡ true →
    list_any (eqb u) (over K (meaning bodies t)).asked ≡ true → u < n
closed_at n [] t u K b h = absurd (false≢true h)
closed_at n (body ∷ bodies) zero u K b h = asked_below n u K body.questions.items body.ending 1
    (and_parts (questions_below n body.questions.items) _ b).0 h
closed_at n (body ∷ bodies) (suc t) u K b h =
    closed_at n bodies t u K (and_parts (questions_below n body.questions.items) _ b).1 h

total : (a b : ℕ) → leb a b ≡ false → leb b a ≡ true
total a b e = le-leb b a (let lt = leb-false a b e in omega (arith, lt))

chain : (a b c : ℕ) → leb a b ≡ true → leb b c ≡ true → leb a c ≡ true
chain a b c e f = let le1 = leb-true a b e in let le2 = leb-true b c f in le-leb a c (omega (arith, le1, le2))

equal : (a b : ℕ) → leb a b ≡ true → leb b a ≡ true → a ≡ b
equal a b e f = let le1 = leb-true a b e in let le2 = leb-true b a f in omega (arith, le1, le2)

-- graphs that ask for their own tasks alone are lawful
pub graph_laws : (bodies : List Body) → all_below (length bodies) bodies ≡ true → Lawful (rules_of bodies)
graph_laws bodies b =
    lawful eqb leb (below (length bodies)) (meaning bodies) eqb-true (λ a. eq-eqb a a refl) total chain
    (λ a b h k. equal a b) (λ t u m. in_below (length bodies) u (closed_at (length bodies) bodies t u _ b m))
