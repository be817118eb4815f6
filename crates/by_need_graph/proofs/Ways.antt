-- The way that a graph's questions lead, task by task.
use Rattle.std.proofs.Common.{◌≡◌, ℕ, suc, List, [], ◌∷◌, ◌++◌, length, Option, sym, ap, ◌∙◌, arith}
use Rattle.by_need.specs.Asking.{over}
use Rattle.by_need.specs.Rounds.{Rules, known}
use Rattle.by_need.specs.Blame.{asked_by, blame, cause_at, cause_of, circle_of, follow, least_of, next, ring_of, until}
use Rattle.by_need.specs.Blame.{walk}
use Rattle.by_need_graph.specs.Graph.{answer_of, meaning, rules_of, value_at}
use Rattle.by_need_graph.specs.declared.graph.Body.{Body}
use Rattle.by_need_graph.specs.declared.rounds.Answer.{Answer}
use Rattle.by_need.proofs.Blames.{walk_add}
use Rattle.by_need_graph.proofs.Facts.{length-below, over_same}

-- the last task of a way
pub walk_last : {T V E O : Type 0} (r : Rules T V E O) (n : ℕ) (t : T) →
    walk r (suc n) t ≡ walk r n t ++ follow r n t ∷ []
walk_last r n t = walk_add r n 1 (suc n) (omega arith) t

module _ (bodies : List Body) (values : List (Option ℕ)) (all : (t : ℕ) →
    value_at values t ≡ known (rules_of bodies) t) where
  runs_same : (t : ℕ) → (over (value_at values) (meaning bodies t)).answer
      ≡ (over (known (rules_of bodies)) (meaning bodies t)).answer
  runs_same t = ap (λ o. o.answer) (over_same (value_at values) (known (rules_of bodies)) all (meaning bodies t))

  -- where a task leads, by the program's answer
  pub next_is : (t : ℕ) (a b : Answer) → answer_of a ≡ (over (value_at values) (meaning bodies t)).answer → a ≡ b →
      asked_by t (answer_of b) ≡ next (rules_of bodies) t
  next_is t a b h is = ap (λ x. asked_by t (answer_of x)) (sym is) ∙ ap (asked_by t) (h ∙ runs_same t)

  -- what stands there, by the program's answer
  pub cause_is : (t : ℕ) (a b : Answer) → answer_of a ≡ (over (value_at values) (meaning bodies t)).answer → a ≡ b →
      cause_at (rules_of bodies) t (answer_of b) ≡ cause_of (rules_of bodies) t
  cause_is t a b h is = ap (λ x. cause_at (rules_of bodies) t (answer_of x)) (sym is)
      ∙ ap (cause_at (rules_of bodies) t) (h ∙ runs_same t)

  -- the blame of a task, by the program's answer where its questions lead
  pub blame_is : (t last : ℕ) (a b : Answer) → last ≡ follow (rules_of bodies) (length bodies) t →
      answer_of a ≡ (over (value_at values) (meaning bodies last)).answer → a ≡ b →
      cause_at (rules_of bodies) last (answer_of b) ≡ blame (rules_of bodies) t
  blame_is t last a b f h is = cause_is last a b h is
      ∙ ap (cause_of (rules_of bodies))
      (f ∙ ap (λ m. follow (rules_of bodies) m t) (sym (length-below (length bodies))))

-- the ring from two walks: one from a task, and one from behind the least
pub ring_is : (bodies : List Body) (t least behind_it : ℕ) (way seen behind seen_behind ring : List ℕ) →
    way ≡ walk (rules_of bodies) (length bodies) t → seen ≡ way → least ≡ least_of (rules_of bodies) t seen →
    behind_it ≡ next (rules_of bodies) least → behind ≡ walk (rules_of bodies) (length bodies) behind_it →
    seen_behind ≡ behind → ring ≡ least ∷ until (rules_of bodies) least seen_behind → ring ≡ ring_of (rules_of bodies) t
ring_is bodies t least behind_it way seen behind seen_behind ring w s l x b sb h =
    let r = rules_of bodies in
    let k = sym (length-below (length bodies)) in
    let way_is : seen ≡ walk r (length r.tasks) t = s ∙ w ∙ ap (λ m. walk r m t) k in
    let least_is : least ≡ least_of r t (walk r (length r.tasks) t) = l ∙ ap (least_of r t) way_is in
    let behind_is : seen_behind ≡ walk r (length r.tasks) (next r least) = sb ∙ b ∙ ap (λ m. walk r m behind_it) k
    ∙ ap (λ u. walk r (length r.tasks) u) x in
    h ∙ ap (λ us. least ∷ until r least us) behind_is ∙ ap (circle_of r) least_is
