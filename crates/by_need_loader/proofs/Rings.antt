-- The least task of a ring.
use Rattle.std.proofs.Common.{◌≡◌, ◌<◌, ◌≤◌, ◌+◌, ◌∷◌, [], ℕ, suc, zero, List, length, slice_get, get_or, Option, Some}
use Rattle.std.proofs.Common.{drop, take}
use Rattle.std.proofs.Common.{Bool, true, false, inl, inr, sym, ap, ◌∙◌, subst, arith}
use Rattle.std.proofs.Common.{◌-◌, ◌++◌, length-drop}
use Rattle.std.proofs.Math.Seq.{take-append_seam}
use Rattle.std.proofs.lemmas.Option.{slice_get-get_or, slice_get_within}
use Rattle.std.proofs.lemmas.Bool.{cases_lt}
use Rattle.by_need.proofs.Blames.{at_most_self}
use Rattle.by_need.specs.Open.{AllTasks}
use Rattle.by_need.specs.Rounds.{Rules, is_task}
use Rattle.by_need.specs.Laws.{Lawful}
use Rattle.by_need_loader.specs.Ring.{HasLeast}

-- no task before n is less than the one at the place
abbrev pub LeastBelow : {T : Type 0} → (T → T → Bool) → List T → ℕ → ℕ → Type 0
LeastBelow {T} at_most ts place n = (m z : T) (k : ℕ) → k < n → slice_get ts place ≡ Some m →
    slice_get ts k ≡ Some z → at_most m z ≡ true

-- the tasks from a place on are what is left of the turned tasks once the others are cut off
pub cut_tail : {T : Type 0} (ts turned cut : List T) (n place : ℕ) → n ≡ length ts →
    turned ≡ drop place ts ++ take place ts → cut ≡ take (n - place) turned → cut ≡ drop place ts
cut_tail ts turned cut n place count is e =
    let fits : n - place ≡ length (drop place ts) = ap (λ k. k - place) count ∙ sym (length-drop place ts) in
    e ∙ ap (take (n - place)) is ∙ ap (λ k. take k (drop place ts ++ take place ts)) fits
    ∙ take-append_seam (drop place ts) (take place ts)

module _ {T V E O : Type 0} (r : Rules T V E O) where
  all_at : (ts : List T) (i : ℕ) (d : T) → AllTasks r ts → i < length ts → is_task r (get_or ts i d) ≡ true
  all_at [] i d all lt = absurd (omega (arith, lt))
  all_at (t ∷ ts) zero d all lt = all.0
  all_at (t ∷ ts) (suc i) d all lt = all_at ts i d all.1 (omega (arith, lt))

  -- what stands among tasks is a task
  pub task_at : (ts : List T) (i : ℕ) (a : T) → AllTasks r ts → i < length ts → a ≡ get_or ts i a →
      is_task r a ≡ true
  task_at ts i a all lt is = ap (is_task r) is ∙ all_at ts i a all lt

  -- the tasks from a place on
  pub tasks_from : (ts : List T) (place : ℕ) → AllTasks r ts → AllTasks r (drop place ts)
  tasks_from ts zero all = all
  tasks_from [] (suc place) all = tt
  tasks_from (t ∷ ts) (suc place) all = tasks_from ts place all.1

module _ {T V E O : Type 0} (r : Rules T V E O) (laws : Lawful r) where
  same_some : (a b : T) (o : Option T) → o ≡ Some a → o ≡ Some b → a ≡ b
  same_some a b o p q = cc

  -- the first of one task is the least
  pub starts_least : (ts : List T) → LeastBelow r.at_most ts 0 1
  starts_least ts m z zero lt p q = subst (λ x. r.at_most m x ≡ true) (same_some m z _ p q) (at_most_self r laws m)
  starts_least ts m z (suc k) lt p q = absurd (omega (arith, lt))

  module _ (ts : List T) (best i : ℕ) (a b : T) (x : Bool) (ea : a ≡ get_or ts best a) (eb : b ≡ get_or ts i b)
      (lb : best < i) (li : i < length ts) (is : x ≡ r.at_most a b) (least : LeastBelow r.at_most ts best i) where
    at_best : slice_get ts best ≡ Some a
    at_best = slice_get-get_or ts best a (omega (arith, lb, li)) ∙ ap Some (sym ea)

    at_i : slice_get ts i ≡ Some b
    at_i = slice_get-get_or ts i b li ∙ ap Some (sym eb)

    -- the least so far stays, where it is at most the next
    pub keeps_least : x ≡ true → LeastBelow r.at_most ts best (i + 1)
    keeps_least e m z k lt p q =
        elim (cases_lt k i) [
          | inl l ↦ least m z k l p q
          | inr g ↦
              let same : k ≡ i = omega (arith, lt, g) in
              let ez = same_some b z _ at_i (ap (slice_get ts) (sym same) ∙ q) in
              let em = same_some a m _ at_best p in
              subst (λ y. r.at_most m y ≡ true) ez (subst (λ y. r.at_most y b ≡ true) em (sym is ∙ e))
        ]

    -- else the next is the least
    pub takes_least : x ≡ false → LeastBelow r.at_most ts i (i + 1)
    takes_least e m z k lt p q =
        let em = same_some b m _ at_i p in
        elim (cases_lt k i) [
          | inl l ↦ subst (λ y. r.at_most y z ≡ true) em
              (laws.chain b a z (laws.total a b (sym is ∙ e)) (least a z k l at_best q))
          | inr g ↦
              let same : k ≡ i = omega (arith, lt, g) in
              subst (λ y. r.at_most m y ≡ true) (same_some m z _ p (ap (slice_get ts) (omega (arith, lt, g)) ∙ q))
              (at_most_self r laws m)
        ]

-- the least of all
pub ends_least : {T : Type 0} (at_most : T → T → Bool) (ts : List T) (best i : ℕ) → length ts ≤ i →
    LeastBelow at_most ts best i → HasLeast at_most ts best
ends_least at_most ts best i le h = λ m z k p q. let lt = slice_get_within ts k z q in
    h m z k (omega (arith, lt, le)) p q
