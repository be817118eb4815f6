-- The tasks whose load is open.
use Rattle.std.specs.Prelude.{◌≡◌, ℕ, ◌+◌, List, [], ◌∷◌, ◌++◌, Option, Some, None, Bool, true, false}
use Rattle.by_need.specs.Asking.{Asks}
use Rattle.by_need.specs.Rounds.{Rules, Part, is_in, is_task, known}

-- The first task of a list, or u.
abbrev pub first_or : {T : Type 0} → T → List T → T
first_or u [] = u
first_or u (t ∷ ts) = t

-- Over K each task of the list asks for the one behind it, and the last one for u.
abbrev pub Chain : {T V E O : Type 0} → Rules T V E O → (T → Option V) → List T → T → Type 0
Chain r K [] u = Unit {0}
Chain r K (t ∷ ts) u = ((r.run t K).answer ≡ Asks (first_or u ts)) × Chain r K ts u

-- K knows none of the list.
abbrev pub NoneKnown : {T V : Type 0} → (T → Option V) → List T → Type 0
NoneKnown K [] = Unit {0}
NoneKnown K (t ∷ ts) = (K t ≡ None) × NoneKnown K ts

-- No task stands twice.
abbrev pub Apart : {T V E O : Type 0} → Rules T V E O → List T → Type 0
Apart r [] = Unit {0}
Apart r (t ∷ ts) = (is_in r t ts ≡ false) × Apart r ts

-- Each of the list is a task.
abbrev pub AllTasks : {T V E O : Type 0} → Rules T V E O → List T → Type 0
AllTasks r [] = Unit {0}
AllTasks r (t ∷ ts) = (is_task r t ≡ true) × AllTasks r ts

-- Over the table K the wanted task waits for t along ts.
pub record Loading {T V E O : Type 0} (r : Rules T V E O) (wanted : T) (K : T → Option V) (ts : List T)
    (t : T) : Type 0 where
  pub part : Part K (known r)
  pub chain : Chain r K ts t
  pub start : first_or t ts ≡ wanted
  pub fresh : K wanted ≡ None
  pub apart : Apart r (ts ++ t ∷ [])

-- The sum over a list.
abbrev pub total : {T : Type 0} → (T → ℕ) → List T → ℕ
total f [] = 0
total f (t ∷ ts) = f t + total f ts

-- What is left to do for a task: nothing once it is known, and less while it is open.
abbrev pub weight : {V : Type 0} → Option V → Bool → ℕ
weight (Some v) b = 0
weight None true = 1
weight None false = 2

-- What is left to do for all tasks, where those of ts are open.
abbrev pub left : {T V E O : Type 0} → Rules T V E O → (T → Option V) → List T → ℕ
left r K ts = total (λ t. weight (K t) (is_in r t ts)) r.tasks
