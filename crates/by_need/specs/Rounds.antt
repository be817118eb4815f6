-- Tasks that need one another's values: what is known after rounds over all of them, and what a task needs.
use Rattle.std.specs.Prelude.{◌≡◌, ℕ, zero, suc, List, length, Option, Some, None, Bool, true, cond}
use Rattle.std.specs.List.{list_any}
use Rattle.by_need.specs.Asking.{Answer, Done, Raised, Asks, Otherwise, Outcome, Computation, over}

-- The tasks; when two are the same; their order; and what the run of a task over what is known comes to. Where tasks
-- have names, the order is by name first, and then by what tells tasks of one name apart, so that no two tie.
pub record Rules (T V E O : Type 0) : Type 0 where
  pub same : T → T → Bool
  pub at_most : T → T → Bool
  pub tasks : List T
  pub run : T → (T → Option V) → Outcome T V E O

-- Tasks whose runs are trees of questions.
abbrev pub rules_by : {T V E O : Type 0} → (T → T → Bool) → (T → T → Bool) → List T → (T → Computation T V E O) →
    Rules T V E O
rules_by same at_most tasks meaning = record {
  same = same;
  at_most = at_most;
  tasks = tasks;
  run = λ t known. over known (meaning t);
}

-- K is part of L: what K knows, L knows too.
pub record Part {T V : Type 0} (K L : T → Option V) : Type 0 where
  pub keeps : (t : T) (v : V) → K t ≡ Some v → L t ≡ Some v

-- t is one of the list.
abbrev pub is_in : {T V E O : Type 0} → Rules T V E O → T → List T → Bool
is_in r t ts = list_any (r.same t) ts

-- t is one of the tasks.
abbrev pub is_task : {T V E O : Type 0} → Rules T V E O → T → Bool
is_task r t = is_in r t r.tasks

-- The value that a run is done with, else what was known before.
abbrev pub value_or : {T V E O : Type 0} → Option V → Answer T V E O → Option V
value_or before (Done v) = Some v
value_or before (Raised e) = before
value_or before (Asks u) = before
value_or before (Otherwise o) = before

-- What is known after n rounds: each round runs every task over what the rounds before it made known.
abbrev pub round : {T V E O : Type 0} → Rules T V E O → ℕ → T → Option V
round r zero t = None
round r (suc n) t = cond (is_task r t) (value_or (round r n t) (r.run t (round r n)).answer) (round r n t)

-- What is known in the end: after as many rounds as there are tasks.
abbrev pub known : {T V E O : Type 0} → Rules T V E O → T → Option V
known r = round r (length r.tasks)

-- The tasks that the value of t may rest on: t itself, and what a needed task asks for over all that is known.
pub data Needs {T V E O : Type 0} (r : Rules T V E O) (t : T) : T → Type 0 where
  itself : Needs r t t
  asked : {v u : T} → Needs r t v → is_in r u (r.run v (known r)).asked ≡ true → Needs r t u
