-- Runs of tasks: a tree of questions, and what it comes to over what is known.
use Rattle.std.specs.Prelude.{List, [], ◌∷◌, Option, Some, None}

-- What a run comes to: a value, an error, a task whose value it lacks, or an ending of another kind.
pub data Answer (T V E O : Type 0) : Type 0 where
  Done : V → Answer T V E O
  Raised : E → Answer T V E O
  Asks : T → Answer T V E O
  Otherwise : O → Answer T V E O

-- A run's answer, and the tasks that it asked for, in order.
pub record Outcome (T V E O : Type 0) : Type 0 where
  pub answer : Answer T V E O
  pub asked : List T

-- A tree of questions: a result, or a task that is asked for and what follows each value of it.
pub data Asking (T V A : Type 0) : Type 0 where
  Gives : A → Asking T V A
  Ask : T → (V → Asking T V A) → Asking T V A

-- One tree after another.
abbrev pub then : {T V A B : Type 0} → Asking T V A → (A → Asking T V B) → Asking T V B
then (Gives a) next = next a
then (Ask u branch) next = Ask u (λ v. then (branch v) next)

-- How a run ends that lacks nothing.
pub data Ending (V E O : Type 0) : Type 0 where
  Value : V → Ending V E O
  Error : E → Ending V E O
  Other : O → Ending V E O

-- The tree of a task's run. Of a task that asks for b and adds 1 it is `Ask b (λ v. Gives (Value (v + 1)))`.
abbrev pub Computation : Type 0 → Type 0 → Type 0 → Type 0 → Type 0
Computation T V E O = Asking T V (Ending V E O)

-- The answer of a run that lacks nothing.
abbrev pub answer_of : {T V E O : Type 0} → Ending V E O → Answer T V E O
answer_of (Value v) = Done v
answer_of (Error e) = Raised e
answer_of (Other o) = Otherwise o

-- A question for u: the run stops where u is not known, and goes on with its value where it is.
abbrev pub with_value : {T V E O : Type 0} → T → (V → Outcome T V E O) → Option V → Outcome T V E O
with_value u go None = record { answer = Asks u; asked = u ∷ [] }
with_value u go (Some v) = record { answer = (go v).answer; asked = u ∷ (go v).asked }

-- The run over what is known.
abbrev pub over : {T V E O : Type 0} → (T → Option V) → Computation T V E O → Outcome T V E O
over known (Gives a) = record { answer = answer_of a; asked = [] }
over known (Ask u branch) = with_value u (λ v. over known (branch v)) (known u)
