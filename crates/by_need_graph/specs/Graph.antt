-- Tasks that add up the values of others.
use Rattle.std.specs.Prelude.{ℕ, zero, suc, ◌+◌, ◌%◌, ◌^◌, List, [], ◌∷◌, length, drop, Option, Some, None, slice_get}
use Rattle.std.specs.Prelude.{Bool, ltb, leb, eqb}
use Rattle.std.specs.List.{list_all}
use Rattle.by_need.specs.Asking as runs
use Rattle.by_need.specs.Asking.{Computation, Gives, Ask, Value, Error, Other}
use Rattle.by_need.specs.Rounds.{Rules, rules_by}
use Rattle.by_need_graph.specs.declared.graph.Body.{Body}
use Rattle.by_need_graph.specs.declared.graph.Ending.{Ending}
use Rattle.by_need_graph.specs.declared.graph.Ending.TheVariants.{Sum, Fail, Stop}
use Rattle.by_need_graph.specs.declared.rounds.Answer.{Answer}
use Rattle.by_need_graph.specs.declared.rounds.Answer.TheVariants.{Done, Raised, Asks, Otherwise}

-- The end of a run that has come to a sum.
abbrev pub ends : ℕ → Ending → Computation ℕ ℕ ℕ ℕ
ends sum Sum = Gives (Value sum)
ends sum (Fail code) = Gives (Error code)
ends sum (Stop code) = Gives (Other code)

-- The questions in order, and then the end.
abbrev pub asks : ℕ → List ℕ → Ending → Computation ℕ ℕ ℕ ℕ
asks sum [] ending = ends sum ending
asks sum (t ∷ ts) ending = Ask t (λ v. asks ((sum + v) % 2 ^ 64) ts ending)

-- A task's run from one of its questions on.
abbrev pub from : Option Body → ℕ → ℕ → Computation ℕ ℕ ℕ ℕ
from None sum place = Gives (Other 0)
from (Some body) sum place = asks sum (drop place body.questions.items) body.ending

-- A task's run: it begins with 1.
abbrev pub meaning : List Body → ℕ → Computation ℕ ℕ ℕ ℕ
meaning bodies t = from (slice_get bodies t) 1 0

-- The numbers below n.
abbrev pub below : ℕ → List ℕ
below zero = []
below (suc n) = n ∷ below n

-- The tasks of a graph, ordered as numbers.
abbrev pub rules_of : List Body → Rules ℕ ℕ ℕ ℕ
rules_of bodies = rules_by eqb leb (below (length bodies)) (meaning bodies)

-- Each question is below n.
abbrev pub questions_below : ℕ → List ℕ → Bool
questions_below n ts = list_all (λ t. ltb t n) ts

-- Each question of each body is below n.
abbrev pub all_below : ℕ → List Body → Bool
all_below n bodies = list_all (λ body. questions_below n body.questions.items) bodies

-- A value that may be missing twice over is missing once.
abbrev pub inner : Option (Option ℕ) → Option ℕ
inner None = None
inner (Some value) = value

-- The value that a list of values has at a task.
abbrev pub value_at : List (Option ℕ) → ℕ → Option ℕ
value_at values t = inner (slice_get values t)

-- The program's answer, as the definition has it.
abbrev pub answer_of : Answer → runs.Answer ℕ ℕ ℕ ℕ
answer_of (Done v) = runs.Done v
answer_of (Raised code) = runs.Raised code
answer_of (Asks t) = runs.Asks t
answer_of (Otherwise code) = runs.Otherwise code
