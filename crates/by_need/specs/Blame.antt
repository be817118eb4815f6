-- Who is to blame for a task that stays unknown.
use Rattle.std.specs.Prelude.{ℕ, zero, suc, List, [], ◌∷◌, length, cond}
use Rattle.by_need.specs.Asking.{Answer, Done, Raised, Asks, Otherwise}
use Rattle.by_need.specs.Rounds.{Rules, known}

-- An error that a run raised, a ring of tasks that ask for one another, or an ending of another kind.
pub data Cause (T E O : Type 0) : Type 0 where
  Fault : E → Cause T E O
  Circle : List T → Cause T E O
  Ended : O → Cause T E O

-- The task that the run of t over all that is known waits for; t itself where it waits for none.
abbrev pub asked_by : {T V E O : Type 0} → T → Answer T V E O → T
asked_by t (Done v) = t
asked_by t (Raised e) = t
asked_by t (Asks u) = u
asked_by t (Otherwise o) = t

-- Where one question leads, over all that is known.
abbrev pub next : {T V E O : Type 0} → Rules T V E O → T → T
next r t = asked_by t (r.run t (known r)).answer

-- Where n questions lead.
abbrev pub follow : {T V E O : Type 0} → Rules T V E O → ℕ → T → T
follow r zero t = t
follow r (suc n) t = follow r n (next r t)

-- The n tasks on that way, the first one included.
abbrev pub walk : {T V E O : Type 0} → Rules T V E O → ℕ → T → List T
walk r zero t = []
walk r (suc n) t = t ∷ walk r n (next r t)

-- The least of t and the list, by the order of tasks.
abbrev pub least_of : {T V E O : Type 0} → Rules T V E O → T → List T → T
least_of r t [] = t
least_of r t (u ∷ us) = cond (r.at_most t u) (least_of r t us) (least_of r u us)

-- The front of the list, up to t.
abbrev pub until : {T V E O : Type 0} → Rules T V E O → T → List T → List T
until r t [] = []
until r t (u ∷ us) = cond (r.same u t) [] (u ∷ until r t us)

-- A task on a ring, and then the others of the ring, as each asks for the next.
abbrev pub circle_of : {T V E O : Type 0} → Rules T V E O → T → List T
circle_of r t = t ∷ until r t (walk r (length r.tasks) (next r t))

-- The ring that t is on, from its least task.
abbrev pub ring_of : {T V E O : Type 0} → Rules T V E O → T → List T
ring_of r t = circle_of r (least_of r t (walk r (length r.tasks) t))

-- What stands where all questions end. (A known task has no blame: the empty circle there says nothing.)
abbrev pub cause_at : {T V E O : Type 0} → Rules T V E O → T → Answer T V E O → Cause T E O
cause_at r t (Done v) = Circle []
cause_at r t (Raised e) = Fault e
cause_at r t (Asks u) = Circle (ring_of r t)
cause_at r t (Otherwise o) = Ended o

-- The same, by the task's run over all that is known.
abbrev pub cause_of : {T V E O : Type 0} → Rules T V E O → T → Cause T E O
cause_of r t = cause_at r t (r.run t (known r)).answer

-- The blame of a task that stays unknown: follow as many questions as there are tasks. That leads to a task whose run
-- raises or ends otherwise, which is the cause, or onto a ring, which is named from its least task.
abbrev pub blame : {T V E O : Type 0} → Rules T V E O → T → Cause T E O
blame r t = cause_of r (follow r (length r.tasks) t)
