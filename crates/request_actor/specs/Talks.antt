-- Runs of requests: trees of questions that end with a reply.
use Rattle.std.specs.Prelude.{◌≡◌, List, [], ◌∷◌, Option, Some, None, Contains}
use Rattle.by_need.specs.Asking.{Asking, Gives, Ask}
use Rattle.system_events.specs.Facts.{Facts}
use Rattle.request_actor.specs.declared.requests.Asked.{Asked}
use Rattle.request_actor.specs.declared.requests.Asked.TheVariants.{Replies, Asks}

-- what follows a question over what is known: the tasks that are asked for after it, none where its task isn't known
abbrev pub asked_next : {T V : Type 0} → (V → List T) → Option V → List T
asked_next more None = []
asked_next more (Some value) = more value

-- the tasks that a run asks for over what is known, in order; the last one may be unknown
abbrev pub asked_over : {T V R : Type 0} → (T → Option V) → Asking T V R → List T
asked_over known (Gives reply) = []
asked_over known (Ask task branch) = task ∷ asked_next (λ value. asked_over known (branch value)) (known task)

-- the reply behind a question; where its task isn't known, the reply of the failed load
abbrev pub reply_next : {V R : Type 0} → R → (V → R) → Option V → R
reply_next failed more None = failed
reply_next failed more (Some value) = more value

-- the reply of a run over what is known, where tasks that aren't known have these replies
abbrev pub reply_over : {T V R : Type 0} → (T → Option V) → (T → R) → Asking T V R → R
reply_over known failed (Gives reply) = reply
reply_over known failed (Ask task branch) =
    reply_next (failed task) (λ value. reply_over known failed (branch value)) (known task)

-- What runs of requests mean. T: tasks. V: values. P: programs. Q: requests. R: replies. E: why a task stays unknown.
-- G: runs that go on. W: runs that wait.
pub record Talks (T V P Q R E G W : Type 0) : Type 0 where
  -- the whole run of a request on a program
  pub whole : P → Q → Asking T V R
  -- what is left of a run that goes on
  pub rest : G → Asking T V R
  -- what is left of a waiting run behind each value that it may be given
  pub branch : W → V → Asking T V R
  -- the reply of a request that asked for a task which stays unknown for this reason
  pub failed : E → R
  -- why a task stays unknown
  pub blame : P → T → E

-- What is left of a run comes next to this: its reply, or a question at which it waits, with the branches behind it.
abbrev pub Reaches : {T V R W : Type 0} → (W → V → Asking T V R) → Asking T V R → Asked T R W → Type 0
Reaches branch rest (Replies reply) = rest ≡ Gives reply
Reaches branch rest (Asks task waiting) = rest ≡ Ask task (branch waiting)

-- A request's reply, and the tasks that it asks for, are what its run comes to over all that is known; an unknown task
-- gives the reply of its blame. A request that may begin asks for tasks of the program alone.
pub record AreOf {T V P Q R F E G W : Type 0} (f : Facts T V P Q R F) (talks : Talks T V P Q R E G W) : Type 0 where
  pub asked : (p : P) (q : Q) → f.request_asked p q ≡ asked_over (f.known p) (talks.whole p q)
  pub reply : (p : P) (q : Q) →
      f.reply p q ≡ reply_over (f.known p) (λ task. talks.failed (talks.blame p task)) (talks.whole p q)
  pub tasks : (p : P) (q : Q) (task : T) → f.IsRequest q → Contains (f.request_asked p q) task →
      Contains (f.tasks p) task
