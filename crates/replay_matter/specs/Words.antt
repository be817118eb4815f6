-- How what a system does is told, and what targets ask for.
use Rattle.std.specs.Prelude.{ℕ, List}

-- T: tasks. P: programs. Q: requests. R: replies. C: causes of refusals.
pub record Words (T P Q R C : Type 0) : Type 0 where
  -- the name of a task
  pub task_name : T → List ℕ
  -- the texts that are logged where a task of a program is defined, in order
  pub logs : P → T → List (List ℕ)
  -- the status of a reply
  pub status : R → ℕ
  -- the body of a reply
  pub body : R → List ℕ
  -- the reply that tells why a request is refused
  pub refusal : C → R
  -- the request of a target
  pub request_of : List ℕ → Q
