-- What is true of a request on its way, where its answers are right.
use Rattle.std.specs.Prelude.{◌≡◌, List, [], ◌∷◌, ◌++◌, Some, None, true, is_some, Contains}
use Rattle.by_need.specs.Asking.{Asking, Ask}
use Rattle.system_events.specs.Facts.{Facts}
use Rattle.system_events.specs.declared.event.Cause.{Cause}
use Rattle.request_actor.specs.Talks.{Talks, asked_over, reply_over}
use Rattle.request_actor.specs.declared.actor.After.{After}
use Rattle.request_actor.specs.declared.actor.After.TheVariants as after
use Rattle.request_actor.specs.declared.actor.Stage.{Stage}
use Rattle.request_actor.specs.declared.actor.Stage.TheVariants as stage
use Rattle.request_actor.specs.declared.op.Op.{Op}
use Rattle.request_actor.specs.declared.op.Op.TheVariants as op
use Rattle.request_actor.specs.declared.op.Answered.{Answered}
use Rattle.request_actor.specs.declared.op.Answered.TheVariants as answer

module _ {M T V P Q R F W E : Type 0} where
  -- the tasks that were found so far, after one answer more
  abbrev pub found_after : Stage Q T W (Cause M T V P Q R F) → Answered V E (Cause M T V P Q R F) → List T → List T
  found_after (stage.Looks task waiting) (answer.Found value) found = found ++ task ∷ []
  found_after _ answered found = found

module _ {T V P Q R F G W E : Type 0} (f : Facts T V P Q R F) (talks : Talks T V P Q R E G W) (p : P) where
  -- This is left of a request's run: with the tasks that were found before it, it asks for what the whole run asks for,
  -- and it has the same reply.
  pub record IsLeft (q : Q) (found : List T) (rest : Asking T V R) : Type 0 where
    pub asks : f.request_asked p q ≡ found ++ asked_over (f.known p) rest
    pub replies : f.reply p q ≡ reply_over (f.known p) (λ task. talks.failed (talks.blame p task)) rest

module _ {M T V P Q R F : Type 0} where
  -- what comes behind an unload section
  abbrev pub IsAfter : Q → After Q (Cause M T V P Q R F) → Type 0
  IsAfter q (after.Begins request) = request ≡ q
  IsAfter q (after.Refuses cause) = Unit {0}

module _ {M T V P Q R F G W E : Type 0} (f : Facts T V P Q R F) (talks : Talks T V P Q R E G W) (p : P) where
  -- The request is on its way, on this program from its Begin on, and these tasks were found.
  abbrev pub IsOnWay : Q → List T → Stage Q T W (Cause M T V P Q R F) → Type 0
  IsOnWay q found (stage.Fresh request) = (request ≡ q) × (found ≡ [])
  IsOnWay q found (stage.Shares request) = (request ≡ q) × (found ≡ [])
  IsOnWay q found (stage.Checks request) = (request ≡ q) × (found ≡ [])
  IsOnWay q found (stage.Takes request) = (request ≡ q) × (found ≡ [])
  IsOnWay q found (stage.Reloads request) = (request ≡ q) × (found ≡ [])
  IsOnWay q found (stage.Releases next) = IsAfter q next × (found ≡ [])
  IsOnWay q found (stage.Resumes next) = IsAfter q next × (found ≡ [])
  IsOnWay q found (stage.Begins request) = (request ≡ q) × (found ≡ [])
  IsOnWay q found (stage.Looks task waiting) = IsLeft f talks p q found (Ask task (talks.branch waiting))
  IsOnWay q found (stage.Loads task waiting) = IsLeft f talks p q found (Ask task (talks.branch waiting))
  IsOnWay q found _ = Unit {0}

  -- A found value is the one that is known of the task, and a load fails for what is to blame that the task isn't
  -- known.
  abbrev pub IsRight : Stage Q T W (Cause M T V P Q R F) → Answered V E (Cause M T V P Q R F) → Type 0
  IsRight (stage.Looks task waiting) (answer.Found value) = f.known p task ≡ Some value
  IsRight (stage.Loads task waiting) (answer.Failed error) =
      (f.known p task ≡ None) × (error ≡ talks.blame p task)
  IsRight _ answered = Unit {0}

module _ {M T V P Q R F : Type 0} (f : Facts T V P Q R F) (p : P) where
  -- A reply is the request's, and all known tasks that it asks for were found. What is looked at or loaded is asked
  -- for.
  abbrev pub Holds : Q → List T → Op M T V P Q R F → Type 0
  Holds q found (op.End reply) = (reply ≡ f.reply p q)
      × ((task : T) → Contains (f.request_asked p q) task → is_some (f.known p task) ≡ true → Contains found task)
  Holds q found (op.Look task) = Contains (f.request_asked p q) task
  Holds q found (op.Load task) = Contains (f.request_asked p q) task
  Holds q found _ = Unit {0}

module _ {M T V P Q R F G W E : Type 0} (f : Facts T V P Q R F) (talks : Talks T V P Q R E G W) (p : P) where
  -- What is asked for after a right answer, from a stage to the next: the request is on its way still, and what is
  -- asked for holds.
  abbrev pub KeepsRight : Stage Q T W (Cause M T V P Q R F) → Answered V E (Cause M T V P Q R F) → Op M T V P Q R F →
      Stage Q T W (Cause M T V P Q R F) → Type 0
  KeepsRight old answered asked new =
      (q : Q) (found : List T) → IsOnWay f talks p q found old → IsRight f talks p old answered →
      IsOnWay f talks p q (found_after old answered found) new
      × Holds f p q (found_after old answered found) asked
