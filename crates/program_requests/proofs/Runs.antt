-- The run of a request with replies at its ends asks and answers as the run without them.
use Rattle.std.proofs.Common.{◌≡◌, ◌∷◌, Option, Some, None, refl, ap}
use Rattle.by_need.specs.Asking.{Gives, Ask, over, with_value}
use Rattle.by_need.specs.Rounds.{known}
use Rattle.ruby_types.specs.declared.value.Value.{Value}
use Rattle.ruby_types.specs.declared.request.Request.{Request}
use Rattle.ruby_types.specs.declared.request.Task.{Task}
use Rattle.ruby_types.specs.declared.request.Task.TheVariants as task
use Rattle.ruby_runs.specs.Doing.{Meaning}
use Rattle.program_theory.specs.Applications.{Application, meaning_in, rules_of}
use Rattle.program_theory.specs.Replies.{reply_by, reply_of}
use Rattle.program_facts.specs.Generations.{asked_by}
use Rattle.request_actor.specs.Talks.{asked_next, asked_over, reply_next, reply_over}
use Rattle.program_requests.specs.Requests.{replying, request_run, failed_reply, unknown_for}

module _ (app : Application) (request : Request) (K : Task → Option Value) where
  asked_behind : (t : Task) (branch : Value → Meaning) →
      ((v : Value) → (over K (branch v)).asked ≡ asked_over K (replying app request (branch v))) →
      (o : Option Value) → (with_value t (λ v. over K (branch v)) o).asked
      ≡ t ∷ asked_next (λ v. asked_over K (replying app request (branch v))) o
  asked_behind t branch each None = refl
  asked_behind t branch each (Some v) = ap (λ ts. t ∷ ts) (each v)

  -- it asks for the same tasks
  pub asks_the_same : (run : Meaning) → (over K run).asked ≡ asked_over K (replying app request run)
  asks_the_same (Gives end) = refl
  asks_the_same (Ask t branch) = asked_behind t branch (λ v. asks_the_same (branch v)) (K t)

  reply_behind : (t : Task) (branch : Value → Meaning) →
      ((v : Value) → reply_by app request (over K (branch v)).answer
      ≡ reply_over K (λ u. failed_reply (unknown_for app u)) (replying app request (branch v))) →
      (o : Option Value) → reply_by app request (with_value t (λ v. over K (branch v)) o).answer
      ≡ reply_next (failed_reply (unknown_for app t))
      (λ v. reply_over K (λ u. failed_reply (unknown_for app u)) (replying app request (branch v))) o
  reply_behind t branch each None = refl
  reply_behind t branch each (Some v) = each v

  -- it has the same reply
  pub replies_the_same : (run : Meaning) → reply_by app request (over K run).answer
      ≡ reply_over K (λ u. failed_reply (unknown_for app u)) (replying app request run)
  replies_the_same (Gives end) = refl
  replies_the_same (Ask t branch) = reply_behind t branch (λ v. replies_the_same (branch v)) (K t)

-- a request asks for what its run asks for
pub request_asks : (app : Application) (request : Request) →
    asked_by app (task.Request request) ≡ asked_over (known (rules_of app)) (request_run app request)
request_asks app request =
    asks_the_same app request (known (rules_of app)) (meaning_in app (task.Request request))

-- a request's reply is that of its run
pub request_replies : (app : Application) (request : Request) → reply_of app request
    ≡ reply_over (known (rules_of app)) (λ t. failed_reply (unknown_for app t)) (request_run app request)
request_replies app request =
    replies_the_same app request (known (rules_of app)) (meaning_in app (task.Request request))
