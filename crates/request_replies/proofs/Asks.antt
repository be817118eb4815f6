-- What the run of a request asks for, and what it is replied.
use Rattle.std.proofs.Common.{◌≡◌, Option, ap, ap₂, sym, subst, ◌∙◌}
use Rattle.by_need.specs.Asking.{over}
use Rattle.by_need.specs.Rounds.{Rules, known}
use Rattle.by_need_answer.specs.Answers.{Answers, AsksForTasks}
use Rattle.by_need_answer.specs.declared.answer.Answered.{Answered}
use Rattle.by_need_loader.specs.Gained.{GainsFor}
use Rattle.program_theory.proofs.Lawful.{asked_is_task}
use Rattle.program_theory.specs.Applications.{Application, meaning_in, rules_of}
use Rattle.program_theory.specs.Replies.{reply_by, reply_of}
use Rattle.request_replies.specs.Runs.{IsRunOf, asked_by}
use Rattle.ruby_builtin_base.specs.Printed.{to_s}
use Rattle.ruby_runs.specs.declared.NoReply.{NoReply}
use Rattle.ruby_runs.specs.Doing.{Meaning}
use Rattle.ruby_types.specs.declared.request.Reply.{Reply}
use Rattle.ruby_types.specs.declared.request.Request.{Request}
use Rattle.ruby_types.specs.declared.request.RubyError.{RubyError}
use Rattle.ruby_types.specs.declared.request.Task.{Task}
use Rattle.ruby_types.specs.declared.request.Task.TheVariants as task
use Rattle.ruby_types.specs.declared.value.Value.{Value}

module _ (app : Application) (request : Request) (r : Rules Task Value RubyError NoReply) (left : Meaning)
    (is : IsRunOf app request r left) where
  -- the run of a request asks for tasks
  pub asks_for_tasks : AsksForTasks r left
  asks_for_tasks = subst (λ (rules : Rules Task Value RubyError NoReply). AsksForTasks rules left) (sym is.rules)
      (subst (λ run. AsksForTasks (rules_of app) run) (sym is.run)
      (λ u h. asked_is_task app (task.Request request) u (known (rules_of app)) h))

  -- what the run of a request comes to is its reply
  pub replied_so : (answered : Answered Task Value RubyError NoReply) (reply : Reply) →
      ((a : Application) (run : Meaning) → ((value : Value) → a.rows.to_s value ≡ to_s value) →
      Answers (rules_of a) run answered → reply ≡ reply_by a request (over (known (rules_of a)) run).answer) →
      Answers r left answered → reply ≡ reply_of app request
  replied_so answered reply told answers =
      told app left is.printed
      (subst (λ (rules : Rules Task Value RubyError NoReply). Answers rules left answered) is.rules answers)
      ∙ ap (λ run. reply_by app request (over (known (rules_of app)) run).answer) is.run

  -- what the run of a request asks for is what the request does
  pub gained_so : (J K : Task → Option Value) → GainsFor r (over (known r) left).asked J K →
      GainsFor (rules_of app) (asked_by app request) J K
  gained_so J K gains =
      subst (λ run. GainsFor (rules_of app) (over (known (rules_of app)) run).asked J K) is.run
      (subst (λ (rules : Rules Task Value RubyError NoReply). GainsFor rules (over (known rules) left).asked J K)
      is.rules gains)
