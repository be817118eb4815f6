-- Runs of requests to an application, which end with their replies.
use Rattle.by_need.specs.Asking.{Asking, Gives, Ask, answer_of}
use Rattle.by_need.specs.Blame.{blame}
use Rattle.ruby_types.specs.declared.value.Value.{Value}
use Rattle.ruby_types.specs.declared.request.RubyError.{RubyError}
use Rattle.ruby_types.specs.declared.request.Reply.{Reply}
use Rattle.ruby_types.specs.declared.request.Request.{Request}
use Rattle.ruby_types.specs.declared.request.Task.{Task}
use Rattle.ruby_types.specs.declared.request.Task.TheVariants as task
use Rattle.ruby_builtin_base.specs.Printed.{error_text}
use Rattle.ruby_runs.specs.Doing.{Meaning}
use Rattle.program_theory.specs.Applications.{Application, meaning_in, rules_of}
use Rattle.program_theory.specs.Replies.{blame_error, replied, reply_by}
use Rattle.program_facts.specs.Generations.{Generations}
use Rattle.request_actor.specs.Talks.{Talks}

-- a run with the reply in the place of its end
abbrev pub replying : Application → Request → Meaning → Asking Task Value Reply
replying app request (Gives end) = Gives (reply_by app request (answer_of end))
replying app request (Ask t branch) = Ask t (λ value. replying app request (branch value))

-- The whole run of a request: what it asks for, and its reply at the end.
abbrev pub request_run : Application → Request → Asking Task Value Reply
request_run app request = replying app request (meaning_in app (task.Request request))

-- The reply to a request that asked for a task whose load failed.
abbrev pub failed_reply : RubyError → Reply
failed_reply error = replied 500 (error_text error)

-- Why a task stays unknown: the error that its blame is told as.
abbrev pub unknown_for : Application → Task → RubyError
unknown_for app t = blame_error (blame (rules_of app) t)

-- What runs of requests mean to what serves them, where this is left of runs that go on and of those that wait.
abbrev pub talks_of : {P F G W : Type 0} → Generations P F → (G → Asking Task Value Reply) →
    (W → Value → Asking Task Value Reply) → Talks Task Value P Request Reply RubyError G W
talks_of g rest branch = record {
  whole = λ program request. request_run (g.application program) request;
  rest = rest;
  branch = branch;
  failed = failed_reply;
  blame = λ program t. unknown_for (g.application program) t;
}
