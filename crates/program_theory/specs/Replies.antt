-- How blame is told, and what a request is answered with.
use Rattle.std.specs.Prelude.{ℕ, List, [], ◌∷◌, ◌++◌, map, codes}
use Rattle.by_need.specs.Asking.{Answer, Done, Raised, Asks, Otherwise, over}
use Rattle.by_need.specs.Blame.{Cause, Fault, Circle, Ended, blame}
use Rattle.by_need.specs.Rounds.{known}
use Rattle.ruby_types.specs.Paths.{path_text}
use Rattle.ruby_types.specs.declared.value.Value.{Value}
use Rattle.ruby_types.specs.declared.request.ErrorClass.TheVariants as class
use Rattle.ruby_types.specs.declared.request.RubyError.{RubyError}
use Rattle.ruby_types.specs.declared.request.Reply.{Reply}
use Rattle.ruby_types.specs.declared.request.Request.{Request}
use Rattle.ruby_types.specs.declared.request.Task.{Task}
use Rattle.ruby_types.specs.declared.request.Task.TheVariants as task
use Rattle.ruby_builtin_base.specs.Printed.{error_text}
use Rattle.task_keys.specs.Names.{task_name}
use Rattle.program_places.specs.Paths.{Name}
use Rattle.ruby_runs.specs.declared.NoReply.{NoReply}
use Rattle.ruby_runs.specs.declared.NoReply.TheVariants.{NoController, NoAction}
use Rattle.program_theory.specs.Applications.{Application, rules_of, meaning_in}

-- the names with ` -> ` between them
abbrev pub arrows : List (List ℕ) → List ℕ
arrows [] = []
arrows (name ∷ []) = name
arrows (name ∷ next ∷ names) = name ++ (codes " -> " ++ arrows (next ∷ names))

-- A ring of tasks that ask for one another, from its least, without a path:
-- `LoadError: circular load: A -> ancestors of B`
abbrev pub circular : List Task → RubyError
circular ring =
    record { class = class.Load; message = codes "circular load: " ++ arrows (map task_name ring); path = [] }

-- What a blame is told as: the error that was raised, or the ring. (No task's blame is an end without an error.)
abbrev pub blame_error : Cause Task RubyError NoReply → RubyError
blame_error (Fault error) = error
blame_error (Circle ring) = circular ring
blame_error (Ended end) = circular []

-- What a request without a reply of its own is told: `no route`, `no controller Admin::PostsController`,
-- `no action show in Admin::PostsController`.
abbrev pub no_reply_text : (controller : List Name) → (action : Name) → NoReply → List ℕ
no_reply_text [] action end = codes "no route"
no_reply_text (segment ∷ segments) action (NoController path) = codes "no controller " ++ path_text path
no_reply_text (segment ∷ segments) action (NoAction path) =
    codes "no action " ++ (action ++ (codes " in " ++ path_text path))

-- a reply of a status (RFC 9110, section 15)
abbrev pub replied : ℕ → List ℕ → Reply
replied status body = record { status = status; body = body }

module _ (app : Application) where
  -- The reply by what the run of a request comes to: 200 with the value's `to_s`; 404 where there is no route, no
  -- controller or no action; 500 with the error as it is reported, or with the blame of the task that it waits for.
  abbrev pub reply_by : Request → Answer Task Value RubyError NoReply → Reply
  reply_by request (Done value) = replied 200 (app.rows.to_s value)
  reply_by request (Raised error) = replied 500 (error_text error)
  reply_by request (Asks t) = replied 500 (error_text (blame_error (blame (rules_of app) t)))
  reply_by request (Otherwise end) = replied 404 (no_reply_text request.controller request.action end)

  -- What a request is answered with, over all that is known of the application.
  abbrev pub reply_of : Request → Reply
  reply_of request = reply_by request (over (known (rules_of app)) (meaning_in app (task.Request request))).answer
