-- Which tasks of an application stay unknown, and in which order others are defined.
use Rattle.std.specs.Prelude.{◌≡◌, List, Option, map}
use Rattle.by_need.specs.Blame.{Cause}
use Rattle.by_need.specs.Rounds.{Rules}
use Rattle.by_need_check.specs.Checks.{LoadEach, blamed}
use Rattle.by_need_loader.specs.Ends.{defined_tasks}
use Rattle.ruby_types.specs.declared.request.RubyError.{RubyError}
use Rattle.ruby_types.specs.declared.request.Task.{Task}
use Rattle.ruby_types.specs.declared.value.Value.{Value}
use Rattle.ruby_runs.specs.declared.NoReply.{NoReply}
use Rattle.program_theory.specs.Replies.{blame_error}

-- a task with the error that its blame is told as
abbrev pub with_error : Task × Cause Task RubyError NoReply → Task × RubyError
with_error found = (found.0, blame_error found.1)

-- The tasks of a list that stay unknown, each with the error that its blame is told as, in the list's order.
abbrev pub unknown : Rules Task Value RubyError NoReply → List Task → List (Task × RubyError)
unknown r tasks = map with_error (blamed r tasks)

-- The tasks of a list were loaded one after another, whatever each came to: over the table J, which is now K; and these
-- were defined, in this order.
pub record AreDefined (r : Rules Task Value RubyError NoReply) (J : Task → Option Value) (tasks : List Task)
    (K : Task → Option Value) (defined : List Task) : Type 0 where
  pub made : List (Task × Value)
  pub order : LoadEach r J tasks made K
  pub same : defined ≡ defined_tasks made
