-- The run of a request to an application, and what it asks for.
use Rattle.std.specs.Prelude.{◌≡◌, List}
use Rattle.by_need.specs.Asking.{over}
use Rattle.by_need.specs.Rounds.{Rules, known}
use Rattle.program_theory.specs.Applications.{Application, meaning_in, rules_of}
use Rattle.ruby_builtin_base.specs.Printed.{to_s}
use Rattle.ruby_runs.specs.declared.NoReply.{NoReply}
use Rattle.ruby_runs.specs.Doing.{Meaning}
use Rattle.ruby_types.specs.declared.request.Request.{Request}
use Rattle.ruby_types.specs.declared.request.RubyError.{RubyError}
use Rattle.ruby_types.specs.declared.request.Task.{Task}
use Rattle.ruby_types.specs.declared.request.Task.TheVariants as task
use Rattle.ruby_types.specs.declared.value.Value.{Value}

-- These are the rules of the application, and this is the run of the request to it. Its values are printed as `to_s` of
-- the profile prints them.
pub record IsRunOf (app : Application) (request : Request) (r : Rules Task Value RubyError NoReply) (left : Meaning) :
    Type 0 where
  pub rules : r ≡ rules_of app
  pub run : left ≡ meaning_in app (task.Request request)
  pub printed : (value : Value) → app.rows.to_s value ≡ to_s value

-- the tasks that the run of a request asks for over all that is known of the application, in order
abbrev pub asked_by : Application → Request → List Task
asked_by app request = (over (known (rules_of app)) (meaning_in app (task.Request request))).asked
