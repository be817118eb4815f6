-- What the laws of a program speak of.
use Rattle.std.specs.Prelude.{◌≡◌, Contains}
use Rattle.by_need.specs.Asking.{Asks}
use Rattle.by_need.specs.Rounds.{Rules, known}
use Rattle.program_application.specs.Applications.{application_of}
use Rattle.program_facts.specs.Generations.{IsWellFormed}
use Rattle.program_files.specs.Tasks.{tasks_of}
use Rattle.program_index.specs.Content.{Content, used_files}
use Rattle.program_theory.specs.Applications.{rules_of}
use Rattle.ruby_runs.specs.declared.NoReply.{NoReply}
use Rattle.ruby_types.specs.declared.request.RubyError.{RubyError}
use Rattle.ruby_types.specs.declared.request.Task.{Task}
use Rattle.ruby_types.specs.declared.request.Task.TheVariants as task
use Rattle.ruby_types.specs.declared.value.Value.{Value}

-- A program's tasks and their runs, as rules of loading by need.
abbrev pub rules_in : Content → Rules Task Value RubyError NoReply
rules_in p = rules_of (application_of p)

-- A task of one of the files that a program uses.
abbrev pub IsTaskOf : Content → Task → Type 0
IsTaskOf p t = Contains (tasks_of (used_files p)) t

-- A request's parameters have texts and distinct names.
abbrev pub MayRun : Task → Type 0
MayRun (task.File file) = Unit {0}
MayRun (task.Const path) = Unit {0}
MayRun (task.Ancestors path) = Unit {0}
MayRun (task.Request request) = IsWellFormed request

-- The one task waits for the other, over all that is known, directly or through others. On a ring each leads to each.
pub data LeadsTo {T V E O : Type 0} (r : Rules T V E O) (t : T) : T → Type 0 where
  here : LeadsTo r t t
  on : {u v : T} → LeadsTo r t u → (r.run u (known r)).answer ≡ Asks v → LeadsTo r t v
