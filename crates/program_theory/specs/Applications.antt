-- The tasks of an application's files and their runs, as rules of loading by need: what is known of an application, and
-- who is to blame for what stays unknown.
use Rattle.std.specs.Prelude.{List}
use Rattle.by_need.specs.Rounds.{Rules, rules_by}
use Rattle.ruby_types.specs.declared.value.Value.{Value}
use Rattle.ruby_types.specs.declared.request.RubyError.{RubyError}
use Rattle.ruby_types.specs.declared.request.Task.{Task}
use Rattle.task_keys.specs.Names.{at_most}
use Rattle.task_keys.specs.Same.{same_task}
use Rattle.program_places.specs.Paths.{Name, Path}
use Rattle.program_places.specs.Places.{Index}
use Rattle.program_files.specs.Files.{UsedFile}
use Rattle.program_files.specs.Tasks.{tasks_of, index_of}
use Rattle.ruby_runs.specs.declared.NoReply.{NoReply}
use Rattle.ruby_runs.specs.BuiltIns.{BuiltIns}
use Rattle.ruby_runs.specs.Doing.{Meaning}
use Rattle.ruby_runs.specs.Runs.{Limits, meaning}

-- An application: its files, how a controller's constant is named, its built-in methods, and its limits.
pub record Application : Type 0 where
  pub files : List UsedFile
  pub controller : List Name → Path
  pub rows : BuiltIns
  pub limits : Limits

-- What its runs look up.
abbrev pub index_in : Application → Index
index_in app = index_of app.files app.controller

-- the run of a task or a request, as a tree of questions
abbrev pub meaning_in : Application → Task → Meaning
meaning_in app = meaning (index_in app) app.rows app.limits

-- The tasks of all its files, in the order of the files and of their texts; their order by name; and their runs.
-- `known (rules_of app)` is what is known of it, and `blame (rules_of app)` who is to blame for a task that isn't.
abbrev pub rules_of : Application → Rules Task Value RubyError NoReply
rules_of app = rules_by same_task at_most (tasks_of app.files) (meaning_in app)
