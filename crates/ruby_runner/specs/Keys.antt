-- Keys tell the tasks of an application apart.
use Rattle.std.specs.Prelude.{◌≡◌, true}
use Rattle.by_need.specs.Rounds.{is_task}
use Rattle.ruby_types.specs.declared.request.Task.{Task}
use Rattle.ruby_types.specs.declared.request.Task.TheVariants as task
use Rattle.task_keys.specs.Keys.{same_key}
use Rattle.task_keys.specs.Names.{IsLoad}
use Rattle.task_keys.specs.Same.{same_task}
use Rattle.task_keys.proofs.KeyLaws.{key_is_same}
use Rattle.ruby_runs.specs.Asked.{IsRequest}
use Rattle.program_theory.specs.Applications.{Application, rules_of}
use Rattle.program_theory.proofs.Tasks.{tasks_are_no_requests}

is_load : (t : Task) → (IsRequest t → ⊥) → IsLoad t
is_load (task.File file) n = tt
is_load (task.Const path) n = tt
is_load (task.Ancestors path) n = tt
is_load (task.Request request) n = n tt

-- A task of an application is no request.
pub task_is_load : (app : Application) (t : Task) → is_task (rules_of app) t ≡ true → IsLoad t
task_is_load app t h = is_load t (tasks_are_no_requests app t h)

-- Two tasks of an application have one key exactly where they are the same.
pub keys_tell_apart : (app : Application) (a b : Task) → is_task (rules_of app) a ≡ true →
    is_task (rules_of app) b ≡ true → same_key a b ≡ same_task a b
keys_tell_apart app a b h k = key_is_same a b (task_is_load app a h) (task_is_load app b k)
