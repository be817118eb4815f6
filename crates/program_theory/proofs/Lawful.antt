-- The rules of an application are lawful.
use Rattle.std.proofs.Common.{◌≡◌, true, Option}
use Rattle.by_need.specs.Asking.{Otherwise}
use Rattle.by_need.specs.Blame.{Ended, blame}
use Rattle.by_need.specs.Laws.{Lawful}
use Rattle.by_need.specs.Rounds.{is_in, is_task, known}
use Rattle.by_need.proofs.Trees.{lawful}
use Rattle.by_need.proofs.Blames.{never_ended}
use Rattle.ruby_types.specs.declared.value.Value.{Value}
use Rattle.ruby_types.specs.declared.request.Task.{Task}
use Rattle.ruby_types.specs.declared.request.Task.TheVariants as task
use Rattle.task_keys.specs.Names.{IsLoad, at_most}
use Rattle.task_keys.specs.Same.{same_task}
use Rattle.task_keys.proofs.TaskOrder.{total, chain, untied}
use Rattle.task_keys.proofs.SameTasks.{same_is, same_self}
use Rattle.program_files.specs.Tasks.{tasks_of}
use Rattle.ruby_runs.specs.declared.NoReply.{NoReply}
use Rattle.ruby_runs.specs.Asked.{IsRequest}
use Rattle.ruby_runs.proofs.Asked.{asked_are_tasks, other_ends_are_requests}
use Rattle.program_theory.specs.Applications.{Application, index_in, meaning_in, rules_of}
use Rattle.program_theory.proofs.Tasks.{each_is_of_tested, index_has_tasks, tasks_are_no_requests}

-- what the run of a task or a request asks for, over whatever is known, is a task
pub asked_is_task : (app : Application) (t u : Task) (K : Task → Option Value) →
    is_in (rules_of app) u ((rules_of app).run t K).asked ≡ true → is_task (rules_of app) u ≡ true
asked_is_task app t u K h =
    each_is_of_tested (λ x. is_task (rules_of app) x ≡ true) u ((rules_of app).run t K).asked
    (asked_are_tasks (index_in app) app.rows app.limits (is_task (rules_of app)) (index_has_tasks app) t K) h

is_load : (t : Task) → (IsRequest t → ⊥) → IsLoad t
is_load (task.File file) n = tt
is_load (task.Const path) n = tt
is_load (task.Ancestors path) n = tt
is_load (task.Request request) n = n tt

task_is_load : (app : Application) (t : Task) → is_task (rules_of app) t ≡ true → IsLoad t
task_is_load app t h = is_load t (tasks_are_no_requests app t h)

-- the rules of an application meet all laws of loading by need
pub rules_lawful : (app : Application) → Lawful (rules_of app)
rules_lawful app = lawful same_task at_most (tasks_of app.files) (meaning_in app) same_is same_self total chain
    (λ a b h k p q. untied a b (task_is_load app a h) (task_is_load app b k) p q)
    (λ t u m. asked_is_task app t u (known (rules_of app)) m)

-- the run of a task has a value, an error or a question
pub tasks_end : (app : Application) (t : Task) (K : Task → Option Value) (end : NoReply) →
    is_task (rules_of app) t ≡ true → ((rules_of app).run t K).answer ≡ Otherwise end → ⊥
tasks_end app t K end h e =
    tasks_are_no_requests app t h (other_ends_are_requests (index_in app) app.rows app.limits t K end e)

-- the blame of a task is an error or a ring
pub blame_ends : (app : Application) (t : Task) (end : NoReply) → is_task (rules_of app) t ≡ true →
    blame (rules_of app) t ≡ Ended end → ⊥
blame_ends app t end h = never_ended (rules_of app) (rules_lawful app)
    (λ u o k e. tasks_end app u (known (rules_of app)) o k e) t end h
