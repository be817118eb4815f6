-- The laws of a program's tasks, from those of its application.
use Rattle.std.proofs.Common.{◌≡◌, true, List, Option, refl, ◌∙◌, subst}
use Rattle.std.specs.Prelude.{Contains}
use Rattle.by_need.specs.Blame.{blame}
use Rattle.by_need.specs.Rounds.{is_in, is_task}
use Rattle.by_need.proofs.Blames.{next_asks, next_task}
use Rattle.by_need.proofs.OneBlame.{blame_asks}
use Rattle.program_application.specs.Applications.{application_of}
use Rattle.program_facts.proofs.Members.{found_is_there}
use Rattle.program_files.specs.Tasks.{tasks_of}
use Rattle.program_index.specs.Content.{Content, used_files}
use Rattle.program_index.specs.Program.{index_in}
use Rattle.program_replies.proofs.Profiled.{parameters_stand}
use Rattle.program_theory.proofs.Lawful.{asked_is_task, rules_lawful}
use Rattle.program_values.specs.Standing.{ParamsStand}
use Rattle.ruby_types.specs.declared.request.Task.{Task}
use Rattle.ruby_types.specs.declared.request.Task.TheVariants as task
use Rattle.ruby_types.specs.declared.value.Value.{Value}
use Rattle.program_laws.specs.Programs.{IsTaskOf, LeadsTo, here, on, MayRun, rules_in}

module _ (p : Content) where
  -- a task of the program is one by the rules' test
  pub task_is_tested : (t : Task) → IsTaskOf p t → is_task (rules_in p) t ≡ true
  task_is_tested t h = (found_is_there (application_of p) t (tasks_of (used_files p))).1 h

  -- what the rules' test finds is a task of the program
  pub tested_is_task : (t : Task) → is_task (rules_in p) t ≡ true → IsTaskOf p t
  tested_is_task t h = (found_is_there (application_of p) t (tasks_of (used_files p))).0 h

  -- what a run asks for is found by the rules' test
  pub asked_is_found : (t u : Task) (K : Task → Option Value) → Contains ((rules_in p).run t K).asked u →
      is_in (rules_in p) u ((rules_in p).run t K).asked ≡ true
  asked_is_found t u K h = (found_is_there (application_of p) u ((rules_in p).run t K).asked).1 h

  -- what a run asks for is a task of the program
  pub asked_is_own : (t u : Task) (K : Task → Option Value) → Contains ((rules_in p).run t K).asked u → IsTaskOf p u
  asked_is_own t u K h = tested_is_task u (asked_is_task (application_of p) t u K (asked_is_found t u K h))

  -- tasks that one leads to are tasks, and have its blame
  pub one_blame : (t v : Task) → IsTaskOf p t → LeadsTo (rules_in p) t v →
      (is_task (rules_in p) v ≡ true) × (blame (rules_in p) t ≡ blame (rules_in p) v)
  one_blame t v h here = (task_is_tested t h, refl)
  one_blame t v h (on {u} l e) =
      let laws = rules_lawful (application_of p) in
      let ih = one_blame t u h l in (
        subst (λ x. is_task (rules_in p) x ≡ true) (next_asks (rules_in p) u v e) (next_task (rules_in p) laws u ih.0),
        ih.1 ∙ blame_asks (rules_in p) laws u ih.0 v e,
      )

-- the parameters of what may run stand
pub params_stand : (p : Content) (t : Task) → MayRun t → ParamsStand (index_in p) t
params_stand p (task.File file) h = tt
params_stand p (task.Const path) h = tt
params_stand p (task.Ancestors path) h = tt
params_stand p (task.Request request) h = parameters_stand (index_in p) request h
