-- The tasks of a program's files are tasks of its application.
use Rattle.std.proofs.Common.{◌≡◌, ℕ, zero, suc, List, [], ◌∷◌, Option, Some, None, true, slice_get}
use Rattle.std.proofs.Common.{inl, inr, refl, sym}
use Rattle.std.proofs.lemmas.Option.{none-some, same_Some}
use Rattle.by_need.specs.Open.{AllTasks}
use Rattle.by_need.specs.Rounds.{is_task}
use Rattle.ruby_types.specs.declared.request.Task.{Task}
use Rattle.program_files.specs.Files.{UsedFile}
use Rattle.program_files.specs.Members.{Among}
use Rattle.program_files.specs.Tasks.{file_tasks, tasks_of}
use Rattle.program_files.proofs.Lists.{among_flat}
use Rattle.program_outcomes.specs.Outcomes.{flat, listed}
use Rattle.program_outcomes.specs.Outcomes as outcomes
use Rattle.program_index.specs.Content.{Content, files_of, used_file, used_files}
use Rattle.program_index.specs.Program as program
use Rattle.program_theory.specs.Applications.{Application, rules_of}
use Rattle.program_theory.proofs.Tasks.{among_is_tested}
use Rattle.program_application.specs.Applications.{application_of}

-- the file that is used at a number is among those that are used
listed_among : (us : List (Option UsedFile)) (n : ℕ) (f : UsedFile) → flat (slice_get us n) ≡ Some f →
    Among f (listed us)
listed_among [] n f e = absurd (none-some f e)
listed_among (None ∷ us) zero f e = absurd (none-some f e)
listed_among (None ∷ us) (suc n) f e = listed_among us n f e
listed_among (Some g ∷ us) zero f e = inl (sym (same_Some g f e))
listed_among (Some g ∷ us) (suc n) f e = inr (listed_among us n f e)

-- a list of which each is a task
all_tasks : (app : Application) (ts : List Task) → ((t : Task) → Among t ts → is_task (rules_of app) t ≡ true) →
    AllTasks (rules_of app) ts
all_tasks app [] each = tt
all_tasks app (t ∷ ts) each = (each t (inl refl), all_tasks app ts (λ u m. each u (inr m)))

tasks_by_number : (p : Content) (number : ℕ) (o : Option UsedFile) → used_file p number ≡ o →
    AllTasks (rules_of (application_of p)) (outcomes.tasks_by (used_files p) o)
tasks_by_number p number None e = tt
tasks_by_number p number (Some f) e = all_tasks (application_of p) (file_tasks (used_files p) f) (λ t m.
    among_is_tested t (tasks_of (used_files p)) (among_flat (file_tasks (used_files p)) f t (used_files p)
    (listed_among (files_of p) number f e) m))

-- the tasks of the file of a number are tasks
pub tasks_are_tasks : (p : Content) (number : ℕ) →
    AllTasks (rules_of (application_of p)) (program.tasks_of p number)
tasks_are_tasks p number = tasks_by_number p number (used_file p number) refl
