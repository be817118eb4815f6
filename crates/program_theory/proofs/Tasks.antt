-- No task of an application's files is a request, and what its index owes are tasks by their test.
use Rattle.std.proofs.Common.{◌≡◌, true, List, [], ◌∷◌, flat_map, Option, Some, None, inl, inr, sym, subst}
use Rattle.std.specs.List.{list_any}
use Rattle.std.proofs.lemmas.Bool.{false≢true, or_cases, or_left, or_right}
use Rattle.by_need.specs.Rounds.{is_task}
use Rattle.ruby_types.specs.declared.request.RubyError.{RubyError}
use Rattle.ruby_types.specs.declared.request.Task.{Task}
use Rattle.ruby_types.specs.declared.request.Task.TheVariants as task
use Rattle.task_keys.specs.Same.{same_task}
use Rattle.task_keys.proofs.SameTasks.{same_is, same_self}
use Rattle.program_places.specs.Paths.{Path}
use Rattle.program_places.specs.Places.{Index}
use Rattle.program_places.specs.Tasks.{EachIs, HasTasks}
use Rattle.program_files.specs.Members.{Among}
use Rattle.program_files.specs.Files.{UsedFile, entries}
use Rattle.program_files.specs.Faults.{Kind, a_module, a_class, a_value, kind_in, file_fault}
use Rattle.program_files.specs.Tasks.{kind_tasks, tasks_by, file_tasks, tasks_of}
use Rattle.program_files.proofs.Lists.{among_cases}
use Rattle.program_files.proofs.Index.{has_tasks}
use Rattle.ruby_runs.specs.Asked.{IsRequest}
use Rattle.program_theory.specs.Applications.{Application, index_in, rules_of}

-- ---- members by the test and by the list

-- what passes the test of a member is one
pub test_is_among : (t : Task) (ts : List Task) → list_any (same_task t) ts ≡ true → Among t ts
test_is_among t [] h = absurd (false≢true h)
test_is_among t (x ∷ xs) h =
    elim (or_cases (same_task t x) _ h) [ inl e ↦ inl (same_is t x e) | inr e ↦ inr (test_is_among t xs e) ]

-- a member passes the test
pub among_is_tested : (t : Task) (ts : List Task) → Among t ts → list_any (same_task t) ts ≡ true
among_is_tested t [] h = absurd h
among_is_tested t (x ∷ xs) (inl e) =
    or_left (same_task t x) _ (subst (λ y. same_task t y ≡ true) e (same_self t))
among_is_tested t (x ∷ xs) (inr h) = or_right (same_task t x) _ (among_is_tested t xs h)

-- what holds of each of a list holds of what passes the test of a member
pub each_is_of_tested : (P : Task → Type 0) (u : Task) (ts : List Task) → EachIs P ts →
    list_any (same_task u) ts ≡ true → P u
each_is_of_tested P u [] each h = absurd (false≢true h)
each_is_of_tested P u (x ∷ xs) each h = elim (or_cases (same_task u x) _ h) [
  | inl e ↦ subst P (sym (same_is u x e)) each.0
  | inr e ↦ each_is_of_tested P u xs each.1 e
]

-- ---- what the index owes

module _ {P Q : Task → Type 0} (to : (t : Task) → P t → Q t) where
  each_by : (ts : List Task) → EachIs P ts → EachIs Q ts
  each_by [] each = tt
  each_by (t ∷ ts) each = (to t each.0, each_by ts each.1)

  tasks_by_another : (index : Index) → HasTasks index P → HasTasks index Q
  tasks_by_another index has = record {
    file = λ path file content is. to (task.File file) (has.file path file content is);
    const = λ path file content is. to (task.Const path) (has.const path file content is);
    faulty = λ path file error is. to (task.Ancestors path) (has.faulty path file error is);
    opened = λ path file opening is. to (task.Ancestors path) (has.opened path file opening is);
    asks = λ file tasks is. each_by tasks (has.asks file tasks is);
  }

-- what runs look up has the application's tasks
pub index_has_tasks : (app : Application) → HasTasks (index_in app) (λ t. is_task (rules_of app) t ≡ true)
index_has_tasks app =
    tasks_by_another (λ t. among_is_tested t (tasks_of app.files)) (index_in app) (has_tasks app.files app.controller)

-- ---- no task is a request

abbrev NoRequest : Task → Type 0
NoRequest t = IsRequest t → ⊥

among_flat_of : {A : Type 0} (f : A → List Task) → ((x : A) (t : Task) → Among t (f x) → NoRequest t) →
    (t : Task) (xs : List A) → Among t (flat_map f xs) → NoRequest t
among_flat_of f each t [] h = absurd h
among_flat_of f each t (x ∷ xs) h =
    elim (among_cases t (f x) (flat_map f xs) h) [ inl k ↦ each x t k | inr k ↦ among_flat_of f each t xs k ]

no_request : {t u : Task} → t ≡ u → NoRequest u → NoRequest t
no_request e n = subst NoRequest (sym e) n

kind_tasks_are_loads : (path : Path) (o : Option Kind) (t : Task) → Among t (kind_tasks path o) → NoRequest t
kind_tasks_are_loads path None t h = absurd h
kind_tasks_are_loads path (Some a_module) t (inl e) = no_request e (λ r. r)
kind_tasks_are_loads path (Some a_module) t (inr (inl e)) = no_request e (λ r. r)
kind_tasks_are_loads path (Some a_module) t (inr (inr h)) = absurd h
kind_tasks_are_loads path (Some a_class) t (inl e) = no_request e (λ r. r)
kind_tasks_are_loads path (Some a_class) t (inr (inl e)) = no_request e (λ r. r)
kind_tasks_are_loads path (Some a_class) t (inr (inr h)) = absurd h
kind_tasks_are_loads path (Some (a_value x scopes)) t (inl e) = no_request e (λ r. r)
kind_tasks_are_loads path (Some (a_value x scopes)) t (inr h) = absurd h

tasks_by_are_loads : (file : UsedFile) (o : Option RubyError) (t : Task) → Among t (tasks_by file o) → NoRequest t
tasks_by_are_loads file (Some error) t (inl e) = no_request e (λ r. r)
tasks_by_are_loads file (Some error) t (inr (inl e)) = no_request e (λ r. r)
tasks_by_are_loads file (Some error) t (inr (inr (inl e))) = no_request e (λ r. r)
tasks_by_are_loads file (Some error) t (inr (inr (inr h))) = absurd h
tasks_by_are_loads file None t (inl e) = no_request e (λ r. r)
tasks_by_are_loads file None t (inr h) =
    among_flat_of _ (λ path. kind_tasks_are_loads path (kind_in (entries file) path)) t _ h

files_tasks_are_loads : (files : List UsedFile) (t : Task) → Among t (tasks_of files) → NoRequest t
files_tasks_are_loads files t h =
    among_flat_of (file_tasks files) (λ file. tasks_by_are_loads file (file_fault files file)) t files h

-- no task of an application is a request
pub tasks_are_no_requests : (app : Application) (t : Task) → is_task (rules_of app) t ≡ true → IsRequest t → ⊥
tasks_are_no_requests app t h = files_tasks_are_loads app.files t (test_is_among t (tasks_of app.files) h)
