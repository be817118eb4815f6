-- The tables of an application's files: the constants that they own, those that they spell, and which are at fault.
-- Each file is used or not, and is told by its place.
use Rattle.std.specs.Prelude.{ℕ, suc, Bool, List, [], ◌∷◌, ◌++◌, map, Option, Some, None, is_some}
use Rattle.std.specs.List.{flat_map}
use Rattle.ruby_types.specs.declared.request.Task.{Task}
use Rattle.ruby_types.specs.declared.request.Task.TheVariants as task
use Rattle.program_places.specs.Paths.{Path}
use Rattle.program_files.specs.Files.{UsedFile}
use Rattle.program_owners.specs.declared.owned.Owned.{Owned}
use Rattle.program_standing.specs.Tables.{Tables}
use Rattle.program_used.specs.declared.used.UsedText.{UsedText}
use Rattle.program_outcomes.specs.declared.outcome.Outcome.{Outcome}
use Rattle.program_outcomes.specs.Outcomes.{listed, fault_by, tasks_by, fault_in, tasks_in}

-- the constant of a task, with the number of its file
abbrev pub owned_task : (number : ℕ) → Task → List Owned
owned_task number (task.File file) = []
owned_task number (task.Const path) = record { path = path; file = number } ∷ []
owned_task number (task.Ancestors path) = []
owned_task number (task.Request request) = []

-- the constants of the tasks of a file
abbrev pub owned_tasks : (number : ℕ) → List Task → List Owned
owned_tasks number tasks = flat_map (owned_task number) tasks

-- what files own whose numbers are counted from this one on
abbrev pub owned_from : (all : List UsedFile) → (number : ℕ) → List (Option UsedFile) → List Owned
owned_from all number [] = []
owned_from all number (file ∷ files) = owned_tasks number (tasks_by all file) ++ owned_from all (suc number) files

-- a file that is used and at fault
abbrev pub is_at_fault : (all : List UsedFile) → Option UsedFile → Bool
is_at_fault all file = is_some (fault_by all file)

-- The tables of files.
abbrev pub tables_of : List (Option UsedFile) → Tables
tables_of files = record {
  owned = owned_from (listed files) 0 files;
  spelled = map (λ f. f.constant) (listed files);
  at_fault = map (is_at_fault (listed files)) files;
}

-- the tasks of an outcome
abbrev pub tasks_of : Option Outcome → List Task
tasks_of outcome = tasks_in outcome []

-- what files own by their outcomes, whose numbers are counted from this one on
abbrev pub owned_in : (number : ℕ) → List (Option Outcome) → List Owned
owned_in number [] = []
owned_in number (outcome ∷ outcomes) = owned_tasks number (tasks_of outcome) ++ owned_in (suc number) outcomes

-- the outcome is one of a file at fault
abbrev pub has_fault : Option Outcome → Bool
has_fault outcome = is_some (fault_in outcome)

-- the constant of a file that has a text
abbrev pub constant_in : Option UsedText → List Path
constant_in None = []
constant_in (Some used) = used.constant ∷ []
