-- Which tasks of an application are loaded eagerly.
use Rattle.std.specs.Prelude.{◌≡◌, ℕ, Bool, true, List, map}
use Rattle.std.specs.List.{flat_map}
use Rattle.outside.specs.declared.files.FileEntry.{FileEntry}
use Rattle.eager_plan.specs.Plan.{AreEagerFiles}
use Rattle.program_index.specs.Content.{Content}
use Rattle.program_index.specs.Program.{tasks_of}
use Rattle.ruby_types.specs.declared.request.Task.{Task}
use Rattle.ruby_types.specs.declared.request.Task.TheVariants as task
use Rattle.tree_scan.specs.Sites.{path_at}

-- the program's files that are loaded, all or those of the plan, by their numbers in eager order
abbrev pub AreLoaded : Content → (only_plan : Bool) → (numbers : List ℕ) → Type 0
AreLoaded p only_plan numbers = AreEagerFiles p.files p.config p.sites.spelled only_plan numbers

-- the task that loads the file of this number
abbrev pub file_task : List FileEntry → (number : ℕ) → Task
file_task files number = task.File (path_at files number)

-- the tasks that load these files, in their order
abbrev pub file_tasks : Content → (numbers : List ℕ) → List Task
file_tasks p numbers = map (file_task p.files) numbers

-- all tasks of these files: in the order of the files, and each file's in its own
abbrev pub all_tasks : Content → (numbers : List ℕ) → List Task
all_tasks p numbers = flat_map (tasks_of p) numbers

-- The plan: the tasks that load the files which no line `skip_eager` marks, in eager order.
pub record IsPlan (p : Content) (tasks : List Task) : Type 0 where
  pub numbers : List ℕ
  pub loaded : AreLoaded p true numbers
  pub same : tasks ≡ file_tasks p numbers
