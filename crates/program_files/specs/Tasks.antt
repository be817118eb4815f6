-- The tasks of a file and of an application, and the index that runs look at.
use Rattle.std.specs.Prelude.{ℕ, Bool, false, not, List, [], ◌∷◌, ◌++◌, map, filter, Option, Some, None, bytes_eq}
use Rattle.std.specs.Prelude.{cond, is_some}
use Rattle.std.specs.List.{flat_map, list_any, filter_map}
use Rattle.ruby_types.specs.declared.request.RubyError.{RubyError}
use Rattle.ruby_types.specs.declared.request.Task.{Task}
use Rattle.ruby_types.specs.declared.request.Task.TheVariants as task
use Rattle.program_places.specs.Paths.{Name, Path, same_path, levels}
use Rattle.program_places.specs.Places.{Index, Loading, Absent, Fails, AsksFor}
use Rattle.program_files.specs.Files.{UsedFile, entries, file_of, file_at, is_above}
use Rattle.program_files.specs.Faults.{Kind, a_module, a_class, a_value, is_definition, kind_in, file_fault}
use Rattle.program_files.specs.Contents.{place_of}

-- A path at the head of a list, unless it stands in it behind.
abbrev pub without : Path → List Path → List Path
without path paths = filter (λ p. not (same_path path p)) paths

-- the paths in their order, each at its first place alone
abbrev pub once : List Path → List Path
once [] = []
once (path ∷ paths) = path ∷ without path (once paths)

-- The constants that a file opens or assigns, each once, in text order.
abbrev pub defined_by : UsedFile → List Path
defined_by file = once (flat_map (λ e. cond (is_definition e) (e.constant ∷ []) []) (entries file))

-- Const, and after it Ancestors of a module or class.
abbrev pub kind_tasks : Path → Option Kind → List Task
kind_tasks path None = []
kind_tasks path (Some a_module) = task.Const path ∷ task.Ancestors path ∷ []
kind_tasks path (Some a_class) = task.Const path ∷ task.Ancestors path ∷ []
kind_tasks path (Some (a_value x scopes)) = task.Const path ∷ []

-- The tasks of the definitions inside the file's constant.
abbrev pub inner_tasks : UsedFile → List Task
inner_tasks file = flat_map (λ path. kind_tasks path (kind_in (entries file) path))
    (filter (λ p. not (is_above p file.constant)) (defined_by file))

-- A file at fault has three tasks.
abbrev pub tasks_by : UsedFile → Option RubyError → List Task
tasks_by file (Some error) = task.File file.path ∷ task.Const file.constant ∷ task.Ancestors file.constant ∷ []
tasks_by file None = task.File file.path ∷ inner_tasks file

-- the tasks of a file among these files, in their order
abbrev pub file_tasks : List UsedFile → UsedFile → List Task
file_tasks files file = tasks_by file (file_fault files file)

-- All tasks, file by file.
abbrev pub tasks_of : List UsedFile → List Task
tasks_of files = flat_map (file_tasks files) files

-- The files of the enclosing namespaces, from the outermost on.
abbrev pub around_files : List UsedFile → UsedFile → List UsedFile
around_files files file = filter_map (λ p. cond (is_above p file.constant) (file_of files p) None)
    (levels file.constant)

-- what loading a file does, by its fault
abbrev pub loading_by : List UsedFile → UsedFile → Option RubyError → Loading
loading_by files file (Some error) = Fails error
loading_by files file None = AsksFor (map (λ f. task.Const f.constant) (around_files files file) ++ inner_tasks file)

-- what loading does where this file is found, or none
abbrev pub loading_at : List UsedFile → Option UsedFile → Loading
loading_at files None = Absent
loading_at files (Some file) = loading_by files file (file_fault files file)

-- the owner is this file, or that of an enclosing namespace
abbrev pub near_by : List UsedFile → List ℕ → Option UsedFile → Bool
near_by files owner None = false
near_by files owner (Some file) = list_any (λ f. bytes_eq f.path owner) (file ∷ around_files files file)

-- The index of the files, where a controller's name is made so.
abbrev pub index_of : List UsedFile → (List Name → Path) → Index
index_of files controller = record {
  place = place_of files;
  loading = λ path. loading_at files (file_at files path);
  near = λ from to. near_by files to (file_at files from);
  controller = controller;
  has_file = λ path. is_some (file_of files path);
}
