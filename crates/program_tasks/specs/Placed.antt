-- The tasks of definitions that stand at places of a list.
use Rattle.std.specs.Prelude.{ℕ, suc, Bool, true, false, not, ◌&&◌, ◌==◌, cond, List, [], ◌∷◌, ◌++◌, filter, Option}
use Rattle.std.specs.Prelude.{Some, None}
use Rattle.std.specs.List.{flat_map}
use Rattle.ruby_types.specs.declared.request.Task.{Task}
use Rattle.ruby_types.specs.declared.request.Task.TheVariants as task
use Rattle.program_places.specs.Paths.{Path}
use Rattle.program_files.specs.Entries.{Entry}
use Rattle.program_files.specs.Files.{UsedFile, entries, is_above}
use Rattle.program_files.specs.Faults.{is_definition, kind_in}
use Rattle.program_files.specs.Tasks.{kind_tasks, once}
use Rattle.program_constants.specs.Constants.{first_place}
use Rattle.program_faults.specs.declared.own.OwnKind.{OwnKind}
use Rattle.program_faults.specs.declared.own.OwnKind.TheVariants as own

-- Const, and after it Ancestors of a module or class
abbrev pub own_tasks : Path → OwnKind → List Task
own_tasks path own.Missing = []
own_tasks path own.Module = task.Const path ∷ task.Ancestors path ∷ []
own_tasks path own.Class = task.Const path ∷ task.Ancestors path ∷ []
own_tasks path own.Value = task.Const path ∷ []

-- it is this place
abbrev pub is_at : Option ℕ → ℕ → Bool
is_at None place = false
is_at (Some first) place = first == place

-- the tasks of a definition, where it is the first of its path and the path isn't above the constant
abbrev pub kept_tasks : (constant : Path) → (all : List Path) → (place : ℕ) → Path → OwnKind → List Task
kept_tasks constant all place path kind =
    cond (is_at (first_place path all) place && not (is_above path constant)) (own_tasks path kind) []

-- the tasks of definitions whose places are counted from this one on
abbrev pub placed_tasks : (constant : Path) → (all : List Path) → (place : ℕ) → List Path → List OwnKind → List Task
placed_tasks constant all place [] kinds = []
placed_tasks constant all place (path ∷ paths) [] = []
placed_tasks constant all place (path ∷ paths) (kind ∷ kinds) =
    kept_tasks constant all place path kind ++ placed_tasks constant all (suc place) paths kinds

-- the tasks of the definitions inside a constant, among these entries
abbrev pub inner_of : (constant : Path) → List Entry → List Task
inner_of constant es = flat_map (λ p. kind_tasks p (kind_in es p)) (filter (λ p. not (is_above p constant))
    (once (flat_map (λ e. cond (is_definition e) (e.constant ∷ []) []) es)))

-- the tasks of a file behind its own, by whether it is at fault
abbrev pub rest_by : UsedFile → (at_fault : Bool) → List Task
rest_by file true = own_tasks file.constant own.Class
rest_by file false = inner_of file.constant (entries file)
