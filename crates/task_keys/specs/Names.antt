-- The names of tasks, and their order: by name; where two have one name, by kind and path, so that no two tasks tie.
use Rattle.std.specs.Prelude.{ℕ, Bool, List, [], ◌∷◌, ◌++◌, codes}
use Rattle.std.specs.Ordering.{nat_cmp, ordering_then, is_le}
use Rattle.std.specs.declared.cmp.Ordering.{Ordering}
use Rattle.outside.specs.Order.{order}
use Rattle.tree_scan_sites.specs.Paths.{path_order}
use Rattle.ruby_types.specs.Paths.{path_text}
use Rattle.ruby_types.specs.declared.request.Task.{Task}
use Rattle.ruby_types.specs.declared.request.Task.TheVariants as task

-- A file's path, a constant's path as it is printed, or `ancestors of` it. (A request has no name.)
abbrev pub task_name : Task → List ℕ
task_name (task.File file) = file
task_name (task.Const path) = path_text path
task_name (task.Ancestors path) = codes "ancestors of " ++ path_text path
task_name (task.Request request) = []

-- The kind of a task as a number.
abbrev pub task_rank : Task → ℕ
task_rank (task.File file) = 0
task_rank (task.Const path) = 1
task_rank (task.Ancestors path) = 2
task_rank (task.Request request) = 3

-- What tells tasks of one kind apart: a constant path, or the one path of a file.
abbrev pub task_path : Task → List (List ℕ)
task_path (task.File file) = file ∷ []
task_path (task.Const path) = path
task_path (task.Ancestors path) = path
task_path (task.Request request) = []

-- The order of tasks.
abbrev pub task_order : Task → Task → Ordering
task_order a b = ordering_then (order (task_name a) (task_name b))
    (ordering_then (nat_cmp (task_rank a) (task_rank b)) (path_order (task_path a) (task_path b)))

-- The first task is at most the second.
abbrev pub at_most : Task → Task → Bool
at_most a b = is_le (task_order a b)

-- A task of a load is no request.
abbrev pub IsLoad : Task → Type 0
IsLoad (task.File file) = Unit {0}
IsLoad (task.Const path) = Unit {0}
IsLoad (task.Ancestors path) = Unit {0}
IsLoad (task.Request request) = ⊥
