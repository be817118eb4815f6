-- A task behind an arrow.
use Rattle.std.specs.Prelude.{ℕ, List, ◌++◌, codes}
use Rattle.ruby_types.specs.declared.request.Task.{Task}
use Rattle.task_keys.specs.Names.{task_name}

-- ` -> ` and the task's name
abbrev pub arrow : Task → List ℕ
arrow task = codes " -> " ++ task_name task
