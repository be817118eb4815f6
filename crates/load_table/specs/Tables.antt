-- What a table has for each task.
use Rattle.std.specs.Prelude.{ℕ, Option}
use Rattle.std.specs.Map.{lookup}
use Rattle.indexmap.specs.IndexMap.{spare}
use Rattle.ruby_types.specs.declared.request.Task.{Task}
use Rattle.ruby_types.specs.declared.value.Value.{Value}
use Rattle.task_keys.specs.Keys.{same_key}
use Rattle.load_table.specs.declared.table.Table.{Table}

-- The value that a table has for a task.
abbrev pub value_in : Table → Task → Option Value
value_in table task = lookup (λ key. same_key task key.task) table.values.entries

-- How many more values a table has room for.
abbrev pub room : Table → ℕ
room table = spare table.values
