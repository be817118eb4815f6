-- The modules of a list of ancestors, as they are gathered.
use Rattle.std.specs.Prelude.{◌≡◌, Bool, List, map}
use Rattle.ruby_types.specs.declared.request.Task.TheVariants as task
use Rattle.ruby_types.specs.declared.value.Value.TheVariants.{Module}
use Rattle.program_places.specs.Paths.{Path}
use Rattle.task_keys.specs.Keys.{same_key}
use Rattle.task_keys.specs.declared.key.TaskKey.{TaskKey}
use Rattle.ruby_machine_ancestors.specs.declared.joining.Gathering.{Gathering}

-- the key of a path
abbrev pub key_of : Path → TaskKey
key_of path = record { task = task.Ancestors path }

-- the keys of tasks are told apart by kind and path
abbrev pub same : TaskKey → TaskKey → Bool
same a b = same_key a.task b.task

-- these paths were gathered
abbrev pub Gathers : Gathering → List Path → Type 0
Gathers gathering paths = (gathering.keys.keys ≡ map key_of paths) × (gathering.modules.items ≡ map Module paths)
