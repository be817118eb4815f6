-- What calls on modules, classes and objects do: a method is searched, and then called.
use Rattle.std.specs.Prelude.{ℕ, List}
use Rattle.ruby_types.specs.declared.value.Value.{Value}
use Rattle.program_places.specs.Paths.{Name, Path}
use Rattle.program_places.specs.Places.{Index}
use Rattle.ruby_nodes.specs.Entries.{Entry}
use Rattle.ruby_runs.specs.Doing.{Doing, Here, ◌>>=◌}
use Rattle.ruby_runs.specs.Bodies.{instance, singleton}
use Rattle.ruby_machine_names.specs.Profile.{profile}
use Rattle.ruby_machine_frames.specs.Rest.{instance_or, singleton_or}

module _ (index : Index) (known : List Entry) where
  -- a call on a module or class
  abbrev pub module_call : ℕ → Here → Path → Name → List Value → Doing Value
  module_call left here path name args =
      singleton index profile here path name >>= singleton_or index known left here path name args

  -- a call on an object of a class
  abbrev pub object_call : ℕ → Here → Path → Value → Name → List Value → Doing Value
  object_call left here class on name args =
      instance index profile here class name >>= instance_or index known left here on name args
