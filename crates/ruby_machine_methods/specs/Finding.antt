-- What finding a method comes to.
use Rattle.std.specs.Prelude.{◌≡◌, List, map, drop, Option, Some, None}
use Rattle.ruby_types.specs.declared.value.Value.{Value}
use Rattle.program_places.specs.Paths.{Name, Path}
use Rattle.program_places.specs.Places.{Index, Method}
use Rattle.ruby_nodes.specs.Entries.{Entry}
use Rattle.program_lookups.specs.Codes.{method_of}
use Rattle.program_lookups.specs.declared.code.MethodCode.{MethodCode}
use Rattle.ruby_runs.specs.Doing.{Doing, Here, pure, ◌>>=◌}
use Rattle.ruby_runs.specs.Names.{members_of, asked_ancestors}
use Rattle.ruby_runs.specs.Bodies.{singleton, singleton_of_class, instance, instance_of, first_found}
use Rattle.ruby_machine_names.specs.Profile.{profile}
use Rattle.ruby_machine_methods.specs.declared.singletons.MethodStep.{MethodStep}
use Rattle.ruby_machine_methods.specs.declared.singletons.MethodStep.TheVariants as step

-- the singleton method of this name among ancestors, of the classes behind the first
abbrev pub singleton_among : Index → Name → Value → Option Method
singleton_among index name ancestors =
    first_found (map (λ p. singleton_of_class name (index.place p)) (drop 1 (members_of ancestors)))

-- the instance method or reader of this name among ancestors
abbrev pub instance_among : Index → Name → Value → Option Method
instance_among index name ancestors = first_found (map (λ p. instance_of name (index.place p)) (members_of ancestors))

-- the method that a call on a module or class finds, wherever code runs: at once, or when ancestors were asked for
abbrev pub SingletonBy : Index → List Entry → Path → Name → MethodStep → Type 0
SingletonBy index known path name (step.Found m) =
    (here : Here) → singleton index profile here path name ≡ pure (Some (method_of known m.now))
SingletonBy index known path name step.Missing = (here : Here) → singleton index profile here path name ≡ pure None
SingletonBy index known path name step.Asks = (here : Here) →
    singleton index profile here path name ≡ (asked_ancestors index profile here path >>= (λ members.
    pure (first_found (map (λ p. singleton_of_class name (index.place p)) (drop 1 members)))))

-- the same of a call on an object
abbrev pub InstanceBy : Index → List Entry → Path → Name → MethodStep → Type 0
InstanceBy index known path name (step.Found m) =
    (here : Here) → instance index profile here path name ≡ pure (Some (method_of known m.now))
InstanceBy index known path name step.Missing = (here : Here) → instance index profile here path name ≡ pure None
InstanceBy index known path name step.Asks = (here : Here) →
    instance index profile here path name ≡ (asked_ancestors index profile here path >>= (λ members.
    pure (first_found (map (λ p. instance_of name (index.place p)) members))))
