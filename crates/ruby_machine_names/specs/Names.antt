-- What the parts of resolving a constant do: those that the machine takes one after another.
use Rattle.std.specs.Prelude.{◌≡◌, Bool, true, false, if◌then◌else◌, List, [], ◌∷◌, ◌++◌, drop, codes}
use Rattle.ruby_types.specs.declared.value.Value.{Value}
use Rattle.ruby_types.specs.declared.value.Value.TheVariants.{Nil, Module}
use Rattle.ruby_types.specs.declared.request.ErrorClass.TheVariants as class
use Rattle.ruby_types.specs.declared.request.Task.TheVariants as task
use Rattle.program_places.specs.Paths.{Name, Path}
use Rattle.program_places.specs.Places.{Index}
use Rattle.ruby_builtin_base.specs.Printed.{inspect}
use Rattle.ruby_runs.specs.Doing.{Doing, Here, pure, ◌>>=◌, ◌>>◌, fail, ask}
use Rattle.ruby_runs.specs.Names as names
use Rattle.ruby_runs.specs.Names.{Found}
use Rattle.ruby_machine_names.specs.Profile.{profile}
use Rattle.ruby_machine_names.specs.declared.search.Outer.{Outer}
use Rattle.ruby_machine_names.specs.declared.search.Outer.TheVariants as outer
use Rattle.ruby_machine_names.specs.declared.names.FoundCode.{FoundCode}
use Rattle.ruby_machine_names.specs.declared.names.Awaited.{Awaited}
use Rattle.ruby_machine_names.specs.declared.names.Awaited.TheVariants as awaits
use Rattle.ruby_machine_names.specs.declared.resolving.NameWait.{NameWait}

-- the constant that code found
abbrev pub found_of : FoundCode → Found
found_of found = record { path = found.path; value = found.value; assigned = found.assigned }

-- a namespace without a file, which is a module at once
abbrev pub module_at : Path → Found
module_at path = record { path = path; value = Module path; assigned = false }

-- what a constant without names comes to, which no text spells
abbrev pub no_name : Found
no_name = record { path = []; value = Nil; assigned = false }

-- `nil is not a class/module`
abbrev pub not_a_module : {A : Type 0} → Here → Value → Doing A
not_a_module here value = fail here class.Kind (inspect value ++ codes " is not a class/module")

module _ (index : Index) where
  -- whether the ancestors of a path are asked for, wherever code runs
  abbrev pub AncestorsBy : Path → Bool → Type 0
  AncestorsBy path true =
      (here : Here) → names.ancestors index profile here path ≡ names.asked_ancestors index profile here path
  AncestorsBy path false = (here : Here) → names.ancestors index profile here path ≡ pure (path ∷ [])

  -- where neither scopes nor ancestors have a name: the top level for a bare one, else an error
  abbrev pub fallback : Here → Outer → Name → Doing Path
  fallback here outer.Scopes name =
      names.at_top index profile here (names.innermost here.scopes ++ name ∷ []) name
  fallback here (outer.Within path) name = names.uninitialized here (path ++ name ∷ [])

  -- these ancestors' own constants, and else the fallback
  abbrev pub after_ancestors : Here → Outer → Name → List Path → Doing Path
  after_ancestors here outer name members =
      names.search index profile name members >>= (λ found.
      names.or_else index profile found (fallback here outer name))

  -- the own constants of a path's ancestors, and else the fallback
  abbrev pub inherits : Here → Path → Outer → Name → Doing Path
  inherits here path outer name = names.ancestors index profile here path >>= after_ancestors here outer name

  -- a bare name that no scope has
  abbrev pub bare_inherits : Here → Bool → Name → Doing Path
  bare_inherits here in_code name =
      names.inherited_by index profile here in_code name here.scopes >>= (λ found.
      names.or_else index profile found (fallback here outer.Scopes name))

  -- a name that the constant before it hasn't as its own
  abbrev pub qualified_inherits : Here → Bool → Path → Name → Doing Path
  qualified_inherits here in_code path name =
      names.inherited index profile here in_code name path >>= (λ found.
      names.or_else index profile found (fallback here (outer.Within path) name))

  -- a file, and then a constant of it
  abbrev pub file_first : Here → Name → Path → Bool → Doing Found
  file_first here file path assigned = ask here (task.File file) >> names.asked_constant index profile here path
      assigned

  -- a constant that a file owns
  abbrev pub refer_owned : Here → Name → Path → Bool → Doing Found
  refer_owned here file path assigned =
      if names.is_near index profile here.file file
      then names.asked_constant index profile here path assigned
      else file_first here file path assigned

  -- what is done with the value that was asked for
  abbrev pub awaited : Here → Awaited → Value → Doing Found
  awaited here (awaits.File path assigned) value = names.asked_constant index profile here path assigned
  awaited here (awaits.Const path assigned) value = pure (record { path = path; value = value; assigned = assigned })
  awaited here (awaits.Ancestors outer name) value =
      after_ancestors here outer name (names.members_of value) >>= names.refer index profile here

  -- what a name was looked up as is referred to
  abbrev pub referred : Here → Doing Path → Doing Found
  referred here d = d >>= names.refer index profile here

  -- one name behind what was found, whose turn is begun
  abbrev pub next_begun : Here → Bool → Found → Name → Doing Found
  next_begun here in_code found name = referred here (names.qualified_in index profile here in_code found name)

  -- one name behind what was found
  abbrev pub next_named : Here → Bool → Found → Name → Doing Found
  next_named here in_code found name = names.segment_turn index profile here in_code >> next_begun here in_code found
      name

  -- the first name, whose turn is begun
  abbrev pub first_named : Here → Bool → (top : Bool) → Name → Doing Found
  first_named here in_code top name = referred here (names.first_name index profile here in_code top name)

  -- a name, and then those behind it
  abbrev pub with_rest : Here → Bool → List Name → Doing Found → Doing Found
  with_rest here in_code rest d = d >>= (λ found. names.rest_of_names index profile here in_code found rest)

  -- a constant, the turn of whose first name is begun
  abbrev pub begun : Here → Bool → (top : Bool) → List Name → Doing Found
  begun here in_code top [] = pure no_name
  begun here in_code top (name ∷ rest) = with_rest here in_code rest (first_named here in_code top name)

  -- what is done with the value that a constant waits for, and then with its names that are left
  abbrev pub later : Here → NameWait → Value → Doing Found
  later here wait value =
      awaited here wait.awaited value >>= (λ found.
      names.rest_of_names index profile here wait.in_code found (drop wait.place wait.names))
