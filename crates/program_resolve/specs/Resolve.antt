-- How a name is found: through lexical scopes and the top level, inside one constant, or at the top alone. Ancestors
-- aren't looked through here, since a run asks for them.
use Rattle.std.specs.Prelude.{◌≡◌, ◌⊎◌, ℕ, Bool, true, false, cond, List, [], ◌∷◌, ◌++◌, Some}
use Rattle.ruby_types.specs.declared.request.RubyError.{RubyError}
use Rattle.ruby_types.specs.declared.request.Task.TheVariants as task
use Rattle.program_places.specs.Paths.{Name, Path}
use Rattle.program_places.specs.Places.{Place, Missing, Implicit, Owned, Content, Faulty, Assigned, Opened}
use Rattle.program_files.specs.Files.{UsedFile}
use Rattle.program_files.specs.Faults.{file_fault}
use Rattle.program_files.specs.Contents.{place_of}
use Rattle.program_files.specs.Tasks.{tasks_of}
use Rattle.program_files.specs.Members.{Among}

-- What a search comes to: a constant, the fault of a scope's file, or nothing.
pub data Found : Type 0 where
  AtPath : Path → Found
  InFaulty : (file : List ℕ) → RubyError → Found
  Nowhere : Found

-- something stands there: a namespace, or what a file says
abbrev pub is_there : Place → Bool
is_there Missing = false
is_there Implicit = true
is_there (Owned file content) = true

-- the first, unless it is nowhere
abbrev pub or_found : Found → Found → Found
or_found Nowhere other = other
or_found (AtPath path) other = AtPath path
or_found (InFaulty file error) other = InFaulty file error

-- A scope whose file is at fault raises that fault; else the constant is the scope's own where something stands there.
abbrev pub by_scope : Place → Found → Found
by_scope Missing own = own
by_scope Implicit own = own
by_scope (Owned file (Faulty error)) own = InFaulty file error
by_scope (Owned file (Assigned value scopes)) own = own
by_scope (Owned file (Opened opening)) own = own

module _ (place : Path → Place) where
  -- the constant with this path, where something stands there
  abbrev pub at_path : Path → Found
  at_path path = cond (is_there (place path)) (AtPath path) Nowhere

  -- `::A`: the top level alone
  abbrev pub at_top : Name → Found
  at_top name = at_path (name ∷ [])

  -- `A::B`: A's own constants, never the top level
  abbrev pub inside : Path → Name → Found
  inside scope name = by_scope (place scope) (at_path (scope ++ name ∷ []))

  -- a bare name: the own constants of each scope, innermost first, and then the top level
  abbrev pub bare : List Path → Name → Found
  bare [] name = at_top name
  bare (scope ∷ scopes) name = or_found (inside scope name) (bare scopes name)

-- What is found is a namespace without a file, or a constant with a task; and a fault is that of a file that is used.
abbrev pub IsOf : List UsedFile → Found → Type 0
IsOf files Nowhere = Unit {0}
IsOf files (AtPath path) = (place_of files path ≡ Implicit) ⊎ Among (task.Const path) (tasks_of files)
IsOf files (InFaulty file error) =
    (f : UsedFile) × Among f files × (f.path ≡ file) × (file_fault files f ≡ Some error)

-- a namespace where the path has a site, and else nothing
abbrev pub namespace_or_nothing : (has_site : Bool) → Place
namespace_or_nothing true = Implicit
namespace_or_nothing false = Missing
