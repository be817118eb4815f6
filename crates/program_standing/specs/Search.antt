-- How a name is found by tables: through lexical scopes and the top level.
use Rattle.std.specs.Prelude.{ℕ, ◌==◌, cond, List, [], ◌∷◌, ◌++◌, Option, Some, None}
use Rattle.ruby_types.specs.declared.request.Task.TheVariants as task
use Rattle.program_places.specs.Paths.{Name, Path}
use Rattle.program_standing.specs.declared.standing.Standing.{Standing}
use Rattle.program_standing.specs.declared.standing.Standing.TheVariants.{Missing as NoneStands, Implicit, Owned}
use Rattle.program_standing.specs.declared.resolved.Resolved.{Resolved}
use Rattle.program_standing.specs.declared.resolved.Resolved.TheVariants.{Own, Other, Namespace, Fault, Missing}
use Rattle.program_standing.specs.Tables.{Tables, standing_of, is_faulty}

-- the file that owns what stands there
abbrev pub owner_of : Standing → Option ℕ
owner_of NoneStands = None
owner_of Implicit = None
owner_of (Owned file) = Some file

-- the file of the innermost scope, if there is a scope and it has one
abbrev pub innermost : Tables → List Path → Option ℕ
innermost t [] = None
innermost t (scope ∷ scopes) = owner_of (standing_of t scope)

-- a constant of this file, as it is seen from a file or from none
abbrev pub own_or_other : Option ℕ → (file : ℕ) → Path → Resolved
own_or_other None file path = Other file (task.Const path)
own_or_other (Some from) file path = cond (from == file) (Own (task.Const path)) (Other file (task.Const path))

-- what is found at a path where this stands
abbrev pub found_at : Option ℕ → Path → Standing → Option Resolved
found_at from path NoneStands = None
found_at from path Implicit = Some (Namespace path)
found_at from path (Owned file) = Some (own_or_other from file path)

-- the fault of a scope: its file is at fault
abbrev pub scope_fault : Tables → Standing → Option Resolved
scope_fault t NoneStands = None
scope_fault t Implicit = None
scope_fault t (Owned file) = cond (is_faulty t file) (Some (Fault file)) None

-- the first that is there
abbrev pub or_found : Option Resolved → Option Resolved → Option Resolved
or_found None other = other
or_found (Some found) other = Some found

-- the constant with this path, if something stands there
abbrev pub at_path : Tables → Option ℕ → Path → Option Resolved
at_path t from path = found_at from path (standing_of t path)

-- a scope's own constant of this name, or the fault of its file
abbrev pub in_scope : Tables → Option ℕ → Path → Name → Option Resolved
in_scope t from scope name = or_found (scope_fault t (standing_of t scope)) (at_path t from (scope ++ name ∷ []))

-- each scope's own constants, innermost first, and then the top level
abbrev pub search : Tables → Option ℕ → List Path → Name → Option Resolved
search t from [] name = at_path t from (name ∷ [])
search t from (scope ∷ scopes) name = or_found (in_scope t from scope name) (search t from scopes name)

-- what is found, and else that nothing is
abbrev pub or_missing : Option Resolved → Resolved
or_missing None = Missing
or_missing (Some found) = found

-- what a name is found as in these scopes
abbrev pub resolved : Tables → List Path → Name → Resolved
resolved t scopes name = or_missing (search t (innermost t scopes) scopes name)
