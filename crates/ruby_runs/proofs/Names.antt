-- Resolving names and referring to constants ask only for tasks of an index.
use Rattle.std.proofs.Common.{◌≡◌, Bool, true, false, List, [], ◌∷◌, ◌++◌, Option, Some, None, refl, codes}
use Rattle.ruby_types.specs.declared.tree.ConstRef.{ConstRef}
use Rattle.ruby_types.specs.declared.value.Value.TheVariants.{Nil, Module}
use Rattle.ruby_types.specs.declared.request.ErrorClass.TheVariants as class
use Rattle.ruby_types.specs.declared.request.Task.TheVariants as task
use Rattle.program_places.specs.Paths.{Name, Path}
use Rattle.program_places.specs.Places.{Index, Place, Missing, Implicit, Owned, Faulty, Assigned, Opened}
use Rattle.ruby_runs.specs.Doing.{Doing, Here, ask}
use Rattle.ruby_runs.specs.BuiltIns.{BuiltIns}
use Rattle.ruby_runs.specs.Names.{Found, members_of, is_there, innermost, uninitialized, own_at, owned, search}
use Rattle.ruby_runs.specs.Names.{asked_ancestors, ancestors_at, ancestors, is_near, is_assigned, asked_constant}
use Rattle.ruby_runs.specs.Names.{refer_at, refer, or_else, at_top, inherited, inherited_by, bare, qualified}
use Rattle.ruby_runs.specs.Names.{qualified_in, segment_turn, rest_of_names, first_name, whole_name, resolved}
use Rattle.program_places.specs.Tasks.{HasTasks}
use Rattle.ruby_runs.specs.Asked.{Bounds}
use Rattle.ruby_runs.proofs.Within.{StaysWithin, pure_stays_within, bind_stays_within, then_stays_within}
use Rattle.ruby_runs.proofs.Within.{raise_stays_within, fail_stays_within, turn_stays_within}
use Rattle.ruby_runs.proofs.Within.{ask_stays_within, either_stays_within}

module _ (index : Index) (rows : BuiltIns) (may : Bounds) (has : HasTasks index may.task) where
  -- whether a constant is a scope's own
  pub own_at_stays_within : (place : Place) (inner : Bool) → StaysWithin may (own_at index rows place inner)
  own_at_stays_within Missing inner = pure_stays_within may inner
  own_at_stays_within Implicit inner = pure_stays_within may inner
  own_at_stays_within (Owned file (Faulty error)) inner = raise_stays_within may error
  own_at_stays_within (Owned file (Assigned x scopes)) inner = pure_stays_within may inner
  own_at_stays_within (Owned file (Opened opening)) inner = pure_stays_within may inner

  -- a search through scopes
  pub search_stays_within : (name : Name) (scopes : List Path) → StaysWithin may (search index rows name scopes)
  search_stays_within name [] = pure_stays_within may None
  search_stays_within name (scope ∷ scopes) =
      bind_stays_within may (owned index rows scope name) _
      (own_at_stays_within (index.place scope) (is_there (index.place (scope ++ name ∷ []))))
      (λ own. either_stays_within may own _ _ (pure_stays_within may (Some (scope ++ name ∷ [])))
      (search_stays_within name scopes))

  asked_ancestors_stays_within : (here : Here) (path : Path) → may.task (task.Ancestors path) →
      StaysWithin may (asked_ancestors index rows here path)
  asked_ancestors_stays_within here path is =
      bind_stays_within may (ask here (task.Ancestors path)) _ (ask_stays_within may here (task.Ancestors path) is)
      (λ x. pure_stays_within may (members_of x))

  ancestors_at_stays_within : (here : Here) (path : Path) (place : Place) → index.place path ≡ place →
      StaysWithin may (ancestors_at index rows here path place)
  ancestors_at_stays_within here path Missing is = pure_stays_within may (path ∷ [])
  ancestors_at_stays_within here path Implicit is = pure_stays_within may (path ∷ [])
  ancestors_at_stays_within here path (Owned file (Faulty error)) is =
      asked_ancestors_stays_within here path (has.faulty path file error is)
  ancestors_at_stays_within here path (Owned file (Assigned x scopes)) is = pure_stays_within may (path ∷ [])
  ancestors_at_stays_within here path (Owned file (Opened opening)) is =
      asked_ancestors_stays_within here path (has.opened path file opening is)

  -- the ancestors of what stands at a path
  pub ancestors_stays_within : (here : Here) (path : Path) → StaysWithin may (ancestors index rows here path)
  ancestors_stays_within here path = ancestors_at_stays_within here path (index.place path) refl

  asked_constant_stays_within : (here : Here) (path : Path) (assigned : Bool) → may.task (task.Const path) →
      StaysWithin may (asked_constant index rows here path assigned)
  asked_constant_stays_within here path assigned is =
      bind_stays_within may (ask here (task.Const path)) _ (ask_stays_within may here (task.Const path) is)
      (λ x. pure_stays_within may (record { path = path; value = x; assigned = assigned }))

  refer_at_stays_within : (here : Here) (path : Path) (place : Place) → index.place path ≡ place →
      StaysWithin may (refer_at index rows here path place)
  refer_at_stays_within here path Missing is =
      pure_stays_within may (record { path = path; value = Module path; assigned = false })
  refer_at_stays_within here path Implicit is =
      pure_stays_within may (record { path = path; value = Module path; assigned = false })
  refer_at_stays_within here path (Owned file content) is =
      let near =
      asked_constant_stays_within here path (is_assigned index rows content) (has.const path file content is) in
      either_stays_within may (is_near index rows here.file file) _ _ near
      (bind_stays_within may (ask here (task.File file)) _
      (ask_stays_within may here (task.File file) (has.file path file content is)) (λ x. near))

  -- referring to a constant
  pub refer_stays_within : (here : Here) (path : Path) → StaysWithin may (refer index rows here path)
  refer_stays_within here path = refer_at_stays_within here path (index.place path) refl

  uninitialized_stays_within : {A : Type 0} (here : Here) (path : Path) →
      StaysWithin may (uninitialized {A = A} here path)
  uninitialized_stays_within here path turns go h = tt

  or_else_stays_within : (found : Option Path) (other : Doing Path) → StaysWithin may other →
      StaysWithin may (or_else index rows found other)
  or_else_stays_within None other k = k
  or_else_stays_within (Some path) other k = pure_stays_within may path

  at_top_stays_within : (here : Here) (path : Path) (name : Name) →
      StaysWithin may (at_top index rows here path name)
  at_top_stays_within here path name =
      either_stays_within may (is_there (index.place (name ∷ []))) _ _ (pure_stays_within may (name ∷ []))
      (uninitialized_stays_within here path)

  inherited_stays_within : (here : Here) (in_code : Bool) (name : Name) (path : Path) →
      StaysWithin may (inherited index rows here in_code name path)
  inherited_stays_within here false name path = pure_stays_within may None
  inherited_stays_within here true name path =
      bind_stays_within may (ancestors index rows here path) _ (ancestors_stays_within here path)
      (search_stays_within name)

  inherited_by_stays_within : (here : Here) (in_code : Bool) (name : Name) (scopes : List Path) →
      StaysWithin may (inherited_by index rows here in_code name scopes)
  inherited_by_stays_within here in_code name [] = pure_stays_within may None
  inherited_by_stays_within here in_code name (scope ∷ scopes) = inherited_stays_within here in_code name scope

  bare_stays_within : (here : Here) (in_code : Bool) (name : Name) →
      StaysWithin may (bare index rows here in_code name)
  bare_stays_within here in_code name =
      bind_stays_within may (search index rows name here.scopes) _ (search_stays_within name here.scopes)
      (λ own. or_else_stays_within own _
      (bind_stays_within may (inherited_by index rows here in_code name here.scopes) _
      (inherited_by_stays_within here in_code name here.scopes)
      (λ more. or_else_stays_within more _ (at_top_stays_within here (innermost here.scopes ++ name ∷ []) name))))

  qualified_stays_within : (here : Here) (in_code : Bool) (path : Path) (name : Name) →
      StaysWithin may (qualified index rows here in_code path name)
  qualified_stays_within here in_code path name =
      bind_stays_within may (search index rows name (path ∷ [])) _ (search_stays_within name (path ∷ []))
      (λ own. or_else_stays_within own _
      (bind_stays_within may (inherited index rows here in_code name path) _
      (inherited_stays_within here in_code name path)
      (λ more. or_else_stays_within more _ (uninitialized_stays_within here (path ++ name ∷ [])))))

  qualified_in_stays_within : (here : Here) (in_code : Bool) (found : Found) (name : Name) →
      StaysWithin may (qualified_in index rows here in_code found name)
  qualified_in_stays_within here in_code found name =
      either_stays_within may found.assigned _ _
      (fail_stays_within may here class.Kind (rows.inspect found.value ++ codes " is not a class/module"))
      (qualified_stays_within here in_code found.path name)

  segment_turn_stays_within : (here : Here) (in_code : Bool) →
      StaysWithin may (segment_turn index rows here in_code)
  segment_turn_stays_within here true = turn_stays_within may here
  segment_turn_stays_within here false = pure_stays_within may tt

  rest_of_names_stays_within : (here : Here) (in_code : Bool) (found : Found) (names : List Name) →
      StaysWithin may (rest_of_names index rows here in_code found names)
  rest_of_names_stays_within here in_code found [] = pure_stays_within may found
  rest_of_names_stays_within here in_code found (name ∷ names) =
      then_stays_within may (segment_turn index rows here in_code) _ (segment_turn_stays_within here in_code)
      (bind_stays_within may (qualified_in index rows here in_code found name) _
      (qualified_in_stays_within here in_code found name)
      (λ path. bind_stays_within may (refer index rows here path) _ (refer_stays_within here path)
      (λ next. rest_of_names_stays_within here in_code next names)))

  first_name_stays_within : (here : Here) (in_code top : Bool) (name : Name) →
      StaysWithin may (first_name index rows here in_code top name)
  first_name_stays_within here in_code true name = at_top_stays_within here (name ∷ []) name
  first_name_stays_within here in_code false name = bare_stays_within here in_code name

  whole_name_stays_within : (here : Here) (in_code top : Bool) (names : List Name) →
      StaysWithin may (whole_name index rows here in_code top names)
  whole_name_stays_within here in_code top [] =
      then_stays_within may (segment_turn index rows here in_code) _ (segment_turn_stays_within here in_code)
      (pure_stays_within may (record { path = []; value = Nil; assigned = false }))
  whole_name_stays_within here in_code top (name ∷ names) =
      then_stays_within may (segment_turn index rows here in_code) _ (segment_turn_stays_within here in_code)
      (bind_stays_within may (first_name index rows here in_code top name) _
      (first_name_stays_within here in_code top name)
      (λ path. bind_stays_within may (refer index rows here path) _ (refer_stays_within here path)
      (λ found. rest_of_names_stays_within here in_code found names)))

  -- a constant as it is written
  pub resolved_stays_within : (here : Here) (in_code : Bool) (ref : ConstRef) →
      StaysWithin may (resolved index rows here in_code ref)
  resolved_stays_within here in_code ref = whole_name_stays_within here in_code ref.top ref.path
