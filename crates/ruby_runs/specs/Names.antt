-- How names of constants are resolved, and what referring to a constant asks for (the Ruby documentation of constants,
-- "Constant lookup"; what is loaded on the way is as the Zeitwerk README has it).
use Rattle.std.specs.Prelude.{ℕ, Bool, true, false, if◌then◌else◌, List, [], ◌∷◌, ◌++◌, Option, Some, None}
use Rattle.std.specs.Prelude.{filter_map, codes}
use Rattle.ruby_types.specs.Paths.{path_text}
use Rattle.ruby_types.specs.declared.tree.ConstRef.{ConstRef}
use Rattle.ruby_types.specs.declared.value.Value.{Value, Value-F, out-Value}
use Rattle.ruby_types.specs.declared.value.Value.TheOpen as layer
use Rattle.ruby_types.specs.declared.value.Value.TheVariants.{Nil, Module}
use Rattle.ruby_types.specs.declared.request.ErrorClass.TheVariants as class
use Rattle.ruby_types.specs.declared.request.Task.TheVariants as task
use Rattle.program_places.specs.Paths.{Name, Path}
use Rattle.program_places.specs.Places.{Index, Place, Missing, Implicit, Owned, Content, Faulty, Assigned, Opened}
use Rattle.ruby_runs.specs.Doing.{Doing, Here, pure, ◌>>=◌, ◌>>◌, raise, fail, turn, ask}
use Rattle.ruby_runs.specs.BuiltIns.{BuiltIns}

-- A constant that was referred to: its path, its value, and whether it is an assigned one.
pub record Found : Type 0 where
  pub path : Path
  pub value : Value
  pub assigned : Bool

-- the path of a module or class, by one level of a value
abbrev pub module_layer : Value-F Value → Option Path
module_layer (layer.Module path) = Some path
module_layer _ = None

-- the path of a module or class
abbrev pub module_of : Value → Option Path
module_of value = module_layer (out-Value value)

-- the modules in one level of a value
abbrev pub members_layer : Value-F Value → List Path
members_layer (layer.Array items) = filter_map module_of items
members_layer _ = []

-- The modules of a list of ancestors. What is no list has none.
abbrev pub members_of : Value → List Path
members_of value = members_layer (out-Value value)

-- whether anything stands at a place
abbrev pub is_there : Place → Bool
is_there Missing = false
is_there Implicit = true
is_there (Owned file content) = true

-- the innermost scope; Object's path where there is none
abbrev pub innermost : List Path → Path
innermost [] = []
innermost (scope ∷ scopes) = scope

-- `uninitialized constant Admin::Missing`
abbrev pub uninitialized : {A : Type 0} → Here → Path → Doing A
uninitialized here path = fail here class.Name (codes "uninitialized constant " ++ path_text path)

module _ (index : Index) (rows : BuiltIns) where
  -- A scope whose file is at fault raises that fault; else the constant is the scope's own where something stands
  -- there.
  abbrev pub own_at : Place → (is_own : Bool) → Doing Bool
  own_at Missing is_own = pure is_own
  own_at Implicit is_own = pure is_own
  own_at (Owned file (Faulty error)) is_own = raise error
  own_at (Owned file (Assigned value scopes)) is_own = pure is_own
  own_at (Owned file (Opened opening)) is_own = pure is_own

  -- whether a scope has a constant of this name as its own
  abbrev pub owned : Path → Name → Doing Bool
  owned scope name = own_at (index.place scope) (is_there (index.place (scope ++ name ∷ [])))

  -- The first of these scopes that has the name as its own constant.
  abbrev pub search : Name → List Path → Doing (Option Path)
  search name [] = pure None
  search name (scope ∷ scopes) = do
    is_own ← owned scope name
    if is_own then pure (Some (scope ++ name ∷ [])) else search name scopes

  -- the ancestors of a class or module, as its task has them
  abbrev pub asked_ancestors : Here → Path → Doing (List Path)
  asked_ancestors here path = ask here (task.Ancestors path) >>= (λ value. pure (members_of value))

  -- The ancestors of a class or module that its file opens, or whose file is at fault, are asked for. Those of anything
  -- else, as of a namespace without a file, are itself alone, for which nothing is asked and no turn is spent.
  abbrev pub ancestors_at : Here → Path → Place → Doing (List Path)
  ancestors_at here path Missing = pure (path ∷ [])
  ancestors_at here path Implicit = pure (path ∷ [])
  ancestors_at here path (Owned file (Faulty error)) = asked_ancestors here path
  ancestors_at here path (Owned file (Assigned value scopes)) = pure (path ∷ [])
  ancestors_at here path (Owned file (Opened opening)) = asked_ancestors here path

  -- the ancestors of what stands at a path, itself first
  abbrev pub ancestors : Here → Path → Doing (List Path)
  ancestors here path = ancestors_at here path (index.place path)

  -- The owner is the file that code runs in, or the file of an enclosing namespace of that file's constant.
  abbrev pub is_near : Option (List ℕ) → List ℕ → Bool
  is_near None owner = false
  is_near (Some file) owner = index.near file owner

  -- the constant is an assigned one
  abbrev pub is_assigned : Content → Bool
  is_assigned (Faulty error) = false
  is_assigned (Assigned value scopes) = true
  is_assigned (Opened opening) = false

  -- a constant with its value, which is asked for
  abbrev pub asked_constant : Here → Path → (assigned : Bool) → Doing Found
  asked_constant here path assigned =
      ask here (task.Const path) >>= (λ value. pure (record { path = path; value = value; assigned = assigned }))

  -- Referring to a constant: from a file that isn't near its owner, the owner's file is asked for first. A namespace
  -- without a file is a module at once.
  abbrev pub refer_at : Here → Path → Place → Doing Found
  refer_at here path Missing = pure (record { path = path; value = Module path; assigned = false })
  refer_at here path Implicit = pure (record { path = path; value = Module path; assigned = false })
  refer_at here path (Owned file content) =
      if is_near here.file file
      then asked_constant here path (is_assigned content)
      else ask here (task.File file) >> asked_constant here path (is_assigned content)

  -- a constant that is referred to from here
  abbrev pub refer : Here → Path → Doing Found
  refer here path = refer_at here path (index.place path)

  -- the path that was found, or else another
  abbrev pub or_else : Option Path → Doing Path → Doing Path
  or_else None other = other
  or_else (Some path) other = pure path

  -- a constant of the top level; the path is the one that is told where there is none
  abbrev pub at_top : Here → Path → Name → Doing Path
  at_top here path name =
      if is_there (index.place (name ∷ [])) then pure (name ∷ []) else uninitialized here path

  -- The ancestors' own constants. In code they are searched, behind `class X <` and `include` they aren't.
  abbrev pub inherited : Here → (in_code : Bool) → Name → Path → Doing (Option Path)
  inherited here false name path = pure None
  inherited here true name path = ancestors here path >>= search name

  -- the same of the innermost scope, where there is one
  abbrev pub inherited_by : Here → Bool → Name → List Path → Doing (Option Path)
  inherited_by here in_code name [] = pure None
  inherited_by here in_code name (scope ∷ scopes) = inherited here in_code name scope

  -- A bare name: each scope's own constants, innermost first; those of the innermost scope's ancestors; the top level.
  abbrev pub bare : Here → Bool → Name → Doing Path
  bare here in_code name = do
    own ← search name here.scopes
    or_else own (inherited_by here in_code name here.scopes >>= (λ found.
        or_else found (at_top here (innermost here.scopes ++ name ∷ []) name)))

  -- `A::B`: A's own constants, then its ancestors', never the top level.
  abbrev pub qualified : Here → Bool → Path → Name → Doing Path
  qualified here in_code path name = do
    own ← search name (path ∷ [])
    or_else own (inherited here in_code name path >>= (λ found.
        or_else found (uninitialized here (path ++ name ∷ []))))

  -- `::` behind a constant that is assigned is an error, whatever its value.
  abbrev pub qualified_in : Here → Bool → Found → Name → Doing Path
  qualified_in here in_code found name =
      if found.assigned
      then fail here class.Kind (rows.inspect found.value ++ codes " is not a class/module")
      else qualified here in_code found.path name

  -- In code each segment begins a turn.
  abbrev pub segment_turn : Here → Bool → Doing (Unit {0})
  segment_turn here true = turn here
  segment_turn here false = pure tt

  -- the segments behind a constant that was referred to
  abbrev pub rest_of_names : Here → Bool → Found → List Name → Doing Found
  rest_of_names here in_code found [] = pure found
  rest_of_names here in_code found (name ∷ names) = do
    segment_turn here in_code
    path ← qualified_in here in_code found name
    next ← refer here path
    rest_of_names here in_code next names

  -- `::A` is a constant of the top level.
  abbrev pub first_name : Here → Bool → (top : Bool) → Name → Doing Path
  first_name here in_code true name = at_top here (name ∷ []) name
  first_name here in_code false name = bare here in_code name

  -- All segments, one after another: each is resolved and then referred to. (No text spells a name without segments.)
  abbrev pub whole_name : Here → Bool → (top : Bool) → List Name → Doing Found
  whole_name here in_code top [] =
      segment_turn here in_code >> pure (record { path = []; value = Nil; assigned = false })
  whole_name here in_code top (name ∷ names) = do
    segment_turn here in_code
    path ← first_name here in_code top name
    found ← refer here path
    rest_of_names here in_code found names

  -- What a constant as it is written refers to: `User`, `Admin::User`, `::User`.
  abbrev pub resolved : Here → (in_code : Bool) → ConstRef → Doing Found
  resolved here in_code ref = whole_name here in_code ref.top ref.path
