-- Resolving names and referring to constants find what stands in the application.
use Rattle.std.proofs.Common.{◌≡◌, Bool, true, false, List, [], ◌∷◌, ◌++◌, Option, Some, None, refl, sym, ap, ◌∙◌}
use Rattle.std.proofs.lemmas.Bool.{false≢true}
use Rattle.ruby_types.specs.declared.tree.ConstRef.{ConstRef}
use Rattle.ruby_types.specs.declared.value.Value.{Value}
use Rattle.ruby_types.specs.declared.value.Value.TheVariants.{Module}
use Rattle.ruby_types.specs.declared.request.ErrorClass.TheVariants as class
use Rattle.ruby_types.specs.declared.request.Task.{Task}
use Rattle.ruby_types.specs.declared.request.Task.TheVariants as task
use Rattle.program_places.specs.Paths.{Name, Path}
use Rattle.program_places.specs.Places.{Index, Place, Missing, Implicit, Owned, Content, Faulty, Assigned, Opened}
use Rattle.program_places.specs.Tasks.{EachIs}
use Rattle.ruby_runs.specs.Doing.{Doing, Here}
use Rattle.ruby_runs.specs.BuiltIns.{BuiltIns}
use Rattle.ruby_runs.specs.Names.{Found, members_of, is_there, innermost, own_at, search, asked_ancestors}
use Rattle.ruby_runs.specs.Names.{ancestors_at, ancestors, is_near, is_assigned, refer_at, refer}
use Rattle.ruby_runs.specs.Names.{or_else, at_top, inherited, inherited_by, bare, qualified, qualified_in}
use Rattle.ruby_runs.specs.Names.{segment_turn, rest_of_names, first_name, whole_name, resolved}
use Rattle.program_values.specs.Standing.{is_module_at, Stands, AllStand, IsNamed}
use Rattle.program_values.proofs.Values.{nil_stands, module_stands, members_stand, IsModule}
use Rattle.program_values.proofs.Keeps.{Keeps, Any, pure_keeps, bind_keeps, keeps_less, raise_keeps, fail_keeps}
use Rattle.program_values.proofs.Keeps.{turn_keeps, ask_keeps, either_keeps}

module _ (index : Index) (rows : BuiltIns) (K : Task → Option Value) (all : AllStand index K) where
  -- something stands at a path
  abbrev pub IsThere : Path → Type 0
  IsThere path = is_there (index.place path) ≡ true

  -- the same of a path that was found
  abbrev pub MaybeThere : Option Path → Type 0
  MaybeThere None = Unit {0}
  MaybeThere (Some path) = IsThere path

  own_at_keeps : (place : Place) (is_own : Bool) →
      Keeps index K all (λ b. b ≡ is_own) (own_at index rows place is_own) (own_at index rows place is_own)
  own_at_keeps Missing is_own = pure_keeps index K all is_own refl
  own_at_keeps Implicit is_own = pure_keeps index K all is_own refl
  own_at_keeps (Owned file (Faulty error)) is_own = raise_keeps index K all error
  own_at_keeps (Owned file (Assigned value scopes)) is_own = pure_keeps index K all is_own refl
  own_at_keeps (Owned file (Opened opening)) is_own = pure_keeps index K all is_own refl

  -- a search through scopes
  pub search_keeps : (name : Name) (scopes : List Path) →
      Keeps index K all MaybeThere (search index rows name scopes) (search index rows name scopes)
  search_keeps name [] = pure_keeps index K all None tt
  search_keeps name (scope ∷ scopes) =
      bind_keeps index K all (own_at_keeps (index.place scope) (is_there (index.place (scope ++ name ∷ []))))
      (λ b e. either_keeps index K all b (λ h. pure_keeps index K all (Some (scope ++ name ∷ [])) (sym e ∙ h))
      (λ h. search_keeps name scopes))

  asked_ancestors_keeps : (here : Here) (path : Path) →
      Keeps index K all (EachIs (IsModule index)) (asked_ancestors index rows here path)
      (asked_ancestors index rows here path)
  asked_ancestors_keeps here path = bind_keeps index K all (ask_keeps index K all here (task.Ancestors path))
      (λ value h. pure_keeps index K all (members_of value) (members_stand index value h))

  any_ancestors_keep : (here : Here) (path : Path) →
      Keeps index K all Any (asked_ancestors index rows here path) (asked_ancestors index rows here path)
  any_ancestors_keep here path = keeps_less index K all (λ paths h. tt) (asked_ancestors_keeps here path)

  ancestors_at_keeps : (here : Here) (path : Path) (place : Place) →
      Keeps index K all Any (ancestors_at index rows here path place) (ancestors_at index rows here path place)
  ancestors_at_keeps here path Missing = pure_keeps index K all (path ∷ []) tt
  ancestors_at_keeps here path Implicit = pure_keeps index K all (path ∷ []) tt
  ancestors_at_keeps here path (Owned file (Faulty error)) = any_ancestors_keep here path
  ancestors_at_keeps here path (Owned file (Assigned value scopes)) = pure_keeps index K all (path ∷ []) tt
  ancestors_at_keeps here path (Owned file (Opened opening)) = any_ancestors_keep here path

  -- the ancestors of what stands at a path
  pub ancestors_keep : (here : Here) (path : Path) →
      Keeps index K all Any (ancestors index rows here path) (ancestors index rows here path)
  ancestors_keep here path = ancestors_at_keeps here path (index.place path)

  module_ancestors_at : (here : Here) (path : Path) (place : Place) → index.place path ≡ place →
      is_module_at place ≡ true →
      Keeps index K all (EachIs (IsModule index)) (ancestors_at index rows here path place)
      (ancestors_at index rows here path place)
  module_ancestors_at here path Missing is h = absurd (false≢true h)
  module_ancestors_at here path Implicit is h =
      pure_keeps index K all (path ∷ []) (ap is_module_at is ∙ h, tt)
  module_ancestors_at here path (Owned file (Faulty error)) is h = asked_ancestors_keeps here path
  module_ancestors_at here path (Owned file (Assigned value scopes)) is h = absurd (false≢true h)
  module_ancestors_at here path (Owned file (Opened opening)) is h = asked_ancestors_keeps here path

  -- the ancestors of a class or module are classes and modules
  pub module_ancestors_keep : (here : Here) (path : Path) → IsModule index path →
      Keeps index K all (EachIs (IsModule index)) (ancestors index rows here path) (ancestors index rows here path)
  module_ancestors_keep here path h = module_ancestors_at here path (index.place path) refl h

  -- A constant that was referred to: its value stands, and it is a class or module where it isn't assigned.
  pub record FoundStands (found : Found) : Type 0 where
    pub value : Stands index found.value
    pub path : found.assigned ≡ false → IsModule index found.path

  constant_found : (path : Path) (file : List _) (content : Content) → index.place path ≡ Owned file content →
      (value : Value) → Stands index value →
      FoundStands (record { path = path; value = value; assigned = is_assigned index rows content })
  constant_found path file (Faulty error) is value h =
      record { value = h; path = λ e. ap is_module_at is }
  constant_found path file (Assigned x scopes) is value h =
      record { value = h; path = λ e. absurd (false≢true (sym e)) }
  constant_found path file (Opened opening) is value h =
      record { value = h; path = λ e. ap is_module_at is }

  refer_at_keeps : (here : Here) (path : Path) (place : Place) → index.place path ≡ place → is_there place ≡ true →
      Keeps index K all FoundStands (refer_at index rows here path place) (refer_at index rows here path place)
  refer_at_keeps here path Missing is h = absurd (false≢true h)
  refer_at_keeps here path Implicit is h =
      let m = ap is_module_at is in
      pure_keeps index K all (record { path = path; value = Module path; assigned = false })
      (record { value = module_stands index path m; path = λ e. m })
  refer_at_keeps here path (Owned file content) is h =
      let constant = bind_keeps index K all (ask_keeps index K all here (task.Const path))
      (λ value v. pure_keeps index K all
      (record { path = path; value = value; assigned = is_assigned index rows content })
      (constant_found path file content is value v)) in
      either_keeps index K all (is_near index rows here.file file) (λ e. constant)
      (λ e. bind_keeps index K all (ask_keeps index K all here (task.File file)) (λ value v. constant))

  -- referring to a constant that is there
  pub refer_keeps : (here : Here) (path : Path) → IsThere path →
      Keeps index K all FoundStands (refer index rows here path) (refer index rows here path)
  refer_keeps here path h = refer_at_keeps here path (index.place path) refl h

  or_else_keeps : (found : Option Path) (other : Doing Path) → MaybeThere found →
      Keeps index K all IsThere other other →
      Keeps index K all IsThere (or_else index rows found other) (or_else index rows found other)
  or_else_keeps None other h k = k
  or_else_keeps (Some path) other h k = pure_keeps index K all path h

  at_top_keeps : (here : Here) (path : Path) (name : Name) →
      Keeps index K all IsThere (at_top index rows here path name) (at_top index rows here path name)
  at_top_keeps here path name = either_keeps index K all (is_there (index.place (name ∷ [])))
      (λ h. pure_keeps index K all (name ∷ []) h) (λ h. fail_keeps index K all here class.Name _)

  inherited_keeps : (here : Here) (in_code : Bool) (name : Name) (path : Path) →
      Keeps index K all MaybeThere (inherited index rows here in_code name path)
      (inherited index rows here in_code name path)
  inherited_keeps here false name path = pure_keeps index K all None tt
  inherited_keeps here true name path =
      bind_keeps index K all (ancestors_keep here path) (λ members h. search_keeps name members)

  inherited_by_keeps : (here : Here) (in_code : Bool) (name : Name) (scopes : List Path) →
      Keeps index K all MaybeThere (inherited_by index rows here in_code name scopes)
      (inherited_by index rows here in_code name scopes)
  inherited_by_keeps here in_code name [] = pure_keeps index K all None tt
  inherited_by_keeps here in_code name (scope ∷ scopes) = inherited_keeps here in_code name scope

  bare_keeps : (here : Here) (in_code : Bool) (name : Name) →
      Keeps index K all IsThere (bare index rows here in_code name) (bare index rows here in_code name)
  bare_keeps here in_code name = bind_keeps index K all (search_keeps name here.scopes) (λ own h.
      or_else_keeps own _ h (bind_keeps index K all (inherited_by_keeps here in_code name here.scopes) (λ found k.
      or_else_keeps found _ k (at_top_keeps here (innermost here.scopes ++ name ∷ []) name))))

  qualified_keeps : (here : Here) (in_code : Bool) (path : Path) (name : Name) →
      Keeps index K all IsThere (qualified index rows here in_code path name)
      (qualified index rows here in_code path name)
  qualified_keeps here in_code path name = bind_keeps index K all (search_keeps name (path ∷ [])) (λ own h.
      or_else_keeps own _ h (bind_keeps index K all (inherited_keeps here in_code name path) (λ found k.
      or_else_keeps found _ k (fail_keeps index K all here class.Name _))))

  qualified_in_keeps : (here : Here) (in_code : Bool) (found : Found) (name : Name) →
      Keeps index K all IsThere (qualified_in index rows here in_code found name)
      (qualified_in index rows here in_code found name)
  qualified_in_keeps here in_code found name = either_keeps index K all found.assigned
      (λ h. fail_keeps index K all here class.Kind _) (λ h. qualified_keeps here in_code found.path name)

  segment_turn_keeps : (here : Here) (in_code : Bool) →
      Keeps index K all Any (segment_turn index rows here in_code) (segment_turn index rows here in_code)
  segment_turn_keeps here true = turn_keeps index K all here
  segment_turn_keeps here false = pure_keeps index K all tt tt

  rest_of_names_keeps : (here : Here) (in_code : Bool) (found : Found) → FoundStands found → (names : List Name) →
      Keeps index K all FoundStands (rest_of_names index rows here in_code found names)
      (rest_of_names index rows here in_code found names)
  rest_of_names_keeps here in_code found h [] = pure_keeps index K all found h
  rest_of_names_keeps here in_code found h (name ∷ names) =
      bind_keeps index K all (segment_turn_keeps here in_code) (λ u t.
      bind_keeps index K all (qualified_in_keeps here in_code found name) (λ path there.
      bind_keeps index K all (refer_keeps here path there) (λ next n. rest_of_names_keeps here in_code next n names)))

  first_name_keeps : (here : Here) (in_code top : Bool) (name : Name) →
      Keeps index K all IsThere (first_name index rows here in_code top name)
      (first_name index rows here in_code top name)
  first_name_keeps here in_code true name = at_top_keeps here (name ∷ []) name
  first_name_keeps here in_code false name = bare_keeps here in_code name

  whole_name_keeps : (here : Here) (in_code top : Bool) (name : Name) (names : List Name) →
      Keeps index K all FoundStands (whole_name index rows here in_code top (name ∷ names))
      (whole_name index rows here in_code top (name ∷ names))
  whole_name_keeps here in_code top name names =
      bind_keeps index K all (segment_turn_keeps here in_code) (λ u t.
      bind_keeps index K all (first_name_keeps here in_code top name) (λ path there.
      bind_keeps index K all (refer_keeps here path there) (λ found n. rest_of_names_keeps here in_code found n names)))

  named_keeps : (here : Here) (in_code top : Bool) (names : List Name) → IsNamed names →
      Keeps index K all FoundStands (whole_name index rows here in_code top names)
      (whole_name index rows here in_code top names)
  named_keeps here in_code top [] h = absurd h
  named_keeps here in_code top (name ∷ names) h = whole_name_keeps here in_code top name names

  -- a constant as it is written, of some segment
  pub resolved_keeps : (here : Here) (in_code : Bool) (ref : ConstRef) → IsNamed ref.path →
      Keeps index K all FoundStands (resolved index rows here in_code ref) (resolved index rows here in_code ref)
  resolved_keeps here in_code ref h = named_keeps here in_code ref.top ref.path h

  -- the value of what was found stands
  abbrev pub ValueStands : Found → Type 0
  ValueStands found = Stands index found.value

  value_keeps : (here : Here) (in_code top : Bool) (names : List Name) →
      Keeps index K all ValueStands (whole_name index rows here in_code top names)
      (whole_name index rows here in_code top names)
  value_keeps here in_code top [] = bind_keeps index K all (segment_turn_keeps here in_code)
      (λ u t. pure_keeps index K all _ (nil_stands index))
  value_keeps here in_code top (name ∷ names) =
      keeps_less index K all (λ found h. h.value) (whole_name_keeps here in_code top name names)

  -- the value of a constant as it is written
  pub resolved_value_keeps : (here : Here) (in_code : Bool) (ref : ConstRef) →
      Keeps index K all ValueStands (resolved index rows here in_code ref) (resolved index rows here in_code ref)
  resolved_value_keeps here in_code ref = value_keeps here in_code ref.top ref.path
