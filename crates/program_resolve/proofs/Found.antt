-- What a search over files comes to.
use Rattle.std.proofs.Common.{◌≡◌, ◌⊎◌, ℕ, Bool, true, false, cond, List, [], ◌∷◌, ◌++◌, Option, Some, None, inl, inr}
use Rattle.std.proofs.Common.{refl, sym, ap, ◌∙◌, subst}
use Rattle.std.proofs.lemmas.Option.{none-some, same_Some}
use Rattle.ruby_types.specs.declared.request.RubyError.{RubyError}
use Rattle.ruby_types.specs.declared.request.Task.TheVariants as task
use Rattle.program_places.specs.Paths.{Name, Path}
use Rattle.program_places.specs.Places.{Place, Missing, Implicit, Owned, Content, Faulty, Assigned, Opened}
use Rattle.program_files.specs.Files.{UsedFile, file_of, has_site}
use Rattle.program_files.specs.Faults.{Kind, a_module, a_class, a_value, kind_in, file_fault}
use Rattle.program_files.specs.Files as files
use Rattle.program_files.specs.Contents.{content_by, content_in, owned_by, own_place, inner_place, nearest}
use Rattle.program_files.specs.Contents.{around_place}
use Rattle.program_files.specs.Contents.{bare_place, place_by, place_of}
use Rattle.program_places.specs.Paths.{levels}
use Rattle.program_files.specs.Members.{Among}
use Rattle.program_files.specs.Tasks.{tasks_of}
use Rattle.program_files.proofs.Index.{has_tasks, file_found}
use Rattle.program_resolve.specs.Resolve.{Found, AtPath, InFaulty, Nowhere, is_there, or_found, at_path, at_top}
use Rattle.program_resolve.specs.Resolve.{by_scope, inside, bare, IsOf}

module _ (fs : List UsedFile) where
  there : (path : Path) (p : Place) → place_of fs path ≡ p → IsOf fs (cond (is_there p) (AtPath path) Nowhere)
  there path Missing e = tt
  there path Implicit e = inl e
  there path (Owned file content) e = inr ((has_tasks fs (λ names. [])).const path file content e)

  at_path_is_of : (path : Path) → IsOf fs (at_path (place_of fs) path)
  at_path_is_of path = there path (place_of fs path) refl

  -- ---- faults

  no_fault_said : (file : UsedFile) (path : Path) (o : Option Kind) (owner : List ℕ) (error : RubyError) →
      owned_by file (content_by file path o) ≡ Owned owner (Faulty error) → ⊥
  no_fault_said file path None owner error e = cc
  no_fault_said file path (Some a_module) owner error e = cc
  no_fault_said file path (Some a_class) owner error e = cc
  no_fault_said file path (Some (a_value x scopes)) owner error e = cc

  abbrev IsFault : List ℕ → RubyError → Type 0
  IsFault owner error = (f : UsedFile) × Among f fs × (f.path ≡ owner) × (file_fault fs f ≡ Some error)

  own_fault : (file : UsedFile) (path : Path) (o : Option RubyError) (owner : List ℕ) (error : RubyError) →
      Among file fs → file_fault fs file ≡ o → own_place file path o ≡ Owned owner (Faulty error) → IsFault owner error
  own_fault file path (Some raised) owner error m f e =
      let same_path : file.path ≡ owner = cc in
      let same_error : raised ≡ error = cc in
      (file, m, same_path, f ∙ ap (λ x. Some x) same_error)
  own_fault file path None owner error m f e =
      absurd (no_fault_said file path (kind_in (files.entries file) path) owner error e)

  inner_fault : (file : UsedFile) (path : Path) (o : Option RubyError) (owner : List ℕ) (error : RubyError) →
      inner_place file path o ≡ Owned owner (Faulty error) → ⊥
  inner_fault file path (Some raised) owner error e = cc
  inner_fault file path None owner error e =
      no_fault_said file path (kind_in (files.entries file) path) owner error e

  around_fault : (path : Path) (o : Option UsedFile) (owner : List ℕ) (error : RubyError) →
      around_place fs path o ≡ Owned owner (Faulty error) → ⊥
  around_fault path None owner error e = cc
  around_fault path (Some file) owner error e = inner_fault file path (file_fault fs file) owner error e

  bare_fault : (path : Path) (site : Bool) (owner : List ℕ) (error : RubyError) →
      bare_place fs path site ≡ Owned owner (Faulty error) → ⊥
  bare_fault path true owner error e = cc
  bare_fault path false owner error e = around_fault path (nearest fs (levels path)) owner error e

  fault_by : (path : Path) (o : Option UsedFile) (owner : List ℕ) (error : RubyError) → file_of fs path ≡ o →
      place_by fs path o ≡ Owned owner (Faulty error) → IsFault owner error
  fault_by path None owner error h e = absurd (bare_fault path (has_site fs path) owner error e)
  fault_by path (Some file) owner error h e =
      own_fault file path (file_fault fs file) owner error (file_found fs path file h).0 refl e

  -- ---- searches

  scope_is_of : (scope : Path) (p : Place) (own : Found) → place_of fs scope ≡ p → IsOf fs own
      → IsOf fs (by_scope p own)
  scope_is_of scope Missing own e is = is
  scope_is_of scope Implicit own e is = is
  scope_is_of scope (Owned file (Faulty error)) own e is = fault_by scope (file_of fs scope) file error refl e
  scope_is_of scope (Owned file (Assigned value scopes)) own e is = is
  scope_is_of scope (Owned file (Opened opening)) own e is = is

  either_is_of : (a b : Found) → IsOf fs a → IsOf fs b → IsOf fs (or_found a b)
  either_is_of Nowhere b h k = k
  either_is_of (AtPath path) b h k = h
  either_is_of (InFaulty file error) b h k = h

-- what is found inside a constant has a task
pub inside_is_of : (fs : List UsedFile) (scope : Path) (name : Name) → IsOf fs (inside (place_of fs) scope name)
inside_is_of fs scope name = scope_is_of fs scope (place_of fs scope) (at_path (place_of fs) (scope ++ name ∷ [])) refl
    (at_path_is_of fs (scope ++ name ∷ []))

-- what is found at the top level has a task
pub top_is_of : (fs : List UsedFile) (name : Name) → IsOf fs (at_top (place_of fs) name)
top_is_of fs name = at_path_is_of fs (name ∷ [])

-- what a bare name is found as has a task
pub bare_is_of : (fs : List UsedFile) (scopes : List Path) (name : Name) → IsOf fs (bare (place_of fs) scopes name)
bare_is_of fs [] name = top_is_of fs name
bare_is_of fs (scope ∷ scopes) name = either_is_of fs (inside (place_of fs) scope name) (bare (place_of fs) scopes name)
    (inside_is_of fs scope name) (bare_is_of fs scopes name)
