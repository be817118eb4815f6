-- What a table of constants tells of the files that spell them.
use Rattle.std.proofs.Common.{◌≡◌, ℕ, suc, Bool, true, false, ◌||◌, cond, List, [], ◌∷◌, map, Option, Some, None}
use Rattle.std.proofs.Common.{slice_get, length, ◌<◌, refl, sym, ap, ◌∙◌}
use Rattle.std.specs.List.{list_any}
use Rattle.std.specs.Option.{option_map}
use Rattle.std.proofs.lemmas.Option.{none-some, same_Some, slice_get-map, slice_get_within}
use Rattle.program_places.specs.Paths.{Path, same_path, begins}
use Rattle.program_files.specs.Files.{UsedFile, entries, file_of, is_above, has_site, is_namespace}
use Rattle.program_files.specs.Faults.{kind_in, keyword_by}
use Rattle.program_constants.specs.Constants.{first_place, has_site_among, is_namespace_among}
use Rattle.program_constants.proofs.ListLaws.{first_there}
use Rattle.program_faults.specs.Read.{constants_of, own_kind, own_of}
use Rattle.program_faults.specs.declared.own.OwnKind.{OwnKind}
use Rattle.program_faults.specs.declared.own.OwnKind.TheVariants as own

any_constant : (g : Path → Bool) (fs : List UsedFile) → list_any g (constants_of fs) ≡ list_any (λ f. g f.constant) fs
any_constant g [] = refl
any_constant g (f ∷ fs) = ap (λ b. g f.constant || b) (any_constant g fs)

-- a path has a site among the constants where it has one by the files
pub site_among : (fs : List UsedFile) (path : Path) → has_site_among (constants_of fs) path ≡ has_site fs path
site_among fs [] = refl
site_among fs (n ∷ ns) = any_constant (begins (n ∷ ns)) fs

-- a path is a namespace among the constants where it is one by the files
pub namespace_among : (fs : List UsedFile) (path : Path) →
    is_namespace_among (constants_of fs) path ≡ is_namespace fs path
namespace_among fs path = any_constant (is_above path) fs

-- the file at a place, if there is one
abbrev chosen : Option ℕ → List UsedFile → Option UsedFile
chosen None fs = None
chosen (Some k) fs = slice_get fs k

chosen_at : (path : Path) (f : UsedFile) (fs : List UsedFile) (b : Bool) (o : Option ℕ) → file_of fs path ≡ chosen o fs
    →
    cond b (Some f) (file_of fs path) ≡ chosen (cond b (Some 0) (option_map suc o)) (f ∷ fs)
chosen_at path f fs true o ih = refl
chosen_at path f fs false None ih = ih
chosen_at path f fs false (Some k) ih = ih

-- the file of a path is the one at the first place of the path
file_chosen : (path : Path) (fs : List UsedFile) → file_of fs path ≡ chosen (first_place path (constants_of fs)) fs
file_chosen path [] = refl
file_chosen path (f ∷ fs) =
    chosen_at path f fs (same_path f.constant path) (first_place path (constants_of fs)) (file_chosen path fs)

-- a path without a first place has no file
pub no_file_of : (path : Path) (fs : List UsedFile) → first_place path (constants_of fs) ≡ None → file_of fs path ≡ None
no_file_of path fs e = file_chosen path fs ∙ ap (λ o. chosen o fs) e

-- the file at a first place, and its constant
pub record FileAt (path : Path) (fs : List UsedFile) (k : ℕ) : Type 0 where
  pub file : UsedFile
  pub at : slice_get fs k ≡ Some file
  pub is : file_of fs path ≡ Some file
  pub constant : file.constant ≡ path

file_at_of : (path : Path) (fs : List UsedFile) (k : ℕ) (o : Option UsedFile) → slice_get fs k ≡ o →
    file_of fs path ≡ slice_get fs k → option_map (λ f. f.constant) o ≡ Some path → FileAt path fs k
file_at_of path fs k None at is there = absurd (none-some path there)
file_at_of path fs k (Some f) at is there =
    record { file = f; at = at; is = is ∙ at; constant = same_Some f.constant path there }

-- the file of a path with a first place stands there
pub file_at_first : (path : Path) (fs : List UsedFile) (k : ℕ) → first_place path (constants_of fs) ≡ Some k →
    FileAt path fs k
file_at_first path fs k e =
    let here = (first_there path (constants_of fs) k e).here in
    file_at_of path fs k (slice_get fs k) refl (file_chosen path fs ∙ ap (λ o. chosen o fs) e)
    (sym (slice_get-map (λ (f : UsedFile). f.constant) fs k) ∙ here)

-- a first place is a place among the files' own kinds
pub first_within : (path : Path) (fs : List UsedFile) (k : ℕ) → first_place path (constants_of fs) ≡ Some k →
    k < length (map own_of fs)
first_within path fs k e =
    let f = file_at_first path fs k e in
    slice_get_within (map own_of fs) k (own_of f.file)
    (slice_get-map own_of fs k ∙ ap (option_map own_of) f.at)

-- a namespace without a file is a module
pub module_without_file : (path : Path) (fs : List UsedFile) → first_place path (constants_of fs) ≡ None →
    own.Module ≡ own_kind (keyword_by (file_of fs path) path)
module_without_file path fs e = ap (λ o. own_kind (keyword_by o path)) (sym (no_file_of path fs e))

-- the own kind of a namespace's file says how it is opened there
pub keyword_of_file : (path : Path) (fs : List UsedFile) (k : ℕ) (kind : OwnKind) →
    first_place path (constants_of fs) ≡ Some k → slice_get (map own_of fs) k ≡ Some kind →
    kind ≡ own_kind (keyword_by (file_of fs path) path)
keyword_of_file path fs k kind e h =
    let f = file_at_first path fs k e in
    let own_there : Some kind ≡ Some (own_of f.file) = sym h ∙ slice_get-map own_of fs k ∙ ap (option_map own_of)
    f.at in
    same_Some kind (own_of f.file) own_there
    ∙ ap (λ p. own_kind (kind_in (entries f.file) p)) f.constant
    ∙ ap (λ o. own_kind (keyword_by o path)) (sym f.is)
