-- Entries by their constants, one more at a time, and what a file says by them.
use Rattle.std.proofs.Common.{◌≡◌, ℕ, zero, suc, Bool, true, false, cond, List, []}
use Rattle.std.proofs.Common.{◌∷◌, ◌++◌, length, replicate}
use Rattle.std.proofs.Common.{Option, Some, None, refl, sym, ap, ◌∙◌, append-nil}
use Rattle.std.specs.List.{list_any}
use Rattle.std.specs.Option.{option_map}
use Rattle.std.proofs.lemmas.Bool.{or_parts}
use Rattle.program_places.specs.Paths.{Path, same_path}
use Rattle.program_places.specs.Places.{Opened, Opening, Mention, Method}
use Rattle.program_files.specs.Entries.{Entry, What, Opens, Assigns, Defines, Includes, Readers}
use Rattle.program_files.specs.Files.{UsedFile, entries}
use Rattle.program_files.specs.Faults.{Kind, a_module, a_class, a_value, kind_of, or_kind, kind_in}
use Rattle.program_files.specs.Contents as contents
use Rattle.program_files.specs.Contents.{gathered, parent_what, include_what, single_what, instance_what, content_in}
use Rattle.program_files.specs.Contents.{opening_of, first_mention}
use Rattle.program_files.proofs.Paths.{path_decides}
use Rattle.program_constants.specs.Constants.{first_place}
use Rattle.program_code.specs.Groups.{group, groups, add_at, add_in, AreDistinct, first_kind, given, file_named}
use Rattle.program_code.specs.Groups.{opening_by, content_by}

-- ---- one entry more

-- groups of no entries are empty
pub groups_empty : (paths : List Path) → replicate (length paths) [] ≡ groups [] paths
groups_empty [] = refl
groups_empty (p ∷ ps) = ap (λ gs. [] ∷ gs) (groups_empty ps)

same_back : (a b : Path) (v : Bool) → same_path a b ≡ v → same_path b a ≡ v
same_back a b true e = (path_decides b a).1 (sym ((path_decides a b).0 e))
same_back a b false e = at (same_path b a) refl where
  at : (w : Bool) → same_path b a ≡ w → w ≡ false
  at false f = refl
  at true f = sym ((path_decides a b).1 (sym ((path_decides b a).0 f))) ∙ e

group_more : (es : List Entry) (e : Entry) (p : Path) →
    group (es ++ e ∷ []) p ≡ group es p ++ cond (same_path e.constant p) (e ∷ []) []
group_more [] e p = refl
group_more (d ∷ es) e p = at (same_path d.constant p) (group_more es e p) where
  at : (b : Bool) → group (es ++ e ∷ []) p ≡ group es p ++ cond (same_path e.constant p) (e ∷ []) [] →
      cond b (d ∷ group (es ++ e ∷ []) p) (group (es ++ e ∷ []) p)
      ≡ cond b (d ∷ group es p) (group es p) ++ cond (same_path e.constant p) (e ∷ []) []
  at true ih = ap (λ g. d ∷ g) ih
  at false ih = ih

group_same : (es : List Entry) (e : Entry) (p : Path) → same_path e.constant p ≡ true →
    group (es ++ e ∷ []) p ≡ group es p ++ e ∷ []
group_same es e p h = group_more es e p ∙ ap (λ b. group es p ++ cond b (e ∷ []) []) h

group_other : (es : List Entry) (e : Entry) (p : Path) → same_path e.constant p ≡ false →
    group (es ++ e ∷ []) p ≡ group es p
group_other es e p h =
    group_more es e p ∙ ap (λ b. group es p ++ cond b (e ∷ []) []) h ∙ append-nil (group es p)

groups_other : (es : List Entry) (e : Entry) (c : Path) (ps : List Path) → e.constant ≡ c →
    list_any (same_path c) ps ≡ false → groups (es ++ e ∷ []) ps ≡ groups es ps
groups_other es e c [] same h = refl
groups_other es e c (p ∷ ps) same h =
    let parts = or_parts (same_path c p) (list_any (same_path c) ps) h in
    ap (λ g. g ∷ groups (es ++ e ∷ []) ps) (group_other es e p (ap (λ x. same_path x p) same ∙ parts.0))
    ∙ ap (λ gs. group es p ∷ gs) (groups_other es e c ps same parts.1)

add_behind : (g : List Entry) (gs : List (List Entry)) (o : Option ℕ) (e : Entry) →
    g ∷ add_in gs o e ≡ add_in (g ∷ gs) (option_map suc o) e
add_behind g gs None e = refl
add_behind g gs (Some k) e = refl

-- an entry more stands in the group of its constant
pub groups_more : (es : List Entry) (e : Entry) (paths : List Path) → AreDistinct paths →
    groups (es ++ e ∷ []) paths ≡ add_in (groups es paths) (first_place e.constant paths) e
groups_more es e [] distinct = refl
groups_more es e (p ∷ ps) distinct = at (same_path p e.constant) refl (groups_more es e ps distinct.1) where
  at : (b : Bool) → same_path p e.constant ≡ b →
      groups (es ++ e ∷ []) ps ≡ add_in (groups es ps) (first_place e.constant ps) e →
      groups (es ++ e ∷ []) (p ∷ ps)
      ≡ add_in (groups es (p ∷ ps)) (cond b (Some 0) (option_map suc (first_place e.constant ps))) e
  at true h ih =
      ap (λ g. g ∷ groups (es ++ e ∷ []) ps) (group_same es e p (same_back p e.constant true h))
      ∙ ap (λ gs. (group es p ++ e ∷ []) ∷ gs)
      (groups_other es e p ps (sym ((path_decides p e.constant).0 h)) distinct.0)
  at false h ih =
      ap (λ g. g ∷ groups (es ++ e ∷ []) ps) (group_other es e p (same_back p e.constant false h))
      ∙ ap (λ gs. group es p ∷ gs) ih
      ∙ add_behind (group es p) (groups es ps) (first_place e.constant ps) e

add_at_length : (gs : List (List Entry)) (k : ℕ) (e : Entry) → length (add_at gs k e) ≡ length gs
add_at_length [] k e = refl
add_at_length (g ∷ gs) zero e = refl
add_at_length (g ∷ gs) (suc k) e = ap suc (add_at_length gs k e)

-- an entry more keeps the number of groups
pub add_in_length : (gs : List (List Entry)) (o : Option ℕ) (e : Entry) → length (add_in gs o e) ≡ length gs
add_in_length gs None e = refl
add_in_length gs (Some k) e = add_at_length gs k e

-- ---- what a file says of a constant, by its entries

-- a constant is first defined as its entries first define it
pub kind_told : (es : List Entry) (p : Path) → kind_in es p ≡ first_kind (group es p)
kind_told [] p = refl
kind_told (e ∷ es) p = at (same_path e.constant p) (kind_told es p) where
  at : (b : Bool) → kind_in es p ≡ first_kind (group es p) →
      cond b (or_kind (kind_of e) (kind_in es p)) (kind_in es p)
      ≡ first_kind (cond b (e ∷ group es p) (group es p))
  at true ih = ap (or_kind (kind_of e)) ih
  at false ih = ih

given_told : {A : Type 0} (f : Entry → What → List A) (es : List Entry) (p : Path) →
    gathered f es p ≡ given f (group es p)
given_told f [] p = refl
given_told f (e ∷ es) p = at (same_path e.constant p) (given_told f es p) where
  at : (b : Bool) → gathered f es p ≡ given f (group es p) →
      cond b (f e e.what) [] ++ gathered f es p ≡ given f (cond b (e ∷ group es p) (group es p))
  at true ih = ap (λ xs. f e e.what ++ xs) ih
  at false ih = ih

given_same : {A : Type 0} (f g : Entry → What → List A) → ((e : Entry) (w : What) → f e w ≡ g e w) →
    (es : List Entry) → given f es ≡ given g es
given_same f g h [] = refl
given_same f g h (e ∷ es) = ap (λ xs. xs ++ given f es) (h e e.what)
    ∙ ap (λ xs. g e e.what ++ xs) (given_same f g h es)

single_same : (file : UsedFile) (e : Entry) (w : What) →
    single_what file e w ≡ single_what (file_named file.path) e w
single_same file e (Opens is_class parent) = refl
single_same file e (Assigns value) = refl
single_same file e (Defines true name params body) = refl
single_same file e (Defines false name params body) = refl
single_same file e (Includes constant) = refl
single_same file e (Readers names) = refl

instance_same : (file : UsedFile) (e : Entry) (w : What) →
    instance_what file e w ≡ instance_what (file_named file.path) e w
instance_same file e (Opens is_class parent) = refl
instance_same file e (Assigns value) = refl
instance_same file e (Defines true name params body) = refl
instance_same file e (Defines false name params body) = refl
instance_same file e (Includes constant) = refl
instance_same file e (Readers names) = refl

abbrev made : Bool → Option Mention → List Mention → List Method → List Method → Opening
made is_class parent includes singles instances =
    record { is_class = is_class; parent = parent; includes = includes; singles = singles; instances = instances }

opening_told : (file : UsedFile) (is_class : Bool) (p : Path) →
    opening_of file is_class p ≡ opening_by (file_named file.path) is_class (group (entries file) p)
opening_told file is_class p =
    let es = entries file in
    let g = group es p in
    ap (λ x. made is_class (first_mention x) (gathered include_what es p) (gathered (single_what file) es p)
    (gathered (instance_what file) es p)) (given_told parent_what es p)
    ∙ ap (λ x. made is_class (first_mention (given parent_what g)) x (gathered (single_what file) es p)
    (gathered (instance_what file) es p)) (given_told include_what es p)
    ∙ ap (λ x. made is_class (first_mention (given parent_what g)) (given include_what g) x
    (gathered (instance_what file) es p))
    (given_told (single_what file) es p
    ∙ given_same (single_what file) (single_what (file_named file.path)) (single_same file) g)
    ∙ ap (λ x. made is_class (first_mention (given parent_what g)) (given include_what g)
    (given (single_what (file_named file.path)) g) x)
    (given_told (instance_what file) es p
    ∙ given_same (instance_what file) (instance_what (file_named file.path)) (instance_same file) g)

content_at : (file : UsedFile) (p : Path) (o : Option Kind) →
    contents.content_by file p o ≡ content_by (file_named file.path) (group (entries file) p) o
content_at file p None = refl
content_at file p (Some a_module) = ap (λ x. Some (Opened x)) (opening_told file false p)
content_at file p (Some a_class) = ap (λ x. Some (Opened x)) (opening_told file true p)
content_at file p (Some (a_value x scopes)) = refl

-- what a file says of a path is what the entries of the path say
pub content_told : (file : UsedFile) (p : Path) → content_in file p
    ≡ content_by (file_named file.path) (group (entries file) p) (first_kind (group (entries file) p))
content_told file p = content_at file p (kind_in (entries file) p)
    ∙ ap (content_by (file_named file.path) (group (entries file) p)) (kind_told (entries file) p)
