-- The entries of a file by the constants that they are of.
use Rattle.std.specs.Prelude.{◌≡◌, ℕ, zero, suc, Bool, true, false, List, [], ◌∷◌, ◌++◌, map, filter, Option, ⊤}
use Rattle.std.specs.Prelude.{Some, None}
use Rattle.std.specs.List.{flat_map, list_any}
use Rattle.program_places.specs.Paths.{Path, same_path}
use Rattle.program_places.specs.Places.{Opening, Content, Assigned, Opened}
use Rattle.program_files.specs.Entries.{Entry, What}
use Rattle.program_files.specs.Faults.{Kind, a_module, a_class, a_value, kind_of, or_kind}
use Rattle.program_files.specs.Files.{UsedFile, Unreadable}
use Rattle.program_files.specs.Contents.{parent_what, include_what, single_what, instance_what, first_mention}

-- the entries of a constant, in text order
abbrev pub group : List Entry → Path → List Entry
group entries path = filter (λ e. same_path e.constant path) entries

-- the entries of each of these constants
abbrev pub groups : List Entry → List Path → List (List Entry)
groups entries paths = map (group entries) paths

-- an entry more in the group at a place
abbrev pub add_at : List (List Entry) → (place : ℕ) → Entry → List (List Entry)
add_at [] place e = []
add_at (g ∷ gs) zero e = (g ++ e ∷ []) ∷ gs
add_at (g ∷ gs) (suc place) e = g ∷ add_at gs place e

-- an entry more in the group at a place, if there is one
abbrev pub add_in : List (List Entry) → Option ℕ → Entry → List (List Entry)
add_in gs None e = gs
add_in gs (Some place) e = add_at gs place e

-- no path stands twice
abbrev pub AreDistinct : List Path → Type 0
AreDistinct [] = ⊤
AreDistinct (path ∷ paths) = (list_any (same_path path) paths ≡ false) × AreDistinct paths

-- how a constant is first defined by its entries
abbrev pub first_kind : List Entry → Option Kind
first_kind [] = None
first_kind (e ∷ es) = or_kind (kind_of e) (first_kind es)

-- what a constant's entries give
abbrev pub given : {A : Type 0} → (Entry → What → List A) → List Entry → List A
given f es = flat_map (λ e. f e e.what) es

-- a file of this path, of which nothing else is told
abbrev pub file_named : List ℕ → UsedFile
file_named path = record { path = path; constant = []; reading = Unreadable [] 0 }

-- a module or class as its entries make it
abbrev pub opening_by : UsedFile → (is_class : Bool) → List Entry → Opening
opening_by file is_class es = record {
  is_class = is_class;
  parent = first_mention (given parent_what es);
  includes = given include_what es;
  singles = given (single_what file) es;
  instances = given (instance_what file) es;
}

-- what a constant is that is first defined so
abbrev pub content_by : UsedFile → List Entry → Option Kind → Option Content
content_by file es None = None
content_by file es (Some a_module) = Some (Opened (opening_by file false es))
content_by file es (Some a_class) = Some (Opened (opening_by file true es))
content_by file es (Some (a_value x scopes)) = Some (Assigned x scopes)
