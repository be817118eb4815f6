-- The files that an application uses: for each constant that is spelled, its file.
use Rattle.std.specs.Prelude.{ℕ, Bool, false, not, ◌&&◌, List, [], ◌∷◌, Option, find, bytes_eq}
use Rattle.std.specs.List.{list_any}
use Rattle.ruby_types.specs.declared.tree.FileTree.{FileTree}
use Rattle.program_places.specs.Paths.{Path, same_path, begins}
use Rattle.program_files.specs.Entries.{Entry, file_entries}

-- What a file's text is: the entries of its tree, or its first fault.
pub data Reading : Type 0 where
  Readable : List Entry → Reading
  Unreadable : (kind : List ℕ) → (at : ℕ) → Reading

-- a tree that was read, as its entries
abbrev pub reading_of : FileTree → Reading
reading_of tree = Readable (file_entries tree.defs)

-- A file that is used, the constant that it spells, and its text.
pub record UsedFile : Type 0 where
  pub path : List ℕ
  pub constant : Path
  pub reading : Reading

-- the entries of what was read; none of a text that has no tree
abbrev pub entries_read : Reading → List Entry
entries_read (Readable es) = es
entries_read (Unreadable kind at) = []

-- the entries of a file
abbrev pub entries : UsedFile → List Entry
entries file = entries_read file.reading

-- The file of a constant, and the file of a path.
abbrev pub file_of : List UsedFile → Path → Option UsedFile
file_of files path = find (λ f. same_path f.constant path) files

-- the file of a path, if one is used
abbrev pub file_at : List UsedFile → List ℕ → Option UsedFile
file_at files path = find (λ f. bytes_eq f.path path) files

-- the first constant stands strictly above the second
abbrev pub is_above : Path → Path → Bool
is_above a b = begins a b && not (begins b a)

-- A constant is a namespace where a file spells one inside it, and has a site where it is a namespace or has a file.
abbrev pub is_namespace : List UsedFile → Path → Bool
is_namespace files path = list_any (λ f. is_above path f.constant) files

-- a file spells this constant, which has a name, or one inside it
abbrev pub named_site : List UsedFile → Path → Bool
named_site files path = list_any (λ f. begins path f.constant) files

-- Object has no site.
abbrev pub has_site : List UsedFile → Path → Bool
has_site files [] = false
has_site files (name ∷ names) = named_site files (name ∷ names)
