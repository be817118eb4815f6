-- What files are read as.
use Rattle.std.specs.Prelude.{◌≡◌, ℕ, List}
use Rattle.ruby_types.specs.declared.tree.FileTree.{FileTree}
use Rattle.ruby_grammar.specs.Faults.{IsText}
use Rattle.program_files.specs.Entries.{file_entries}
use Rattle.program_files.specs.Files.{Reading, Readable, Unreadable}

-- The entries are those of the tree of a text of the profile. (Nothing is owed of a first fault.)
abbrev pub IsRead : Reading → Type 0
IsRead (Readable es) = (bytes : List ℕ) × (tree : FileTree) × IsText bytes tree × (es ≡ file_entries tree.defs)
IsRead (Unreadable kind at) = Unit {0}
