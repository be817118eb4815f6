-- What the answer of a read of all files says of a tree.
use Rattle.std.specs.Prelude.{◌≡◌, Bool, true, false, List, [], ◌∷◌, Option, Some, IfSome, All, ⊤}
use Rattle.outside.specs.Watched.{ListsWatched}
use Rattle.outside.specs.MemTree.{TreeState, after_giving, after_failing}
use Rattle.outside.specs.Tree.{Given, IsSized, stamps_of, paths_of}
use Rattle.outside.specs.declared.files.FileEntry.{FileEntry}
use Rattle.outside.specs.declared.answers.TreeAns.{TreeAns}
use Rattle.outside.specs.declared.answers.TreeAns.TheVariants.{Read, Failed, Memory}

-- the read of all files counts as a fault; want of memory doesn't
abbrev pub tree_failed : TreeAns → Bool
tree_failed (Read snapshot) = false
tree_failed Failed = true
tree_failed Memory = false

-- the item that this answer adds to what the tree gave
abbrev pub files_given : TreeAns → List Given
files_given (Read snapshot) = record { stamps = stamps_of snapshot.files; snapshot = Some snapshot.files } ∷ []
files_given Failed = []
files_given Memory = []

-- the files are watched ones, in the order of their paths
abbrev pub FilesAreWatched : TreeAns → Type 0
FilesAreWatched (Read snapshot) = ListsWatched (paths_of snapshot.files)
FilesAreWatched Failed = ⊤
FilesAreWatched Memory = ⊤

-- no file has more bytes than its stamp says
abbrev pub FilesAreSized : TreeAns → Type 0
FilesAreSized (Read snapshot) = All IsSized snapshot.files
FilesAreSized Failed = ⊤
FilesAreSized Memory = ⊤

-- where the tree tells, they are what it holds
abbrev pub FilesAre : TreeAns → (held : Option (List FileEntry)) → Type 0
FilesAre (Read snapshot) held = IfSome held (λ files. snapshot.files ≡ files)
FilesAre Failed held = ⊤
FilesAre Memory held = ⊤

-- the tree in memory after this answer
abbrev pub after_files : TreeAns → TreeState → TreeState
after_files (Read snapshot) tree = after_giving (files_given (Read snapshot)) tree
after_files Failed tree = after_failing tree
after_files Memory tree = tree
