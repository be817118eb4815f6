-- What the answer of a look at the stamps says of a tree.
use Rattle.std.specs.Prelude.{◌≡◌, Bool, true, false, List, [], ◌∷◌, Option, None, map, IfSome, ⊤}
use Rattle.outside.specs.Watched.{ListsWatched}
use Rattle.outside.specs.MemTree.{TreeState, after_giving, after_failing}
use Rattle.outside.specs.Tree.{Given, stamps_of}
use Rattle.outside.specs.declared.files.FileEntry.{FileEntry}
use Rattle.outside.specs.declared.answers.StampsAns.{StampsAns}
use Rattle.outside.specs.declared.answers.StampsAns.TheVariants.{Read, Failed, Memory}

-- the look at the stamps counts as a fault; want of memory doesn't
abbrev pub stamps_failed : StampsAns → Bool
stamps_failed (Read stamps) = false
stamps_failed Failed = true
stamps_failed Memory = false

-- the item that this answer adds to what the tree gave
abbrev pub stamps_given : StampsAns → List Given
stamps_given (Read stamps) = record { stamps = stamps; snapshot = None } ∷ []
stamps_given Failed = []
stamps_given Memory = []

-- the stamps are those of watched files, in the order of their paths
abbrev pub StampsAreWatched : StampsAns → Type 0
StampsAreWatched (Read stamps) = ListsWatched (map (λ s. s.0) stamps)
StampsAreWatched Failed = ⊤
StampsAreWatched Memory = ⊤

-- where the tree tells, they are the stamps of what it holds
abbrev pub StampsAreOf : StampsAns → (held : Option (List FileEntry)) → Type 0
StampsAreOf (Read stamps) held = IfSome held (λ files. stamps ≡ stamps_of files)
StampsAreOf Failed held = ⊤
StampsAreOf Memory held = ⊤

-- the tree in memory after this answer
abbrev pub after_stamps : StampsAns → TreeState → TreeState
after_stamps (Read stamps) tree = after_giving (stamps_given (Read stamps)) tree
after_stamps Failed tree = after_failing tree
after_stamps Memory tree = tree
