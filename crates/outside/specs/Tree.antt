-- What a tree of files holds and gave.
use Rattle.std.specs.Prelude.{◌≡◌, ◌⊎◌, ℕ, ◌≤◌, List, Option, Some, None, map, length, Any, Contains, IfSome, IsSomeAnd}
use Rattle.std.specs.Prelude.{⊤}
use Rattle.outside.specs.Watched.{ListsWatched}
use Rattle.outside.specs.declared.files.FileEntry.{FileEntry}
use Rattle.outside.specs.declared.files.Stamp.{Stamp}

-- the paths of files
abbrev pub paths_of : List FileEntry → List (List ℕ)
paths_of files = map (λ f. f.path) files

-- the stamps of files, each with its path
abbrev pub stamps_of : List FileEntry → List (List ℕ × Stamp)
stamps_of files = map (λ f. (f.path, f.stamp)) files

-- the file has no more bytes than its stamp says
abbrev pub IsSized : FileEntry → Type 0
IsSized file = length file.bytes ≤ file.stamp.length

-- where a tree tells what it holds, these are watched files in the order of their paths
abbrev pub HoldsWatched : (held : Option (List FileEntry)) → Type 0
HoldsWatched held = IfSome held (λ files. ListsWatched (paths_of files))

-- one answer of a tree: the stamps that it gave and, where the files were read, the files
pub record Given : Type 0 where
  pub stamps : List (List ℕ × Stamp)
  pub snapshot : Option (List FileEntry)

-- this file is held, or it is in a snapshot that was given
abbrev pub IsKnown : (held : List FileEntry) → (given : List Given) → FileEntry → Type 0
IsKnown held given file = Contains held file
    ⊎ Any (λ item. IsSomeAnd item.snapshot (λ files. Contains files file)) given

-- Equal stamps mean equal contents: two known files of one path and one stamp have the same bytes.
abbrev pub AgreesOnStamps : (held : Option (List FileEntry)) → (given : Option (List Given)) → Type 0
AgreesOnStamps (Some held) (Some given) = (f g : FileEntry) → IsKnown held given f → IsKnown held given g
    → f.path ≡ g.path → f.stamp ≡ g.stamp → f.bytes ≡ g.bytes
AgreesOnStamps (Some held) None = ⊤
AgreesOnStamps None given = ⊤
