-- The files of an application, each as it is used, or not.
use Rattle.std.specs.Prelude.{◌≡◌, List, [], ◌∷◌, Option, Some, None, ⊤}
use Rattle.outside.specs.declared.files.FileEntry.{FileEntry}
use Rattle.program_places.specs.Paths.{Path}
use Rattle.program_files.specs.Files.{UsedFile}
use Rattle.program_used.specs.Texts.{reading_in}
use Rattle.program_used.specs.declared.used.UsedText.{UsedText}

-- a file that has a constant has a text with it, and no other has
abbrev pub IsUsed : Option Path → Option UsedText → Type 0
IsUsed None None = ⊤
IsUsed (Some c) (Some used) = used.constant ≡ c
IsUsed constant row = ⊥

-- the files that have these constants have these texts
abbrev pub AreUsed : List (Option Path) → List (Option UsedText) → Type 0
AreUsed [] [] = ⊤
AreUsed (constant ∷ constants) (row ∷ rows) = IsUsed constant row × AreUsed constants rows
AreUsed constants rows = ⊥

-- a file as it is used, if it is
abbrev pub used_at : FileEntry → Option UsedText → Option UsedFile
used_at file None = None
used_at file (Some used) =
    Some (record { path = file.path; constant = used.constant; reading = reading_in used.text })

-- each file as it is used, or not
abbrev pub all_used : List FileEntry → List (Option UsedText) → List (Option UsedFile)
all_used [] rows = []
all_used (file ∷ files) [] = []
all_used (file ∷ files) (row ∷ rows) = used_at file row ∷ all_used files rows
