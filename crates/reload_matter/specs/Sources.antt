-- What programs are of the files that they are built of.
use Rattle.std.specs.Prelude.{ℕ, Bool, List, Option, Result}
use Rattle.outside.specs.declared.files.FileEntry.{FileEntry}
use Rattle.outside.specs.declared.files.Stamp.{Stamp}

-- P: programs. F: why files give no program.
pub record Sources (P F : Type 0) : Type 1 where
  -- the limit that files with these paths and stamps exceed, if they exceed one
  pub limit : List (List ℕ × Stamp) → Option F
  -- the program's files have these paths and stamps
  pub has_stamps : P → List (List ℕ × Stamp) → Bool
  -- this is the program of these files, or why they give none
  pub Builds : List FileEntry → Result P F → Type 0
