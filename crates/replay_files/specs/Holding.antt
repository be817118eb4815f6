-- The files of a replay, and what an edit makes of them.
use Rattle.std.specs.Prelude.{◌≡◌, ℕ, ◌+◌, List, []}
use Rattle.outside.specs.declared.files.FileEntry.{FileEntry}
use Rattle.outside.specs.MemTree.{file_written}
use Rattle.outside.specs.Table.{with_file, without_file}
use Rattle.outside.specs.Watched.{IsWatched}

-- the watched files, in the order of their paths, and how many writes were made
pub record Holding : Type 0 where
  pub held : List FileEntry
  pub writes : ℕ

-- no file was written yet
abbrev pub no_files : Holding
no_files = record { held = []; writes = 0 }

-- the files after a write of a watched one
abbrev pub with_watched : List ℕ → List ℕ → Holding → Holding
with_watched path bytes files = record {
  held = with_file (file_written path bytes (files.writes + 1)) files.held;
  writes = files.writes + 1;
}

-- the files after a write of another one, which is never given
abbrev pub with_another : Holding → Holding
with_another files = record { held = files.held; writes = files.writes + 1 }

-- A write puts a watched file in the place of one of its path. Its stamp has its length, and the number of the write as
-- its time, so that a file that is written again differs from what it was.
pub record Writes (path bytes : List ℕ) (old new : Holding) : Type 0 where
  pub watched : IsWatched path → new ≡ with_watched path bytes old
  pub other : (IsWatched path → ⊥) → new ≡ with_another old

-- the files without the one of this path
abbrev pub removed : List ℕ → Holding → Holding
removed path files = record { held = without_file path files.held; writes = files.writes }
