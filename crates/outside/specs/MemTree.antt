-- A tree in memory: what contracts see of it, and what an edit makes of it.
use Rattle.std.specs.Prelude.{◌≡◌, ℕ, ◌+◌, List, [], ◌++◌, length, true, false}
use Rattle.outside.specs.CallState.{CallState, uncalled}
use Rattle.outside.specs.Calls.{counted}
use Rattle.outside.specs.Tree.{Given}
use Rattle.outside.specs.Table.{with_file, without_file}
use Rattle.outside.specs.Watched.{IsWatched}
use Rattle.outside.specs.declared.files.FileEntry.{FileEntry}

-- the watched files that it holds, the other files that it keeps, what it gave, how many writes were made, its calls
pub record TreeState : Type 0 where
  pub held : List FileEntry
  pub others : List FileEntry
  pub given : List Given
  pub writes : ℕ
  pub calls : CallState

-- a tree that keeps nothing yet
abbrev pub empty_tree : (fails : List ℕ) → TreeState
empty_tree fails = record {
  held = [];
  others = [];
  given = [];
  writes = 0;
  calls = uncalled fails;
}

-- a file as the write with this number makes it
abbrev pub file_written : (path bytes : List ℕ) → (number : ℕ) → FileEntry
file_written path bytes number =
    record { path = path; bytes = bytes; stamp = record { length = length bytes; time = number } }

-- the tree after a write of a watched file
abbrev pub with_held : FileEntry → TreeState → TreeState
with_held file tree = record {
  held = with_file file tree.held;
  others = tree.others;
  given = tree.given;
  writes = tree.writes + 1;
  calls = tree.calls;
}

-- the tree after a write of another file, which is kept and isn't given
abbrev pub with_other : FileEntry → TreeState → TreeState
with_other file tree = record {
  held = tree.held;
  others = with_file file tree.others;
  given = tree.given;
  writes = tree.writes + 1;
  calls = tree.calls;
}

-- A write puts the file among the watched ones that the tree holds, or among the others.
pub record Writes (path bytes : List ℕ) (old new : TreeState) : Type 0 where
  pub watched : IsWatched path → new ≡ with_held (file_written path bytes (old.writes + 1)) old
  pub other : (IsWatched path → ⊥) → new ≡ with_other (file_written path bytes (old.writes + 1)) old

-- the tree without a file of this path
abbrev pub without_path : List ℕ → TreeState → TreeState
without_path path tree = record {
  held = without_file path tree.held;
  others = without_file path tree.others;
  given = tree.given;
  writes = tree.writes;
  calls = tree.calls;
}

-- the tree after a call that gave these items
abbrev pub after_giving : List Given → TreeState → TreeState
after_giving items tree = record {
  held = tree.held;
  others = tree.others;
  given = tree.given ++ items;
  writes = tree.writes;
  calls = counted false tree.calls;
}

-- the tree after a call that failed
abbrev pub after_failing : TreeState → TreeState
after_failing tree = record {
  held = tree.held;
  others = tree.others;
  given = tree.given;
  writes = tree.writes;
  calls = counted true tree.calls;
}
