-- Files in the order of their paths: what one file more or less makes of them.
use Rattle.std.specs.Prelude.{◌≡◌, ℕ, List, ◌∷◌, ◌++◌, filter, Contains, length, take, drop, ◌≤◌}
use Rattle.std.specs.Ordering.{is_lt, is_gt}
use Rattle.outside.specs.Order.{order}
use Rattle.outside.specs.Tree.{paths_of}
use Rattle.outside.specs.declared.files.FileEntry.{FileEntry}

-- the files whose paths come before this path, and those whose paths come after it
abbrev pub files_before : List ℕ → List FileEntry → List FileEntry
files_before path files = filter (λ f. is_lt (order f.path path)) files

-- the files whose paths come after this path
abbrev pub files_after : List ℕ → List FileEntry → List FileEntry
files_after path files = filter (λ f. is_gt (order f.path path)) files

-- the files with this one in its place among them, instead of one of the same path
abbrev pub with_file : FileEntry → List FileEntry → List FileEntry
with_file file files = files_before file.path files ++ file ∷ files_after file.path files

-- the files without the one of this path
abbrev pub without_file : List ℕ → List FileEntry → List FileEntry
without_file path files = files_before path files ++ files_after path files

-- one of the files has this path
abbrev pub HasPath : List FileEntry → List ℕ → Type 0
HasPath files path = Contains (paths_of files) path

-- the files up to the first place come before the path, those from the second place on come after it
pub record IsPlace (files : List FileEntry) (path : List ℕ) (first second : ℕ) : Type 0 where
  pub within : second ≤ length files
  pub before : files_before path files ≡ take first files
  pub after : files_after path files ≡ drop second files
