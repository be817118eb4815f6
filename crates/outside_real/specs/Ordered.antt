-- Files in the order of their paths, one after another.
use Rattle.std.specs.Prelude.{◌≡◌, ℕ, ◌+◌, List, length, slice_index_or}
use Rattle.outside.specs.Order.{IsBefore}
use Rattle.outside.specs.declared.files.FileEntry.{FileEntry}

-- the path of the last file comes before this path: `app/b.rb` is behind `app/a.rb`
abbrev pub IsBehindLast : List FileEntry → List ℕ → Type 0
IsBehindLast files path = (k : ℕ) (d : FileEntry) → k + 1 ≡ length files → IsBefore (slice_index_or files k d).path path
