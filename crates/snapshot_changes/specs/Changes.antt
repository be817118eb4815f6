-- What changed between two snapshots.
use Rattle.std.specs.Prelude.{ℕ, List, length, find, sum_by, bytes_eq, if◌then◌else◌, Option, Some, None}
use Rattle.outside.specs.declared.files.FileEntry.{FileEntry}

-- the bytes of a file that is new, or that differs from the one before
abbrev pub changed_from : Option FileEntry → FileEntry → ℕ
changed_from None file = length file.bytes
changed_from (Some old) file = if bytes_eq old.bytes file.bytes then 0 else length file.bytes

-- the same, with the files before, of which one may have its path
abbrev pub changed_by : List FileEntry → FileEntry → ℕ
changed_by before file = changed_from (find (λ f. bytes_eq f.path file.path) before) file

-- The bytes of the files that are new or differ from those before.
abbrev pub changed_bytes : List FileEntry → List FileEntry → ℕ
changed_bytes before after = sum_by (changed_by before) after
