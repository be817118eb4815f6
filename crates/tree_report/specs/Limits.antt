-- How large an application may be.
use Rattle.std.specs.Prelude.{◌≡◌, ℕ, ◌<◌, ◌≤◌, ◌-◌, ◌^◌, List, ◌∷◌, ◌++◌, length, map, min, max, All, Bool, nat_lt}
use Rattle.std.specs.List.{sum}
use Rattle.outside.specs.declared.files.FileEntry.{FileEntry}
use Rattle.tree_report.specs.declared.limits.Limit.{Limit}
use Rattle.tree_report.specs.declared.limits.Limit.TheVariants.{Files, Bytes, Path}

-- the bytes of all files together, as their stamps say; a file with more bytes than its stamp says counts those
abbrev pub total_bytes : List FileEntry → ℕ
total_bytes files = sum (map (λ f. max f.stamp.length (length f.bytes)) files)

-- 4,096 files, 4,194,304 bytes in all files together, 255 bytes in each path
pub record IsWithinLimits (files : List FileEntry) : Type 0 where
  pub number : length files ≤ 4096
  pub bytes : total_bytes files ≤ 4194304
  pub paths : All (λ f. length f.path ≤ 255) files

-- the file's path exceeds the limit of 255 bytes
abbrev pub has_long_path : FileEntry → Bool
has_long_path file = nat_lt 255 (length file.path)

-- the first path of more than 255 bytes has this length
abbrev pub IsFirstLongPath : List FileEntry → (number : ℕ) → Type 0
IsFirstLongPath files number = (front : List FileEntry) × (file : FileEntry) × (back : List FileEntry)
    × (files ≡ front ++ file ∷ back)
    × All (λ f. length f.path ≤ 255) front × (255 < length file.path) × (number ≡ length file.path)

-- The files exceed this limit and none that is judged before it: first their number, then their bytes, then their
-- paths.
abbrev pub IsExceeded : List FileEntry → Limit → (number : ℕ) → Type 0
IsExceeded files Files number = (4096 < length files) × (number ≡ length files)
IsExceeded files Bytes number = (length files ≤ 4096) × (4194304 < total_bytes files)
    × (number ≡ min (total_bytes files) (2 ^ 64 - 1))
IsExceeded files Path number = (length files ≤ 4096) × (total_bytes files ≤ 4194304) × IsFirstLongPath files number
