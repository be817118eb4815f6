-- How large an application may be. Stamps alone say whether it is: no file is opened for it.
use Rattle.std.specs.Prelude.{ℕ, ◌≤◌, List, length, All}
use Rattle.std.specs.List.{sum_by}
use Rattle.outside.specs.declared.files.Stamp.{Stamp}

-- the bytes of all files together, as their stamps say
abbrev pub bytes_in_all : List (List ℕ × Stamp) → ℕ
bytes_in_all stamps = sum_by (λ s. s.1.length) stamps

-- at most 4,096 files, 4,194,304 bytes in all files together, 255 bytes in each path
pub record AreWithinLimits (stamps : List (List ℕ × Stamp)) : Type 0 where
  pub number : length stamps ≤ 4096
  pub bytes : bytes_in_all stamps ≤ 4194304
  pub paths : All (λ s. length s.0 ≤ 255) stamps
