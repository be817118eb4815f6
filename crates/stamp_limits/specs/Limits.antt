-- The limits of an application, by the stamps of its files.
use Rattle.std.specs.Prelude.{ℕ, Bool, List, Option, Some, length, nat_lt, min, ◌-◌, ◌^◌, if◌then◌else◌}
use Rattle.std.specs.List.{find}
use Rattle.std.specs.Option.{option_map}
use Rattle.outside.specs.Limits.{bytes_in_all}
use Rattle.outside.specs.declared.files.Stamp.{Stamp}
use Rattle.tree_report.specs.declared.limits.ExceededLimit.{ExceededLimit}
use Rattle.tree_report.specs.declared.limits.Limit.TheVariants.{Files, Bytes, Path}

-- the path exceeds the limit of 255 bytes
abbrev pub has_long_path : List ℕ × Stamp → Bool
has_long_path s = nat_lt 255 (length s.0)

-- the first path of more than 255 bytes, by its length
abbrev pub long_path_of : List (List ℕ × Stamp) → Option ExceededLimit
long_path_of stamps =
    option_map (λ s. record { limit = Path; number = length s.0 }) (find has_long_path stamps)

-- The first of these that is exceeded: 4,096 files, 4,194,304 bytes in all files together, 255 bytes in each path. With
-- 4,097 files the number is 4,097.
abbrev pub exceeded_by : List (List ℕ × Stamp) → Option ExceededLimit
exceeded_by stamps =
    if nat_lt 4096 (length stamps) then Some (record { limit = Files; number = length stamps })
    else if nat_lt 4194304 (bytes_in_all stamps)
    then Some (record { limit = Bytes; number = min (bytes_in_all stamps) (2 ^ 64 - 1) })
    else long_path_of stamps
