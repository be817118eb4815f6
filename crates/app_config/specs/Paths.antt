-- Constant names, constant paths and the paths of files.
use Rattle.std.specs.Prelude.{ℕ, Bool, false, List, [], ◌∷◌, ◌==◌, ◌&&◌, ◌||◌, not, codes, bytes_eq}
use Rattle.std.specs.List.{list_all}
use Rattle.std.specs.Char.{is_ascii_uppercase, is_ascii_alphanumeric}
use Rattle.app_config.specs.Text.{split, is_filled}

-- a letter, a digit or `_` (95)
abbrev pub is_name_byte : ℕ → Bool
is_name_byte byte = is_ascii_alphanumeric byte || (byte == 95)

-- a text of letters, digits and `_` alone, the empty one too
abbrev pub are_name_bytes : List ℕ → Bool
are_name_bytes bytes = list_all is_name_byte bytes

-- a constant name: an upper case letter, then letters, digits and `_`
abbrev pub is_constant : List ℕ → Bool
is_constant [] = false
is_constant (first ∷ rest) = is_ascii_uppercase first && are_name_bytes rest

-- every second member, from the first on
abbrev pub every_second : List (List ℕ) → List (List ℕ)
every_second [] = []
every_second (name ∷ []) = name ∷ []
every_second (name ∷ _ ∷ rest) = name ∷ every_second rest

-- constant names with one empty part between each two
abbrev pub are_constants_apart : List (List ℕ) → Bool
are_constants_apart [] = false
are_constants_apart (name ∷ []) = is_constant name
are_constants_apart (name ∷ between ∷ rest) = is_constant name && not (is_filled between) && are_constants_apart rest

-- a constant path, as `Admin::Post`: constant names with `::` between each two. Around each colon (58) stand the names
-- and, between two colons, an empty part.
abbrev pub is_constant_path : List ℕ → Bool
is_constant_path word = are_constants_apart (split 58 word)

-- the names of a constant path
abbrev pub constant_names : List ℕ → List (List ℕ)
constant_names word = every_second (split 58 word)

-- a segment that names a file or a directory: it isn't empty, `.` or `..`
abbrev pub is_plain : List ℕ → Bool
is_plain segment = is_filled segment && not (bytes_eq segment (codes ".")) && not (bytes_eq segment (codes ".."))

-- a segment is `app` or `lib`, the two that paths of a configuration begin with
abbrev pub is_top : List ℕ → Bool
is_top segment = bytes_eq segment (codes "app") || bytes_eq segment (codes "lib")

-- the segments of a path stand around its slashes (47)
abbrev pub segments : List ℕ → List (List ℕ)
segments path = split 47 path

-- each segment of a path names a file or a directory
abbrev pub are_plain : List ℕ → Bool
are_plain path = list_all is_plain (segments path)

-- segments of which the first is `app` or `lib` and at least one, and no empty, `.` or `..`, comes below it
abbrev pub are_below_top : List (List ℕ) → Bool
are_below_top [] = false
are_below_top (top ∷ []) = false
are_below_top (top ∷ next ∷ rest) = is_top top && list_all is_plain (next ∷ rest)

-- a path, or a pattern of paths, below `app/` or `lib/`
abbrev pub is_tree_path : List ℕ → Bool
is_tree_path path = are_below_top (segments path)
