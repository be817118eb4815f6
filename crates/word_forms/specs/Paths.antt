-- The paths of an application's files.
use Rattle.std.specs.Prelude.{ℕ, Bool, List, ◌||◌, bytes_eq}
use Rattle.app_config.specs.Paths.{is_tree_path}
use Rattle.app_config.specs.Configuration.{configuration_path}

-- a path below `app/` or `lib/`, with no empty, `.` or `..` segment, or that of the configuration
abbrev pub is_application_path : List ℕ → Bool
is_application_path path = is_tree_path path || bytes_eq path configuration_path
