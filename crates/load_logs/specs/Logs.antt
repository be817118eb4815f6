-- What is logged where tasks are defined.
use Rattle.std.specs.Prelude.{List, [], ◌∷◌, Option, Some, None, cond, ℕ}
use Rattle.std.specs.List.{flat_map}
use Rattle.std.specs.Ordering.{is_eq}
use Rattle.app_config.specs.declared.config.LoadLine.{LoadLine}
use Rattle.program_places.specs.Paths.{Path}
use Rattle.program_index.specs.Content.{Content}
use Rattle.program_index.specs.Lookups.{constant_at}
use Rattle.ruby_types.specs.declared.request.Task.{Task}
use Rattle.ruby_types.specs.declared.request.Task.TheVariants as task
use Rattle.tree_scan_sites.specs.Paths.{path_order}

-- the text of a line that names the constant
abbrev pub text_for : Path → LoadLine → List (List ℕ)
text_for constant line = cond (is_eq (path_order line.constant constant)) (line.text ∷ []) []

-- the texts of the lines that name the constant, in the order of the lines
abbrev pub texts_for : List LoadLine → Option Path → List (List ℕ)
texts_for lines None = []
texts_for lines (Some constant) = flat_map (text_for constant) lines

-- The texts that are logged where a task is defined (Zeitwerk README, "Use case: Configuring a constant", `on_load`):
-- where it is a file, those of the lines `on_load` of the configuration that name the file's constant.
abbrev pub logs_of : Content → Task → List (List ℕ)
logs_of p (task.File path) = texts_for p.config.on_load (constant_at p path)
logs_of p (task.Const path) = []
logs_of p (task.Ancestors path) = []
logs_of p (task.Request request) = []
