-- The constant of a controller (the Rails guide "Action Controller Overview": a request for `admin/posts` goes to
-- `Admin::PostsController`).
use Rattle.std.specs.Prelude.{ℕ, Bool, true, false, List, [], ◌∷◌, ◌++◌, Option, Some, None, codes, cond, bytes_eq}
use Rattle.app_config.specs.declared.config.Config.{Config}
use Rattle.tree_scan_names.specs.Camel.{camelized}
use Rattle.program_places.specs.Paths.{Name, Path}

-- the later of two, if it is there
abbrev pub or_later : Option (List ℕ) → Option (List ℕ) → Option (List ℕ)
or_later earlier None = earlier
or_later earlier (Some later) = Some later

-- the constant that the last `inflect` line of this base gives it
abbrev pub inflected : List (List ℕ × List ℕ) → (base : List ℕ) → Option (List ℕ)
inflected [] base = None
inflected (line ∷ lines) base = or_later (cond (bytes_eq line.0 base) (Some line.1) None) (inflected lines base)

-- a base by the constant that is given to it, and else by itself
abbrev pub camelized_or : Option (List ℕ) → (base : List ℕ) → List ℕ
camelized_or None base = camelized base
camelized_or (Some constant) base = constant

-- the constant name of a base name
abbrev pub camelized_by : Config → (base : List ℕ) → List ℕ
camelized_by config base = camelized_or (inflected config.inflect base) base

-- The constant of a request's segments: each is camelized, the last with `_controller` behind it.
abbrev pub controller_of : Config → List Name → Path
controller_of config [] = []
controller_of config (segment ∷ []) = camelized_by config (segment ++ codes "_controller") ∷ []
controller_of config (segment ∷ next ∷ segments) =
    camelized_by config segment ∷ controller_of config (next ∷ segments)

-- the name that a segment gives, the last one with `_controller` behind it
abbrev pub segment_name : Config → (is_last : Bool) → Name → Name
segment_name config true segment = camelized_by config (segment ++ codes "_controller")
segment_name config false segment = camelized_by config segment

-- there is no more
abbrev pub is_none : List Name → Bool
is_none [] = true
is_none (name ∷ names) = false
