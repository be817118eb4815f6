-- How a base name is camelized (Zeitwerk README, "Inflection"; `camelize` of ActiveSupport's inflector without
-- acronyms).
use Rattle.std.specs.Prelude.{ℕ, List, [], ◌∷◌, map}
use Rattle.std.specs.Char.{to_ascii_uppercase, to_ascii_lowercase}
use Rattle.std.specs.List.{flat_map}
use Rattle.app_config.specs.Text.{split}
use Rattle.app_config.specs.Inflections.{LacksBase, IsLastFor}
use Rattle.app_config.specs.declared.config.Config.{Config}

-- a piece with its first byte in upper case and the rest in lower case (ASCII); any other byte is itself
abbrev pub capitalized : List ℕ → List ℕ
capitalized [] = []
capitalized (first ∷ rest) = to_ascii_uppercase first ∷ map to_ascii_lowercase rest

-- the plain case: the pieces between underscores (95), each capitalized, joined
abbrev pub camelized : List ℕ → List ℕ
camelized base = flat_map capitalized (split 95 base)

-- The name of a base: the constant of the last `inflect` line that has the base, else its pieces capitalized and
-- joined.
pub data IsCamelized (config : Config) : List ℕ → List ℕ → Type 0 where
  overridden : {base name : List ℕ} → IsLastFor config.inflect base name → IsCamelized config base name
  plain : (base : List ℕ) → LacksBase config.inflect base → IsCamelized config base (camelized base)
