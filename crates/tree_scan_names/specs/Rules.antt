-- How the rules of names keep a configuration.
use Rattle.std.specs.Prelude.{◌≡◌, ℕ, List}
use Rattle.app_config.specs.declared.config.Config.{Config}

-- the lines that are looked up are those of the configuration
pub record AreRules (config : Config) (ignored collapsed : List (List ℕ)) (inflections : List (List ℕ × List ℕ))
    : Type 0 where
  pub ignore : ignored ≡ config.ignore
  pub collapse : collapsed ≡ config.collapse
  pub inflect : inflections ≡ config.inflect
