-- The configuration of an application's files.
use Rattle.std.specs.Prelude.{◌≡◌, ℕ, Bool, List, []}
use Rattle.std.specs.List.{find}
use Rattle.std.specs.Option.{option_map_or}
use Rattle.std.specs.Str.{bytes_eq}
use Rattle.app_config.specs.Configuration.{configuration, configuration_path, faults, IsFirst}
use Rattle.app_config.specs.declared.config.Config.{Config}
use Rattle.app_config.specs.declared.config.ConfigFault.{ConfigFault}
use Rattle.outside.specs.declared.files.FileEntry.{FileEntry}

-- the file is the configuration, by its path
abbrev pub is_configuration : FileEntry → Bool
is_configuration file = bytes_eq file.path configuration_path

-- the text of the file `config/loader.conf`; the empty text where there is no such file
abbrev pub configuration_text : List FileEntry → List ℕ
configuration_text files = option_map_or (λ file. file.bytes) (find is_configuration files) []

-- no line of that text has a fault, and this is what the lines say
abbrev pub IsConfiguration : List FileEntry → Config → Type 0
IsConfiguration files config = (faults (configuration_text files) ≡ [])
    × (config ≡ configuration (configuration_text files))

-- this is the first fault of that text
abbrev pub IsConfigurationFault : List FileEntry → ConfigFault → Type 0
IsConfigurationFault files fault = IsFirst fault (faults (configuration_text files))
