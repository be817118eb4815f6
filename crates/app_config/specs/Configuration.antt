-- A configuration as a whole, and its faults.
use Rattle.std.specs.Prelude.{◌≡◌, ℕ, codes, ◌+◌, List, [], ◌∷◌, ◌++◌, Option, Some, None, Result, Ok, Err}
use Rattle.std.specs.List.{flat_map, filter_map}
use Rattle.app_config.specs.Text.{lines}
use Rattle.app_config.specs.Entries.{meaning}
use Rattle.app_config.specs.declared.entries.Entry.{Entry}
use Rattle.app_config.specs.declared.entries.Entry.TheVariants.{Root, Collapse, Ignore, SkipEager, Inflect, OnLoad}
use Rattle.app_config.specs.declared.config.Config.{Config}
use Rattle.app_config.specs.declared.config.RootLine.{RootLine}
use Rattle.app_config.specs.declared.config.LoadLine.{LoadLine}
use Rattle.app_config.specs.declared.config.ConfigFault.{ConfigFault}
use Rattle.app_config.specs.declared.config.ConfigKind.{ConfigKind}

-- the path of the configuration's file
abbrev pub configuration_path : List ℕ
configuration_path = codes "config/loader.conf"

-- what an entry `root` says; other entries say no root
abbrev pub root_of : Entry → Option RootLine
root_of (Root line) = Some line
root_of _ = None

-- the pattern of an entry `collapse`
abbrev pub collapse_of : Entry → Option (List ℕ)
collapse_of (Collapse pattern) = Some pattern
collapse_of _ = None

-- the pattern of an entry `ignore`
abbrev pub ignore_of : Entry → Option (List ℕ)
ignore_of (Ignore pattern) = Some pattern
ignore_of _ = None

-- the base name and the constant of an entry `inflect`
abbrev pub inflect_of : Entry → Option (List ℕ × List ℕ)
inflect_of (Inflect pair) = Some pair
inflect_of _ = None

-- the constant path and the text of an entry `on_load`
abbrev pub on_load_of : Entry → Option LoadLine
on_load_of (OnLoad line) = Some line
on_load_of _ = None

-- the pattern of an entry `skip_eager`
abbrev pub skip_eager_of : Entry → Option (List ℕ)
skip_eager_of (SkipEager pattern) = Some pattern
skip_eager_of _ = None

-- entries by their kinds, each kind in the order of the lines
abbrev pub collected : List Entry → Config
collected entries = record {
  roots = filter_map root_of entries;
  collapse = filter_map collapse_of entries;
  ignore = filter_map ignore_of entries;
  inflect = filter_map inflect_of entries;
  on_load = filter_map on_load_of entries;
  skip_eager = filter_map skip_eager_of entries;
}

-- the entry that a line says; none for an empty line, a comment or a fault
abbrev pub entry_said : Result (Option Entry) ConfigKind → List Entry
entry_said (Ok (Some entry)) = entry ∷ []
entry_said _ = []

-- the entries of the lines that say one
abbrev pub entries : List (List ℕ) → List Entry
entries all = flat_map (λ line. entry_said (meaning line)) all

-- the configuration that a text without a fault spells
abbrev pub configuration : List ℕ → Config
configuration text = collected (entries (lines text))

-- the fault that a line has, with the line's number; none where it has none
abbrev pub fault_said : ℕ → Result (Option Entry) ConfigKind → List ConfigFault
fault_said number (Err kind) = record { line = number; kind = kind } ∷ []
fault_said number (Ok _) = []

-- the faults of the lines, the first of which has this number
abbrev pub faults_from : ℕ → List (List ℕ) → List ConfigFault
faults_from number [] = []
faults_from number (line ∷ rest) = fault_said number (meaning line) ++ faults_from (number + 1) rest

-- the faults of a text in the order of its lines, which are numbered from 1
abbrev pub faults : List ℕ → List ConfigFault
faults text = faults_from 1 (lines text)

-- the first of several faults
abbrev pub IsFirst : ConfigFault → List ConfigFault → Type 0
IsFirst fault all = (later : List ConfigFault) × (all ≡ fault ∷ later)

-- a configuration with one entry more
abbrev pub with_entry : Config → Entry → Config
with_entry config (Root line) = record config { roots = config.roots ++ line ∷ [] }
with_entry config (Collapse pattern) = record config { collapse = config.collapse ++ pattern ∷ [] }
with_entry config (Ignore pattern) = record config { ignore = config.ignore ++ pattern ∷ [] }
with_entry config (SkipEager pattern) = record config { skip_eager = config.skip_eager ++ pattern ∷ [] }
with_entry config (Inflect pair) = record config { inflect = config.inflect ++ pair ∷ [] }
with_entry config (OnLoad line) = record config { on_load = config.on_load ++ line ∷ [] }

-- a configuration with what one line more says, which is nothing for an empty line, a comment or a fault
abbrev pub with_said : Config → Result (Option Entry) ConfigKind → Config
with_said config (Ok (Some entry)) = with_entry config entry
with_said config _ = config
