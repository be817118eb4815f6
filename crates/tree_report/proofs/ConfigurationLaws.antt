-- The size of a configuration's text.
use Rattle.std.proofs.Common.{◌<◌, ◌^◌, List, [], ◌∷◌, length, All, Some, Bool, true, false, cond, arith}
use Rattle.std.specs.List.{find}
use Rattle.std.specs.Option.{option_map_or}
use Rattle.std.proofs.lemmas.Grind.{common_steps}
use Rattle.std.proofs.lemmas.List.Elements.{All-tail}
use Rattle.outside.specs.declared.files.FileEntry.{FileEntry}
use Rattle.tree_report.specs.Configurations.{is_configuration, configuration_text}

-- a file of fewer bytes than a configuration may have
abbrev pub IsSmall : FileEntry → Type 0
IsSmall file = length file.bytes < 2 ^ 32

small_here : (file : FileEntry) (files : List FileEntry) (test : Bool) → IsSmall file →
    length (configuration_text files) < 2 ^ 32
    → length (option_map_or (λ (f : FileEntry). f.bytes) (cond test (Some file) (find is_configuration files)) []) <
    2 ^ 32
small_here file files true small rest = small
small_here file files false small rest = rest

-- the text of a configuration is a file's, or it is empty
pub text_is_small : (files : List FileEntry) → All IsSmall files → length (configuration_text files) < 2 ^ 32
text_is_small [] all = grind (arith, common_steps)
text_is_small (file ∷ files) all =
    small_here file files (is_configuration file) (all 0 file (grind (arith, common_steps)))
    (text_is_small files (All-tail IsSmall file files all))
