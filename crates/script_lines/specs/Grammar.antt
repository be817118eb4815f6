-- What holds of each instruction that a script tells.
use Rattle.std.specs.Prelude.{◌≡◌, ◌<◌, ◌≤◌, true, length}
use Rattle.std.specs.Str.{is_utf8}
use Rattle.word_forms.specs.Paths.{is_application_path}
use Rattle.word_forms.specs.Targets.{is_target}
use Rattle.script_lines.specs.declared.instruction.Instruction.{Instruction}
use Rattle.script_lines.specs.declared.instruction.Instruction.TheVariants.{Write, Remove, Request, Step, Finish}

-- A path is UTF-8 and one of an application. There are 64 seats. A target is one, and has at most 2,048 bytes.
abbrev pub IsOfGrammar : Instruction → Type 0
IsOfGrammar (Write path content) = (is_utf8 path ≡ true) × (is_application_path path ≡ true)
IsOfGrammar (Remove path) = (is_utf8 path ≡ true) × (is_application_path path ≡ true)
IsOfGrammar (Request seat target) = (seat < 64) × (is_target target ≡ true) × (length target ≤ 2048)
IsOfGrammar (Step seat) = seat < 64
IsOfGrammar (Finish seat) = seat < 64
