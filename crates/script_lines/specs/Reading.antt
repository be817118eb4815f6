-- Reading a script, line after line.
use Rattle.std.specs.Prelude.{◌≡◌, ◌≢◌, ℕ, ◌+◌, List, [], ◌∷◌, Option, Some, None, Result, Ok, Err}
use Rattle.std.specs.Prelude.{if◌then◌else◌}
use Rattle.app_config.specs.Text.{split}
use Rattle.app_config.specs.Entries.{is_blank}
use Rattle.script_lines.specs.Content.{contents, behind_contents, count_contents}
use Rattle.script_lines.specs.Lines.{line_told}
use Rattle.script_lines.specs.declared.instruction.Instruction.{Instruction}
use Rattle.script_lines.specs.declared.instruction.Instruction.TheVariants.{Write}
use Rattle.script_lines.specs.declared.instruction.Told.{Told}
use Rattle.script_lines.specs.declared.instruction.LineKind.{LineKind}
use Rattle.script_lines.specs.declared.instruction.LineKind.TheVariants.{Memory}
use Rattle.script_lines.specs.declared.instruction.LineFault.{LineFault}

-- what is left of a script: how many of its lines were read, and the others
pub record Left : Type 0 where
  pub number : ℕ
  pub lines : List (List ℕ)

-- the whole of a text; LF (10) ends each of its lines but the last, and a CR is a byte like any other
abbrev pub whole : List ℕ → Left
whole text = record { number = 0; lines = split 10 text }

-- what comes next: the end, an instruction with what is left behind it, or a line outside the grammar
pub data Turn : Type 0 where
  Ends : Turn
  Tells : Told → Left → Turn
  Wrong : LineFault → Turn

-- the instruction of the line of this number, with the lines behind it: a `write` has its content from them
abbrev pub turn_of : ℕ → Result Instruction LineKind → List (List ℕ) → Turn
turn_of number (Err kind) lines = Wrong (record { line = number; kind = kind })
turn_of number (Ok (Write path content)) lines = Tells
    (record { line = number; instruction = Write path content })
    (record { number = number + count_contents lines; lines = behind_contents lines })
turn_of number (Ok instruction) lines = Tells
    (record { line = number; instruction = instruction })
    (record { number = number; lines = lines })

-- The turn that a list of lines begins with, of which the first stands behind so many. Blank lines count for nothing:
-- empty ones, and those that begin with `#`.
abbrev pub turn_from : ℕ → List (List ℕ) → Turn
turn_from number [] = Ends
turn_from number (line ∷ lines) =
    if is_blank line then turn_from (number + 1) lines
    else turn_of (number + 1) (line_told line (contents lines)) lines

-- what comes next in what is left
abbrev pub next_turn : Left → Turn
next_turn left = turn_from left.number left.lines

-- A reader's answer is the next turn, unless it is want of memory, which has line 0, and it has what is left then. A
-- line outside the grammar and want of memory leave it as it was.
abbrev pub IsTurn : Result (Option Told) LineFault → Left → Left → Type 0
IsTurn (Ok None) old new = (next_turn old ≡ Ends) × (new.lines ≡ [])
IsTurn (Ok (Some told)) old new = next_turn old ≡ Tells told new
IsTurn (Err fault) old new =
    (fault.kind ≢ Memory → next_turn old ≡ Wrong fault) × (fault.kind ≡ Memory → fault.line ≡ 0) × (new ≡ old)
