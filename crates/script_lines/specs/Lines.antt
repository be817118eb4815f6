-- What one line of a script tells.
use Rattle.std.specs.Prelude.{◌≡◌, ◌≢◌, ℕ, ◌-◌, Bool, List, [], ◌∷◌, ◌&&◌, length, nat_le, codes, bytes_eq}
use Rattle.std.specs.Prelude.{Option, Some, None, option_map, Result, Ok, Err, MatchResult, if◌then◌else◌}
use Rattle.std.specs.Str.{is_utf8}
use Rattle.app_config.specs.Text.{split}
use Rattle.word_forms.specs.Numbers.{number_of}
use Rattle.word_forms.specs.Targets.{is_target}
use Rattle.word_forms.specs.Paths.{is_application_path}
use Rattle.script_lines.specs.Content.{is_content}
use Rattle.script_lines.specs.declared.instruction.Instruction.{Instruction}
use Rattle.script_lines.specs.declared.instruction.Instruction.TheVariants.{Write, Remove, Request, Step, Finish}
use Rattle.script_lines.specs.declared.instruction.LineKind.{LineKind}
use Rattle.script_lines.specs.declared.instruction.LineKind.TheVariants.{UnknownWord, WordCount, BadPath, BadSeat}
use Rattle.script_lines.specs.declared.instruction.LineKind.TheVariants.{BadTarget, StrayContent, Memory}
use Rattle.script_lines.specs.declared.words.Verb.{Verb}
use Rattle.script_lines.specs.declared.words.Verb.TheVariants as verb
use Rattle.script_lines.specs.declared.words.Operands.{Operands}
use Rattle.script_lines.specs.declared.words.Operands.TheVariants as operands

-- the words of a line stand around its spaces (32), so that one space is between each two
abbrev pub words : List ℕ → List (List ℕ)
words line = split 32 line

-- the first word of a line
abbrev pub verb_of : List ℕ → Option Verb
verb_of word =
    if bytes_eq word (codes "write") then Some verb.Write
    else (if bytes_eq word (codes "remove") then Some verb.Remove
    else (if bytes_eq word (codes "request") then Some verb.Request
    else (if bytes_eq word (codes "step") then Some verb.Step
    else (if bytes_eq word (codes "finish") then Some verb.Finish else None))))

-- a path that is UTF-8 and one of an application
abbrev pub is_script_path : List ℕ → Bool
is_script_path path = is_utf8 path && is_application_path path

-- a target of at most 2,048 bytes
abbrev pub is_script_target : List ℕ → Bool
is_script_target target = is_target target && nat_le (length target) 2048

-- Seats are written as 1 to 64, and counted from 0.
abbrev pub seat_of : List ℕ → Option ℕ
seat_of word = option_map (λ n. n - 1) (number_of 64 word)

-- the seat of a word
abbrev pub seat_or_fault : Option ℕ → Result ℕ LineKind
seat_or_fault None = Err BadSeat
seat_or_fault (Some seat) = Ok seat

-- the seat that a word writes; any other word is a bad seat
abbrev pub known_seat : List ℕ → Result ℕ LineKind
known_seat word = seat_or_fault (seat_of word)

-- the seat that is the only word
abbrev pub only_seat : List (List ℕ) → Result ℕ LineKind
only_seat (word ∷ []) = known_seat word
only_seat _ = Err WordCount

-- what is made of a seat, or the same fault
abbrev pub seated : (ℕ → Result Instruction LineKind) → Result ℕ LineKind → Result Instruction LineKind
seated make (Ok seat) = make seat
seated make (Err kind) = Err kind

-- `write PATH`, whose content the lines behind it tell
abbrev pub write_told : List (List ℕ) → List ℕ → Result Instruction LineKind
write_told (path ∷ []) content = if is_script_path path then Ok (Write path content) else Err BadPath
write_told _ content = Err WordCount

-- `remove PATH`
abbrev pub remove_told : List (List ℕ) → Result Instruction LineKind
remove_told (path ∷ []) = if is_script_path path then Ok (Remove path) else Err BadPath
remove_told _ = Err WordCount

-- a request for a target
abbrev pub request_of : List ℕ → ℕ → Result Instruction LineKind
request_of target seat = if is_script_target target then Ok (Request seat target) else Err BadTarget

-- `request SEAT TARGET`
abbrev pub request_told : List (List ℕ) → Result Instruction LineKind
request_told (seat ∷ target ∷ []) = seated (request_of target) (known_seat seat)
request_told _ = Err WordCount

-- What a verb tells, as `write PATH`, `remove PATH`, `request SEAT TARGET`, `step SEAT` or `finish SEAT`, with the
-- words behind it and the content that follows the line
abbrev pub told_by : Option Verb → List (List ℕ) → List ℕ → Result Instruction LineKind
told_by None operands content = Err UnknownWord
told_by (Some verb.Write) operands content = write_told operands content
told_by (Some verb.Remove) operands content = remove_told operands
told_by (Some verb.Request) operands content = request_told operands
told_by (Some verb.Step) operands content = seated (λ seat. Ok (Step seat)) (only_seat operands)
told_by (Some verb.Finish) operands content = seated (λ seat. Ok (Finish seat)) (only_seat operands)

-- what the words of a line tell, of which the first is the verb
abbrev pub worded : List (List ℕ) → List ℕ → Result Instruction LineKind
worded [] content = Err UnknownWord
worded (word ∷ operands) content = told_by (verb_of word) operands content

-- What a line tells that isn't blank, with the content that the lines behind it tell. A line of content stands behind a
-- `write` alone.
abbrev pub line_told : List ℕ → List ℕ → Result Instruction LineKind
line_told line content = if is_content line then Err StrayContent else worded (words line) content

-- a reader's answer is what is told, unless it is want of memory
abbrev pub Says : {A : Type 0} → Result A LineKind → Result A LineKind → Type 0
Says answer told = MatchResult answer (λ value. told ≡ Ok value) (λ kind. kind ≢ Memory → told ≡ Err kind)

-- the words that a reader found
abbrev pub AreOperands : Operands → List (List ℕ) → Type 0
AreOperands operands.None found = found ≡ []
AreOperands (operands.One first) found = found ≡ first.now ∷ []
AreOperands (operands.Two first second) found = found ≡ first.now ∷ second.now ∷ []
AreOperands operands.More found = (first second third : List ℕ) × ((rest : List (List ℕ))
    × (found ≡ first ∷ second ∷ third ∷ rest))
