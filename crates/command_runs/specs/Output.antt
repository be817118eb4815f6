-- What a command writes, and how it ends.
use Rattle.std.specs.Prelude.{◌≡◌, ◌⊎◌, ℕ, ◌<◌, List, [], ◌∷◌, ◌++◌, length, take, codes, Option}
use Rattle.std.specs.Prelude.{Some, false, IfSome, Result, Ok, Err, ⊤}
use Rattle.outside.specs.Told.{appended}
use Rattle.outside.specs.declared.files.FileEntry.{FileEntry}
use Rattle.command_words.specs.Words.{IsCommandLine}
use Rattle.http_front_response.specs.Notices.{notice_reply}
use Rattle.http_front_response.specs.Response.{response_bytes}
use Rattle.http_front_response.specs.declared.notice.Notice.TheVariants as notice
use Rattle.tree_command.specs.Tree.{IsRefused}
use Rattle.tree_report.specs.declared.refusal.Refusal.{Refusal}
use Rattle.command_runs.specs.Asked.{Asks, IsTooLong, IsLater}
use Rattle.command_runs.specs.declared.answer.Answer.{Answer}
use Rattle.command_runs.specs.declared.answer.Question.{Question}
use Rattle.command_runs.specs.declared.answer.Wanted.{Wanted}
use Rattle.command_runs.specs.declared.answer.Wanted.TheVariants as wanted
use Rattle.command_runs.specs.declared.outcome.Outcome.{Outcome}
use Rattle.command_runs.specs.declared.outcome.Outcome.TheVariants.{Done, Negative, FaultyWords, FilesUnread}
use Rattle.command_runs.specs.declared.outcome.Outcome.TheVariants.{WriteFault, Memory, Refused, NotBuilt}

-- the exit status
abbrev pub code_of : Outcome → ℕ
code_of Done = 0
code_of Negative = 1
code_of FaultyWords = 2
code_of FilesUnread = 3
code_of WriteFault = 4
code_of Memory = 5
code_of Refused = 6
code_of NotBuilt = 11

-- a fault of the tree, of the sink or of memory
abbrev pub IsFault : (code : ℕ) → Type 0
IsFault code = (code ≡ 3) ⊎ ((code ≡ 4) ⊎ (code ≡ 5))

-- the application is refused: it is beyond a limit, or its configuration or its names have a fault
abbrev pub AreRefused : List FileEntry → Type 0
AreRefused files = (refusal : Refusal) × IsRefused files refusal

-- How an answer on files ends: refused where they are, and else done or negative.
abbrev pub EndsOn : List FileEntry → Outcome → Type 0
EndsOn files Refused = AreRefused files
EndsOn files Done = ¬ (AreRefused files)
EndsOn files Negative = ¬ (AreRefused files)
EndsOn files outcome = ⊥

-- what is written where a command is not built yet
abbrev pub not_built_line : List ℕ
not_built_line = codes "not built yet" ++ 10 ∷ []

-- the response to a request whose target is too long (RFC 9110, section 15.5.15), on the generation without files
abbrev pub too_long_bytes : List ℕ
too_long_bytes = response_bytes (notice_reply notice.Target) (Some 0) false false

-- The output that the words have on any files, and how it ends.
pub data KnownOutput (words : List (List ℕ)) : List ℕ → Outcome → Type 0 where
  too_long : IsTooLong words → KnownOutput words too_long_bytes Negative
  not_built : IsLater words → KnownOutput words not_built_line NotBuilt

-- The output of a command line on an application's files, and how it ends. `Is` says it of a question on the files.
pub data Output (Is : Question → List FileEntry → List ℕ → Outcome → Type 0) (words : List (List ℕ))
    (files : List FileEntry) : List ℕ → Outcome → Type 0 where
  faulty_words : ¬ (IsCommandLine words) → Output Is words files [] FaultyWords
  known : (output : List ℕ) (own : Outcome) → KnownOutput words output own → Output Is words files output own
  answers : (question : Question) (output : List ℕ) (own : Outcome) → Asks words question →
      Is question files output own → Output Is words files output own

-- what is wanted of a command line: its question, or its answer where no file decides it
abbrev pub IsWanted : List (List ℕ) → Wanted → Type 0
IsWanted words (wanted.OnFiles question) = Asks words question
IsWanted words (wanted.Known answer) = KnownOutput words answer.bytes answer.outcome

-- an end that an answer reaches by itself
abbrev pub IsReached : Outcome → Type 0
IsReached Done = ⊤
IsReached Negative = ⊤
IsReached Refused = ⊤
IsReached NotBuilt = ⊤
IsReached outcome = ⊥

-- an end that is met once the files are read
abbrev pub IsAfterReading : Outcome → Type 0
IsAfterReading FaultyWords = ⊥
IsAfterReading FilesUnread = ⊥
IsAfterReading outcome = ⊤

-- The output was written and the outcome is its own. Where a write failed, a proper beginning of it was written. After
-- want of memory nothing was.
abbrev pub Writes : (output : List ℕ) (own : Outcome) → Outcome → (before now : Option (List ℕ)) → Type 0
Writes output own Memory before now = now ≡ before
Writes output own WriteFault before now = (n : ℕ) × (n < length output) × (now ≡ appended before (take n output))
Writes output own outcome before now = (outcome ≡ own) × (now ≡ appended before output)

-- The answer was written, or there was no memory for one and nothing was.
abbrev pub WritesAnswer : {E : Type 0} → Result Answer E → Outcome → (before now : Option (List ℕ)) → Type 0
WritesAnswer (Ok answer) outcome before now = Writes answer.bytes answer.outcome outcome before now
WritesAnswer (Err error) outcome before now = (outcome ≡ Memory) × (now ≡ before)

-- an output of which this holds was written so
abbrev pub WritesOne : (List ℕ → Outcome → Type 0) → Outcome → (before now : Option (List ℕ)) → Type 0
WritesOne Is Memory before now = now ≡ before
WritesOne Is outcome before now = (output : List ℕ) × (own : Outcome) × Is output own
    × Writes output own outcome before now

-- What was written where the files were asked for: nothing where they could not be read, else their output.
abbrev pub WritesOn : (Option (List FileEntry)) → (List FileEntry → List ℕ → Outcome → Type 0) → Outcome →
    (before now : Option (List ℕ)) → Type 0
WritesOn held Is FilesUnread before now = now ≡ before
WritesOn held Is Memory before now = now ≡ before
WritesOn held Is outcome before now = IfSome held (λ files. WritesOne (Is files) outcome before now)
