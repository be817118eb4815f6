-- What a command asks of an application's files, and what it answers on them.
use Rattle.std.specs.Prelude.{◌≡◌, ℕ, List, Option, Result, Ok, Err, ⊤}
use Rattle.outside.specs.declared.files.FileEntry.{FileEntry}
use Rattle.top_calls.specs.Output.{GetAnswer, TreeAnswer, IsFirstGet, IsOtherCommand, IsGet, tree_words, Writes}
use Rattle.top_calls.specs.declared.answer.Answer.{Answer}
use Rattle.top_calls.specs.declared.answer.Question.{Question}
use Rattle.top_calls.specs.declared.answer.Question.TheVariants.{Reply, Listing}
use Rattle.top_calls.specs.declared.outcome.Outcome.{Outcome}
use Rattle.top_calls.specs.declared.outcome.Outcome.TheVariants.{Done, Negative, FaultyWords, FilesUnread}
use Rattle.top_calls.specs.declared.outcome.Outcome.TheVariants.{Memory, Refused, NotBuilt}
use Rattle.top_calls.specs.declared.outcome.Unbuilt.{Unbuilt}
use Rattle.top_calls.specs.declared.outcome.Unbuilt.TheVariants as unbuilt

-- The words ask this question: `get /hello/index` asks for the reply of the action `index` of `hello`, `tree` for the
-- listing. Or they are a command line that is not built yet, by its command or by its target.
abbrev pub Asks : List (List ℕ) → Result Question Unbuilt → Type 0
Asks words (Ok (Reply target)) = IsFirstGet words target.controller.now target.action.now
Asks words (Ok Listing) = words ≡ tree_words
Asks words (Err unbuilt.Command) = IsOtherCommand words × ¬ (IsGet words)
Asks words (Err unbuilt.Target) = IsOtherCommand words × IsGet words
Asks words (Err what) = ⊥

-- the output of the question's answer and how it ends
abbrev pub QuestionOutput : Question → List FileEntry → List ℕ → Outcome → Type 0
QuestionOutput (Reply target) files output own = GetAnswer files target.controller.now target.action.now output own
QuestionOutput Listing files output own = TreeAnswer files output own

-- the answer to the question on these files
abbrev pub IsAnswer : Question → List FileEntry → Answer → Type 0
IsAnswer question files answer = QuestionOutput question files answer.bytes answer.outcome

-- an end that an answer reaches by itself
abbrev pub IsReached : Outcome → Type 0
IsReached Done = ⊤
IsReached Negative = ⊤
IsReached Refused = ⊤
IsReached (NotBuilt what) = ⊤
IsReached outcome = ⊥

-- an end that is met once the files are read
abbrev pub IsAfterReading : Outcome → Type 0
IsAfterReading FaultyWords = ⊥
IsAfterReading FilesUnread = ⊥
IsAfterReading outcome = ⊤

-- The answer was written, or there was no memory for one and nothing was.
abbrev pub WritesAnswer : {E : Type 0} → Result Answer E → Outcome → (before now : Option (List ℕ)) → Type 0
WritesAnswer (Ok answer) outcome before now = Writes answer.bytes answer.outcome outcome before now
WritesAnswer (Err error) outcome before now = (outcome ≡ Memory) × (now ≡ before)
