-- What a command writes, and how it ends.
use Rattle.std.specs.Prelude.{◌≡◌, ◌≢◌, ◌⊎◌, ℕ, ◌<◌, ◌==◌, List, [], ◌∷◌, ◌++◌, length, take, codes, All, Any, Option}
use Rattle.std.specs.Prelude.{Some, false, IfSome, if◌then◌else◌}
use Rattle.outside.specs.Told.{appended}
use Rattle.outside.specs.declared.files.FileEntry.{FileEntry}
use Rattle.ruby_types.specs.declared.request.Reply.{Reply}
use Rattle.load_rules.specs.FirstReply.{IsReadable, FirstReply}
use Rattle.command_words.specs.Words.{IsCommandLine, IsTarget}
use Rattle.http_front_response.specs.Response.{response_bytes}
use Rattle.top_calls.specs.Target.{IsFirstTarget}
use Rattle.tree_report.specs.Limits.{IsWithinLimits}
use Rattle.tree_report.specs.Refusals.{refusal_text}
use Rattle.tree_report.specs.declared.refusal.Refusal.{Refusal}
use Rattle.tree_command.specs.Tree.{IsTreeListing, IsRefused}
use Rattle.top_calls.specs.declared.outcome.Outcome.{Outcome}
use Rattle.top_calls.specs.declared.outcome.Outcome.TheVariants.{Done, Negative, FaultyWords, FilesUnread, WriteFault}
use Rattle.top_calls.specs.declared.outcome.Outcome.TheVariants.{Memory, Refused, NotBuilt}
use Rattle.top_calls.specs.declared.outcome.Unbuilt.TheVariants as unbuilt

-- the exit status
abbrev pub code_of : Outcome → ℕ
code_of Done = 0
code_of Negative = 1
code_of FaultyWords = 2
code_of FilesUnread = 3
code_of WriteFault = 4
code_of Memory = 5
code_of Refused = 6
code_of (NotBuilt what) = 11

-- the words are `get TARGET`, and the target is `/CONTROLLER/ACTION`
abbrev pub IsFirstGet : List (List ℕ) → (controller action : List ℕ) → Type 0
IsFirstGet words controller action = (target : List ℕ) × (words ≡ codes "get" ∷ target ∷ []) × IsTarget target
    × IsFirstTarget target controller action

-- the words are `get TARGET` with any word as the target
abbrev pub IsGet : List (List ℕ) → Type 0
IsGet words = (target : List ℕ) × (words ≡ codes "get" ∷ target ∷ [])

-- the command `tree`
abbrev pub tree_words : List (List ℕ)
tree_words = codes "tree" ∷ []

-- the words are another command, or they are `get` with another target
abbrev pub IsOtherCommand : List (List ℕ) → Type 0
IsOtherCommand words = IsCommandLine words × ((controller action : List ℕ) → ¬ (IsFirstGet words controller action))
    × (words ≢ tree_words)

-- the application is too large, or some file is not readable
abbrev pub IsOtherApplication : List FileEntry → Type 0
IsOtherApplication files = ¬ (IsWithinLimits files) ⊎ Any (λ file. ¬ (IsReadable file)) files

-- what was asked for on these files is not built yet
abbrev pub IsNotBuilt : List (List ℕ) → List FileEntry → Type 0
IsNotBuilt words files = IsOtherCommand words
    ⊎ ((controller action : List ℕ) × IsFirstGet words controller action × IsOtherApplication files)

-- the words are `tree`, and the application is refused
abbrev pub IsTreeRefused : List (List ℕ) → List FileEntry → Type 0
IsTreeRefused words files = (words ≡ tree_words) × ((refusal : Refusal) × IsRefused files refusal)

-- a fault of the tree, of the sink or of memory
abbrev pub IsFault : (code : ℕ) → Type 0
IsFault code = (code ≡ 3) ⊎ ((code ≡ 4) ⊎ (code ≡ 5))

-- what is written where something is not built yet
abbrev pub not_built_line : List ℕ
not_built_line = codes "not built yet" ++ 10 ∷ []

-- generation 0 has no files; the first reload makes generation 1
abbrev pub generation_of : List FileEntry → ℕ
generation_of [] = 0
generation_of (file ∷ files) = 1

-- how a request with this reply ends
abbrev pub outcome_of : Reply → Outcome
outcome_of reply = if reply.status == 200 then Done else Negative

-- The output of `get /CONTROLLER/ACTION` on an application's files, and how it ends.
pub data GetAnswer (files : List FileEntry) (controller action : List ℕ) : List ℕ → Outcome → Type 0 where
  too_large : ¬ (IsWithinLimits files) → GetAnswer files controller action not_built_line (NotBuilt unbuilt.Size)
  other_file : (path : List ℕ) → Any (λ file. (file.path ≡ path) × ¬ (IsReadable file)) files
      → GetAnswer files controller action not_built_line (NotBuilt (unbuilt.File path))
  replies : (reply : Reply) → IsWithinLimits files → All IsReadable files → FirstReply files controller action reply
      → GetAnswer files controller action (response_bytes reply (Some (generation_of files)) false false)
      (outcome_of reply)

-- The output of `tree` on an application's files, and how it ends: its constants and their files, or one line that
-- says why the application is refused.
pub data TreeAnswer (files : List FileEntry) : List ℕ → Outcome → Type 0 where
  lists : (bytes : List ℕ) → IsTreeListing files bytes → TreeAnswer files bytes Done
  refuses : (refusal : Refusal) → IsRefused files refusal → TreeAnswer files (refusal_text refusal ++ 10 ∷ []) Refused

-- The output of a command line on an application's files, and how it ends.
pub data Output (words : List (List ℕ)) (files : List FileEntry) : List ℕ → Outcome → Type 0 where
  faulty_words : ¬ (IsCommandLine words) → Output words files [] FaultyWords
  other_command : IsOtherCommand words → ¬ (IsGet words) → Output words files not_built_line (NotBuilt unbuilt.Command)
  other_target : IsOtherCommand words → IsGet words → Output words files not_built_line (NotBuilt unbuilt.Target)
  answers : (controller action output : List ℕ) (own : Outcome) → IsFirstGet words controller action →
      GetAnswer files controller action output own
      → Output words files output own
  tells : (output : List ℕ) (own : Outcome) → words ≡ tree_words → TreeAnswer files output own →
      Output words files output own

-- The output was written and the outcome is its own. Where a write failed, a proper beginning of it was written. After
-- want of memory nothing was.
abbrev pub Writes : (output : List ℕ) (own : Outcome) → Outcome → (before now : Option (List ℕ)) → Type 0
Writes output own Memory before now = now ≡ before
Writes output own WriteFault before now = (n : ℕ) × (n < length output) × (now ≡ appended before (take n output))
Writes output own outcome before now = (outcome ≡ own) × (now ≡ appended before output)

-- an output of which this holds was written so
abbrev pub WritesOne : (List ℕ → Outcome → Type 0) → Outcome → (before now : Option (List ℕ)) → Type 0
WritesOne Is Memory before now = now ≡ before
WritesOne Is outcome before now = (output : List ℕ) × (own : Outcome) × Is output own
    × Writes output own outcome before now

-- What was written where the files were asked for: nothing where they could not be read, else their output.
abbrev pub WritesOn : (Option (List FileEntry)) → (List FileEntry → List ℕ → Outcome → Type 0) → Outcome →
    (before now : Option (List ℕ)) → Type 0
WritesOn held Is FilesUnread before now = now ≡ before
WritesOn held Is Memory before now = now ≡ before
WritesOn held Is outcome before now = IfSome held (λ files. WritesOne (Is files) outcome before now)
