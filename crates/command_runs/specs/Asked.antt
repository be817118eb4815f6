-- What commands ask of an application's files.
use Rattle.std.specs.Prelude.{◌≡◌, ◌⊎◌, ℕ, ◌<◌, ◌≤◌, List, [], ◌∷◌, length, codes, true, false}
use Rattle.command_words.specs.Words.{IsTarget, IsCommand}
use Rattle.command_words.specs.declared.words.CommandName.TheVariants as name
use Rattle.http_front_request.specs.Request.{longest_target, request_of}
use Rattle.command_runs.specs.declared.answer.Question.{Question}
use Rattle.command_runs.specs.declared.answer.Question.TheVariants.{Reply, Check, Listing}

-- the words are `get TARGET`
abbrev pub IsGet : List (List ℕ) → (target : List ℕ) → Type 0
IsGet words target = (words ≡ codes "get" ∷ target ∷ []) × IsTarget target

-- The words ask this question: `get TARGET` for the reply to the request of a target that isn't too long, `check` for a
-- check of all files, `check eager` for one of the plan, `tree` for the listing.
abbrev pub Asks : List (List ℕ) → Question → Type 0
Asks words (Reply request) = (target : List ℕ) × IsGet words target × (length target ≤ longest_target)
    × (request ≡ request_of target)
Asks words (Check false) = words ≡ codes "check" ∷ []
Asks words (Check true) = words ≡ codes "check" ∷ codes "eager" ∷ []
Asks words Listing = words ≡ codes "tree" ∷ []

-- the words ask something of the files
abbrev pub IsAsked : List (List ℕ) → Type 0
IsAsked words = (question : Question) × Asks words question

-- the words are `get TARGET`, and the target is too long
abbrev pub IsTooLong : List (List ℕ) → Type 0
IsTooLong words = (target : List ℕ) × IsGet words target × (longest_target < length target)

-- the words are a command that is not built yet: `replay`, `demo` or `serve`
abbrev pub IsLater : List (List ℕ) → Type 0
IsLater words = IsCommand name.Replay words ⊎ (IsCommand name.Demo words ⊎ IsCommand name.Serve words)
