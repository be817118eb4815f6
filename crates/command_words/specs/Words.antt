-- Which command lines there are, without the program's name.
use Rattle.std.specs.Prelude.{◌≡◌, ◌≢◌, ℕ, List, [], ◌∷◌, Option, Some, None, codes, if◌then◌else◌, IsTrue, ⊤}
use Rattle.std.specs.Str.{bytes_eq}
use Rattle.word_forms.specs.Numbers.{number_of}
use Rattle.word_forms.specs.Targets.{is_target}
use Rattle.command_words.specs.declared.words.CommandName.{CommandName}
use Rattle.command_words.specs.declared.words.CommandName.TheVariants.{Get, Check, Tree, Replay, Demo, Serve}

-- a request's target
abbrev pub IsTarget : List ℕ → Type 0
IsTarget word = IsTrue (is_target word)

-- a number from 1 to `most`
abbrev pub IsNumber : (most : ℕ) → List ℕ → Type 0
IsNumber most word = (n : ℕ) × (number_of most word ≡ Some n)

-- an address is any word but the empty one
abbrev pub IsAddress : List ℕ → Type 0
IsAddress word = word ≢ []

-- the first word of a command
abbrev pub name_text : CommandName → List ℕ
name_text Get = codes "get"
name_text Check = codes "check"
name_text Tree = codes "tree"
name_text Replay = codes "replay"
name_text Demo = codes "demo"
name_text Serve = codes "serve"

-- the command of this name
abbrev pub name_of : List ℕ → Option CommandName
name_of word =
    if bytes_eq word (codes "get") then Some Get else (
    if bytes_eq word (codes "check") then Some Check else (
    if bytes_eq word (codes "tree") then Some Tree else (
    if bytes_eq word (codes "replay") then Some Replay else (
    if bytes_eq word (codes "demo") then Some Demo else (
    if bytes_eq word (codes "serve") then Some Serve else None)))))

-- the number of connections may be left out, and is at most 1,000,000
abbrev pub AreConnections : List (List ℕ) → Type 0
AreConnections [] = ⊤
AreConnections (number ∷ []) = IsNumber 1000000 number
AreConnections (number ∷ more ∷ others) = ⊥

-- `get TARGET`
abbrev pub FitsGet : List (List ℕ) → Type 0
FitsGet [] = ⊥
FitsGet (target ∷ []) = IsTarget target
FitsGet (target ∷ more ∷ others) = ⊥

-- `check` and `check eager`
abbrev pub FitsCheck : List (List ℕ) → Type 0
FitsCheck [] = ⊤
FitsCheck (word ∷ []) = word ≡ codes "eager"
FitsCheck (word ∷ more ∷ others) = ⊥

-- `demo N`, N being at most 1,000
abbrev pub FitsDemo : List (List ℕ) → Type 0
FitsDemo [] = ⊥
FitsDemo (number ∷ []) = IsNumber 1000 number
FitsDemo (number ∷ more ∷ others) = ⊥

-- `serve ADDRESS WORKERS` and `serve ADDRESS WORKERS CONNECTIONS`, with at most 16 workers and 1,000,000 connections
abbrev pub FitsServe : List (List ℕ) → Type 0
FitsServe [] = ⊥
FitsServe (address ∷ []) = ⊥
FitsServe (address ∷ workers ∷ connections) = IsAddress address × IsNumber 16 workers × AreConnections connections

-- Which arguments each command has. `tree` and `replay` have none.
abbrev pub Fits : CommandName → List (List ℕ) → Type 0
Fits Get arguments = FitsGet arguments
Fits Check arguments = FitsCheck arguments
Fits Tree arguments = arguments ≡ []
Fits Replay arguments = arguments ≡ []
Fits Demo arguments = FitsDemo arguments
Fits Serve arguments = FitsServe arguments

-- the words are those of this command
abbrev pub IsCommand : CommandName → List (List ℕ) → Type 0
IsCommand name [] = ⊥
IsCommand name (first ∷ arguments) = (first ≡ name_text name) × Fits name arguments

-- the words are those of some command
abbrev pub IsCommandLine : List (List ℕ) → Type 0
IsCommandLine words = (name : CommandName) × IsCommand name words
