-- The commands that command lines spell, and what reading a command line finds.
use Rattle.std.specs.Prelude.{◌≡◌, ◌≢◌, ℕ, List, [], ◌∷◌, Option, Some, None, codes}
use Rattle.word_forms.specs.Numbers.{number_of}
use Rattle.command_words.specs.Words.{name_text, Fits, IsTarget, AreConnections, IsCommandLine}
use Rattle.command_words.specs.declared.words.Command.{Command}
use Rattle.command_words.specs.declared.words.Command.TheVariants.{Get, Check, CheckEager, Tree, Replay, Demo, Serve}
use Rattle.command_words.specs.declared.words.CommandName.{CommandName}

-- no word, or the number
abbrev pub SpellsConnections : Option ℕ → List (List ℕ) → Type 0
SpellsConnections None words = words ≡ []
SpellsConnections (Some n) words = (word : List ℕ) × (words ≡ word ∷ []) × (number_of 1000000 word ≡ Some n)

-- the words of a command: `demo` and `12` are those of Demo 12
abbrev pub Spells : Command → List (List ℕ) → Type 0
Spells (Get target) words = (words ≡ codes "get" ∷ target.now ∷ []) × IsTarget target.now
Spells Check words = words ≡ codes "check" ∷ []
Spells CheckEager words = words ≡ codes "check" ∷ codes "eager" ∷ []
Spells Tree words = words ≡ codes "tree" ∷ []
Spells Replay words = words ≡ codes "replay" ∷ []
Spells (Demo n) words = (word : List ℕ) × (words ≡ codes "demo" ∷ word ∷ []) × (number_of 1000 word ≡ Some n)
Spells (Serve address workers connections) words = (word : List ℕ) × (rest : List (List ℕ))
    × (words ≡ codes "serve" ∷ address.now ∷ word ∷ rest) × (address.now ≢ [])
    × (number_of 16 word ≡ Some workers) × SpellsConnections connections rest

-- the command that the words spell, or nothing where they are no command line
abbrev pub Finds : Option Command → List (List ℕ) → Type 0
Finds (Some command) words = Spells command words
Finds None words = ¬ (IsCommandLine words)

-- the command of this name with these arguments, or nothing where they don't fit it
abbrev pub FindsArguments : CommandName → Option Command → List (List ℕ) → Type 0
FindsArguments name (Some command) arguments = Spells command (name_text name ∷ arguments)
FindsArguments name None arguments = ¬ (Fits name arguments)

-- the connections that the words give, or nothing where they give none
abbrev pub FindsConnections : Option (Option ℕ) → List (List ℕ) → Type 0
FindsConnections (Some connections) words = SpellsConnections connections words
FindsConnections None words = ¬ (AreConnections words)
