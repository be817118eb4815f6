-- What a line of a configuration says.
use Rattle.std.specs.Prelude.{◌≡◌, ◌≢◌, ℕ, ◌∷◌, List, [], Bool, true, ◌==◌, if◌then◌else◌, codes, bytes_eq, Option}
use Rattle.std.specs.Prelude.{Some, None, Result, Ok, Err, MatchResult}
use Rattle.std.specs.Str.{is_utf8}
use Rattle.app_config.specs.Text.{words, behind_spaces, behind_word}
use Rattle.app_config.specs.Paths.{is_constant, is_constant_path, constant_names, is_tree_path}
use Rattle.app_config.specs.declared.entries.Directive.{Directive}
use Rattle.app_config.specs.declared.entries.Directive.TheVariants as directive
use Rattle.app_config.specs.declared.entries.Entry.{Entry}
use Rattle.app_config.specs.declared.entries.Entry.TheVariants.{Root, Collapse, Ignore, SkipEager, Inflect, OnLoad}
use Rattle.app_config.specs.declared.operands.Operands.{Operands}
use Rattle.app_config.specs.declared.operands.Operands.TheVariants as operands
use Rattle.app_config.specs.declared.config.ConfigKind.{ConfigKind}
use Rattle.app_config.specs.declared.config.ConfigKind.TheVariants.{UnknownWord, WordCount, BadPath, BadName, NotUtf8}
use Rattle.app_config.specs.declared.config.ConfigKind.TheVariants.{Memory}

-- a value made of what was read, or the same fault
abbrev pub mapped : {A B : Type 0} → (A → B) → Result A ConfigKind → Result B ConfigKind
mapped make (Ok read) = Ok (make read)
mapped make (Err kind) = Err kind

-- the first word of a line
abbrev pub directive_of : List ℕ → Option Directive
directive_of word =
    if bytes_eq word (codes "root") then Some directive.Root
    else (if bytes_eq word (codes "collapse") then Some directive.Collapse
    else (if bytes_eq word (codes "ignore") then Some directive.Ignore
    else (if bytes_eq word (codes "skip_eager") then Some directive.SkipEager
    else (if bytes_eq word (codes "inflect") then Some directive.Inflect
    else (if bytes_eq word (codes "on_load") then Some directive.OnLoad else None)))))

-- the names of a word that is a constant path; any other word is a bad name
abbrev pub constant_path : List ℕ → Result (List (List ℕ)) ConfigKind
constant_path word = if is_constant_path word then Ok (constant_names word) else Err BadName

-- a root at a path; a bad path goes before a bad name
abbrev pub root_at : List ℕ → Result (List (List ℕ)) ConfigKind → Result Entry ConfigKind
root_at path namespace =
    if is_tree_path path then mapped (λ names. Root (record { path = path; namespace = names })) namespace else Err
    BadPath

-- `root PATH` or `root PATH CPATH`; without CPATH the namespace is Object, which has no names
abbrev pub root_entry : List (List ℕ) → Result Entry ConfigKind
root_entry (path ∷ []) = root_at path (Ok [])
root_entry (path ∷ namespace ∷ []) = root_at path (constant_path namespace)
root_entry _ = Err WordCount

-- `collapse PATTERN`, `ignore PATTERN` or `skip_eager PATTERN`
abbrev pub pattern : List (List ℕ) → Result (List ℕ) ConfigKind
pattern (path ∷ []) = if is_tree_path path then Ok path else Err BadPath
pattern _ = Err WordCount

-- `inflect BASE CONST`
abbrev pub inflect_entry : List (List ℕ) → Result Entry ConfigKind
inflect_entry (base ∷ constant ∷ []) = if is_constant constant then Ok (Inflect (base, constant)) else Err BadName
inflect_entry _ = Err WordCount

-- `on_load CPATH TEXT`: the text is all of the line behind the spaces that follow CPATH
abbrev pub on_load_entry : List (List ℕ) → List ℕ → Result Entry ConfigKind
on_load_entry (constant ∷ _ ∷ _) text = mapped (λ names. OnLoad (record { constant = names; text = text }))
    (constant_path constant)
on_load_entry _ text = Err WordCount

-- what a directive says of the words behind it, and of the text behind the first of these
abbrev pub directed : Option Directive → List (List ℕ) → List ℕ → Result Entry ConfigKind
directed None operands text = Err UnknownWord
directed (Some directive.Root) operands text = root_entry operands
directed (Some directive.Collapse) operands text = mapped Collapse (pattern operands)
directed (Some directive.Ignore) operands text = mapped Ignore (pattern operands)
directed (Some directive.SkipEager) operands text = mapped SkipEager (pattern operands)
directed (Some directive.Inflect) operands text = inflect_entry operands
directed (Some directive.OnLoad) operands text = on_load_entry operands text

-- what the words of a line say, of which the first is the directive, with the text behind the second
abbrev pub worded : List (List ℕ) → List ℕ → Result Entry ConfigKind
worded [] text = Err UnknownWord
worded (word ∷ operands) text = directed (directive_of word) operands text

-- a line that counts for something: that it is UTF-8 is judged first
abbrev pub entry : List ℕ → Result Entry ConfigKind
entry line = if is_utf8 line then worded (words line) (behind_spaces (behind_word (behind_word line))) else Err NotUtf8

-- an empty line, or one that begins with `#` (35)
abbrev pub is_blank : List ℕ → Bool
is_blank [] = true
is_blank (first ∷ _) = first == 35

-- what a line says: nothing, an entry, or the first of its faults in the order NotUtf8, UnknownWord, WordCount,
-- BadPath, BadName
abbrev pub meaning : List ℕ → Result (Option Entry) ConfigKind
meaning line = if is_blank line then Ok None else mapped Some (entry line)

-- a reader's answer is what is said, unless it is want of memory
abbrev pub Says : {A : Type 0} → Result A ConfigKind → Result A ConfigKind → Type 0
Says answer said = MatchResult answer (λ value. said ≡ Ok value) (λ kind. kind ≢ Memory → said ≡ Err kind)

-- the words that a reader found behind the first
abbrev pub AreOperands : Operands → List (List ℕ) → Type 0
AreOperands operands.None found = found ≡ []
AreOperands (operands.One first) found = found ≡ first.now ∷ []
AreOperands (operands.Two first second) found = found ≡ first.now ∷ second.now ∷ []
AreOperands operands.More found = (first second third : List ℕ) × (rest : List (List ℕ))
    × (found ≡ first ∷ second ∷ third ∷ rest)
