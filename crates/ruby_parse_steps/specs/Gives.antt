-- What the functions of the parser answer.
use Rattle.std.specs.Prelude.{◌≡◌, ℕ, Bool, true, List, Option, Some, None, Result, Ok, Err}
use Rattle.descent.specs.Grammar.{Prod, give, mark, only}
use Rattle.descent.specs.Reading.{Outcome, done, fault, Unexpected, Deep, Barred, Twice, Reads}
use Rattle.ruby_types.specs.declared.tree.ConstRef.{ConstRef}
use Rattle.ruby_grammar.specs.Words.{Word}
use Rattle.ruby_grammar.specs.Marks.{Mark}
use Rattle.ruby_grammar.specs.Rules.{ruby, Sort, Val, Rule, constant, path_rest, a_constant, some_names}
use Rattle.ruby_grammar.specs.Expressions.{path_end, constant_from}
use Rattle.ruby_grammar.specs.Language.{ruby_grammar}
use Rattle.ruby_grammar.specs.Choices.{ruby_choices}
use Rattle.ruby_parse_cursor.specs.declared.fault.Fault.{Fault}
use Rattle.ruby_parse_cursor.specs.declared.fault.Fault.TheVariants as f

-- a production reads these words so
abbrev pub Comes : {s : Sort} → Prod ruby s → List Mark → List Word → Outcome ruby s → Type 0
Comes {s} p ms ws o = Reads ruby_grammar ruby_choices s p ms ws o

-- it stops so, with these words left
abbrev pub Stops : {s : Sort} → Prod ruby s → List Mark → List Word → Fault → List Word → Type 0
Stops {s} p ms ws f.Unexpected rest = Comes p ms ws (fault Unexpected rest)
Stops {s} p ms ws f.Deep rest = Comes p ms ws (fault Deep rest)
Stops {s} p ms ws f.Barred rest = Comes p ms ws (fault Barred rest)
Stops {s} p ms ws (f.Twice at) rest = (m : Mark) × Comes p ms ws (fault (Twice m) rest) × (at ≡ m.at)
Stops {s} p ms ws f.Memory rest = Unit {0}

-- What a function returned, with the words that are then left, is what the production reads, whatever marks there
-- were; it adds none.
abbrev pub Gives : {s : Sort} → Prod ruby s → List Word → Result (Val s) Fault → List Word → Type 0
Gives {s} p ws (Ok x) rest = (ms : List Mark) → Comes p ms ws (done x ms rest)
Gives {s} p ws (Err e) rest = (ms : List Mark) → Stops p ms ws e rest

-- the same of a rule
abbrev pub GivesRule : {s : Sort} → Rule s → List Word → Result (Val s) Fault → List Word → Type 0
GivesRule {s} rule ws r rest = Gives (only rule) ws r rest

-- a constant, and behind it the mark, if there is one
abbrev pub with_ending : Option Mark → ConstRef → Prod ruby a_constant
with_ending None c = give c
with_ending (Some m) c = mark m (give c)

-- The same of a constant, whatever mark ends it.
abbrev pub GivesConstant : List Word → Result ConstRef Fault → List Word → Type 0
GivesConstant ws (Ok c) rest = (ending : Option Mark) (ms : List Mark) (o : Outcome ruby a_constant) →
    Comes (with_ending ending c) ms rest o → Comes (only (constant ending)) ms ws o
GivesConstant ws (Err e) rest = (ending : Option Mark) (ms : List Mark) → Stops (only (constant ending)) ms ws e rest

-- The same of the names behind the first ones of a path.
abbrev pub GivesPathRest : List (List ℕ) → List Word → Result (List (List ℕ)) Fault → List Word → Type 0
GivesPathRest first ws (Ok path) rest = (ending : Option Mark) (ms : List Mark) (o : Outcome ruby some_names) →
    Comes (path_end ending path) ms rest o → Comes (only (path_rest true ending first)) ms ws o
GivesPathRest first ws (Err e) rest = (ending : Option Mark) (ms : List Mark) →
    Stops (only (path_rest true ending first)) ms ws e rest

-- The same of a constant behind its `::`, or without one.
abbrev pub GivesConstantFrom : Bool → List Word → Result ConstRef Fault → List Word → Type 0
GivesConstantFrom top ws (Ok c) rest = (ending : Option Mark) (ms : List Mark) (o : Outcome ruby a_constant) →
    Comes (with_ending ending c) ms rest o → Comes (constant_from top ending) ms ws o
GivesConstantFrom top ws (Err e) rest = (ending : Option Mark) (ms : List Mark) →
    Stops (constant_from top ending) ms ws e rest

-- With what was returned for the value so far, what follows it goes on from the words that are left.
abbrev pub GivesMore : {s : Sort} {A : Type 0} → (A → Rule s) → A → List Word → Result A Fault → List Word → Type 0
GivesMore {s} more x ws (Ok y) rest = (r : Result (Val s) Fault) (end : List Word) → GivesRule (more y) rest r end →
    GivesRule (more x) ws r end
GivesMore {s} more x ws (Err e) rest = GivesRule (more x) ws (Err e) rest
