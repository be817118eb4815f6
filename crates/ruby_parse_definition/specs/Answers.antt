-- What the functions that read definitions return, with what they note.
use Rattle.std.specs.Prelude.{◌≡◌, false, List, [], ◌∷◌, ◌++◌, Result, Ok, Err}
use Rattle.descent.specs.Grammar.{Prod, only}
use Rattle.descent.specs.Reading.{Outcome, done}
use Rattle.ruby_types.specs.declared.tree.FileTree.{FileTree}
use Rattle.ruby_grammar.specs.Words.{Word}
use Rattle.ruby_grammar.specs.Marks.{Mark}
use Rattle.ruby_grammar.specs.Rules.{ruby, Path, Sort, Val, Rule, file}
use Rattle.ruby_grammar.specs.Definitions.{file_from}
use Rattle.ruby_grammar.specs.Language.{most_levels}
use Rattle.ruby_grammar.specs.Answers.{ReadsFile}
use Rattle.ruby_parse_cursor.specs.declared.fault.Fault.{Fault}
use Rattle.ruby_parse_steps.specs.Gives.{Comes, Stops}
use Rattle.ruby_parse_marks.specs.Views.{Noted, Tells, Adds, Refused, clashes}

-- Behind the marks of what is noted, the production stops so.
abbrev pub StopsAt : {s : Sort} → Prod ruby s → Noted → List Word → Fault → List Word → Type 0
StopsAt {s} p v ws e rest = (ms : List Mark) → Tells v ms → Stops p ms ws e rest

-- What a function returned, with what is noted then and the words that are left, is what the production reads.
abbrev pub GivesMarked : {s : Sort} → Prod ruby s → Noted → List Word → Result (Val s) Fault → Noted → List Word →
    Type 0
GivesMarked {s} p v ws (Ok x) w rest = (ms : List Mark) → Tells v ms →
    (ns : List Mark) × Tells w ns × Comes p ms ws (done x ns rest)
GivesMarked {s} p v ws (Err e) w rest = StopsAt p v ws e rest

-- the same of a rule
abbrev pub GivesMarkedRule : {s : Sort} → Rule s → Noted → List Word → Result (Val s) Fault → Noted → List Word → Type 0
GivesMarkedRule {s} rule v ws r w rest = GivesMarked (only rule) v ws r w rest

-- What was returned is what a whole file reads.
abbrev pub GivesFile : List Word → Result FileTree Fault → List Word → Type 0
GivesFile ws (Ok tree) rest = (ms : List Mark) × ReadsFile ws (done tree ms rest)
GivesFile ws (Err e) rest = Stops (only (file most_levels false)) [] ws e rest

-- What the first production reads is what the second one reads, whatever marks there were; none come between.
abbrev pub LeadsQuietly : {s : Sort} → Prod ruby s → List Mark → List Word → Prod ruby s → List Mark → List Word →
    Type 0
LeadsQuietly {s} p ms ws q ns rest = (o : Outcome ruby s) → Comes q ns rest o → Comes p ms ws o

-- What the first production reads is what the second one reads, behind the marks of what is noted then, from these
-- words on.
abbrev pub Leads : {s : Sort} → Prod ruby s → Noted → List Word → Prod ruby s → Noted → List Word → Type 0
Leads {s} p v ws q w rest = (ms : List Mark) → Tells v ms →
    (ns : List Mark) × Tells w ns × ((o : Outcome ruby s) → Comes q ns rest o → Comes p ms ws o)

-- With what was returned, the production goes on as another one, behind what is noted and from the words that are left.
abbrev pub GoesOn : {s : Sort} {A : Type 0} → Prod ruby s → (A → Prod ruby s) → Noted → List Word →
    Result A Fault → Noted → List Word → Type 0
GoesOn p next v ws (Ok x) w rest = Leads p v ws (next x) w rest
GoesOn p next v ws (Err e) w rest = StopsAt p v ws e rest

-- The mark was added, or not.
abbrev pub Counted : Noted → Mark → Result (Unit {0}) Fault → Noted → Type 0
Counted v m (Ok x) w = (clashes v m ≡ false) × Adds v m w
Counted v m (Err e) w = Refused v m e

-- the module or class with this path in the one around is the innermost one
abbrev pub IsInside : Noted → Path → Noted → Type 0
IsInside v names w = (w.here ≡ v.here ++ names) × (w.around ≡ v.here ∷ v.around)

-- What was returned is what a file reads behind its first Line, or without one.
abbrev pub GivesFileFrom : List Word → Result FileTree Fault → List Word → Type 0
GivesFileFrom ws (Ok tree) rest = (ms : List Mark) × Comes (file_from most_levels false) [] ws (done tree ms rest)
GivesFileFrom ws (Err e) rest = Stops (file_from most_levels false) [] ws e rest
