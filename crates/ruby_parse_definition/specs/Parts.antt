-- Parts of definitions, each with what follows it.
use Rattle.std.specs.Prelude.{◌≡◌, ℕ, Bool, false, List, [], ◌++◌, Option, Some, Result, Ok, Err}
use Rattle.descent.specs.Grammar.{Prod, give, token, call, mark, only}
use Rattle.descent.specs.Reading.{Outcome}
use Rattle.ruby_types.specs.declared.tree.ConstRef.{ConstRef}
use Rattle.ruby_types.specs.declared.tree.Def.{Def}
use Rattle.ruby_types.specs.declared.tree.Def.TheVariants as def
use Rattle.ruby_types.specs.declared.tree.Stmt.{Stmt}
use Rattle.ruby_grammar.specs.Words.{Word}
use Rattle.ruby_grammar.specs.Terminals.{is_end, is_const, is_sym}
use Rattle.ruby_grammar.specs.Marks.{Mark, Act}
use Rattle.ruby_grammar.specs.Rules.{ruby, Name, Path, Body, PathOpening, Around, Heading, Sort, a_def, some_names}
use Rattle.ruby_grammar.specs.Rules.{opened_path, definitions, statements}
use Rattle.ruby_grammar.specs.Values.{behind_sign}
use Rattle.ruby_grammar.specs.Statements.{around}
use Rattle.ruby_grammar.specs.Definitions.{body, counts, at_top, reader, may_set, some_parent, module_from, class_from}
use Rattle.ruby_grammar.specs.Definitions.{method_from, opened_from, opened_path_end}
use Rattle.ruby_parse_cursor.specs.declared.fault.Fault.{Fault}
use Rattle.ruby_parse_steps.specs.Gives.{Comes, Stops}
use Rattle.ruby_parse_marks.specs.Views.{Noted}
use Rattle.ruby_parse_definition.specs.declared.paths.Written.{Written}
use Rattle.ruby_parse_definition.specs.declared.headings.Heading.{Heading as Held}
use Rattle.ruby_parse_definition.specs.declared.methods.Signature.{Signature}
use Rattle.ruby_parse_definition.specs.Answers.{GoesOn, GivesMarked}

-- The names behind the first ones of a path that is opened, whatever opens it.
abbrev pub GivesOpenedRest : Bool → Path → List Word → Result Path Fault → List Word → Type 0
GivesOpenedRest may_go_on first ws (Ok path) rest = (how : PathOpening) (ms : List Mark) (o : Outcome ruby some_names) →
    Comes (opened_path_end how path) ms rest o → Comes (only (opened_path may_go_on how first)) ms ws o
GivesOpenedRest may_go_on first ws (Err e) rest = (how : PathOpening) (ms : List Mark) →
    Stops (only (opened_path may_go_on how first)) ms ws e rest

-- a path that is opened in this body, and its place
abbrev pub path_then : {s : Sort} → Body → Act → (Path → ℕ → Prod ruby s) → Prod ruby s
path_then here act next = token is_const λ w. call (opened_from here act w) λ path. next path w.at

-- behind it the mark comes
abbrev pub marked_then : {s : Sort} → Path → Act → (Path → ℕ → Prod ruby s) → Written → Prod ruby s
marked_then outer act next p = mark (counts (outer ++ p.path) act p.at) (next p.path p.at)

-- What was returned is a path as it is written, whatever opens it in whichever body.
abbrev pub GivesWritten : Bool → List Word → Result Written Fault → List Word → Type 0
GivesWritten may_go_on ws (Ok p) rest = (outer : Path) (act : Act) (s : Sort) (next : Path → ℕ → Prod ruby s)
    (ms : List Mark) (o : Outcome ruby s) → at_top outer ≡ may_go_on →
    Comes (marked_then outer act next p) ms rest o → Comes (path_then (body 0 false outer) act next) ms ws o
GivesWritten may_go_on ws (Err e) rest = (outer : Path) (act : Act) (s : Sort) (next : Path → ℕ → Prod ruby s)
    (ms : List Mark) → at_top outer ≡ may_go_on → Stops (path_then (body 0 false outer) act next) ms ws e rest

-- The same, and the path counts.
abbrev pub GivesPath : Act → Noted → List Word → Result Written Fault → Noted → List Word → Type 0
GivesPath act v ws r w rest = (s : Sort) (next : Path → ℕ → Prod ruby s) →
    GoesOn (path_then (body 0 false v.here) act next) (λ (p : Written). next p.path p.at) v ws r w rest

-- the definitions in a module or class, and what they make
abbrev pub body_then : Body → (List Def → Def) → Prod ruby a_def
body_then here made = call (definitions here []) λ ds. token is_end λ _. give (made ds)

-- what was returned is the definitions of a module or class up to its `end`, whatever they make
abbrev pub GivesBody : Body → Noted → List Word → Result (List Def) Fault → Noted → List Word → Type 0
GivesBody here v ws r w rest = (made : List Def → Def) →
    GoesOn (body_then here made) (λ (ds : List Def). give (made ds)) v ws r w rest

-- What was returned is the path of a module, or that of a class and its parent, of which the definitions come next.
abbrev pub GivesModule : Noted → List Word → Result Path Fault → Noted → List Word → Type 0
GivesModule v ws r w rest = (levels : ℕ) →
    GoesOn (module_from (body 0 false v.here) levels)
    (λ (name : Path). body_then (body levels false (v.here ++ name)) (λ ds. def.Module name ds)) v ws r w rest

-- the same of a class: what was returned is its path and its parent, if it has one
abbrev pub GivesClass : Noted → List Word → Result (Path × Option ConstRef) Fault → Noted → List Word → Type 0
GivesClass v ws r w rest = (levels : ℕ) →
    GoesOn (class_from (body 0 false v.here) levels)
    (λ (c : Path × Option ConstRef). body_then (body levels false (v.here ++ c.0)) (λ ds. def.Class c.0 c.1 ds)) v
    ws r w rest

-- a symbol that names a reader
abbrev pub reader_then : {s : Sort} → Path → (Name → Prod ruby s) → Prod ruby s
reader_then path next = token is_sym λ w. mark (reader path w) (next (behind_sign w.text))

-- what was returned is the name of a reader that counts, whatever comes behind it
abbrev pub GivesReader : Path → Noted → List Word → Result Name Fault → Noted → List Word → Type 0
GivesReader path v ws r w rest = (s : Sort) (next : Name → Prod ruby s) →
    GoesOn (reader_then path next) next v ws r w rest

-- the name of a method
abbrev pub heading_view : Held → Heading
heading_view h = record { single = h.single; name = h.name }

-- what was returned of a method's name, with the name as the grammar has it
abbrev pub heading_as : Result Held Fault → Result Heading Fault
heading_as (Ok h) = Ok (heading_view h)
heading_as (Err e) = Err e

-- the statements of a method, and what they make
abbrev pub statements_then : Around → (List Stmt → Def) → Prod ruby a_def
statements_then here made = call (statements here []) λ b. token is_end λ _. give (made b.stmts)

-- what was returned is the statements of a method up to its `end`, whatever they make; they add no marks
abbrev pub GivesStatements : Around → List Word → Result (List Stmt) Fault → List Word → Type 0
GivesStatements here ws (Ok ss) rest = (made : List Stmt → Def) (ms : List Mark) (o : Outcome ruby a_def) →
    Comes {s = a_def} (give (made ss)) ms rest o → Comes (statements_then here made) ms ws o
GivesStatements here ws (Err e) rest = (made : List Stmt → Def) (ms : List Mark) →
    Stops (statements_then here made) ms ws e rest

-- a method whose statements come next
abbrev pub method_behind : ℕ → Signature → Prod ruby a_def
method_behind levels m = statements_then (around levels (may_set false (heading_view m.heading)) m.parameters)
    (λ ss. def.Method m.heading.single m.heading.name m.parameters ss)

-- what was returned is the signature of a method, of which the statements come next
abbrev pub GivesSignature : ℕ → Noted → List Word → Result Signature Fault → Noted → List Word → Type 0
GivesSignature levels v ws r w rest = GoesOn (method_from (body 0 false v.here) levels)
    (λ (m : Signature). method_behind levels m) v ws r w rest

-- what was returned is what the grammar reads of a method
abbrev pub GivesMethod : ℕ → Noted → List Word → Result Def Fault → Noted → List Word → Type 0
GivesMethod levels v ws r w rest = GivesMarked {s = a_def} (method_from (body 0 false v.here) levels) v ws r w rest

-- a parent, where one is written
abbrev pub GivesParent : Path → ℕ → Noted → List Word → Result ConstRef Fault → Noted → List Word → Type 0
GivesParent path at v ws r w rest = GoesOn (some_parent path at) (λ (c : ConstRef). give (Some c)) v ws r w rest
