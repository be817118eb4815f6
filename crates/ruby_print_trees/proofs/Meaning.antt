-- What is known of the words of a file, and what each rule of the grammar says of trees.
use Rattle.std.specs.Prelude.{◌≡◌, ℕ, Bool, true, false, not, List, [], ◌∷◌, ◌++◌, Option, Some, None}
use Rattle.std.specs.Str.{IsUtf8}
use Rattle.ruby_types.specs.declared.tree.ConstRef.{ConstRef}
use Rattle.ruby_types.specs.declared.tree.Expr.{Expr}
use Rattle.ruby_types.specs.declared.tree.Part.{Part}
use Rattle.ruby_types.specs.declared.tree.Stmt.{Stmt}
use Rattle.ruby_types.specs.declared.tree.Def.{Def}
use Rattle.ruby_token.specs.declared.token.TokenKind.TheVariants as k
use Rattle.ruby_token.specs.declared.state.State.{State}
use Rattle.ruby_token.specs.Lexemes as l
use Rattle.ruby_token.specs.Cut.{is_big}
use Rattle.descent.specs.Grammar.{Prod, give, token, call, mark, Item, word, marked}
use Rattle.ruby_grammar.specs.Words.{Word}
use Rattle.ruby_grammar.specs.Terminals.{is_text_piece}
use Rattle.ruby_grammar.specs.Marks.{Mark, gives_parent, defines}
use Rattle.ruby_grammar.specs.Rules.{ruby, Val, Name, Path, Sort, Rule, file, definitions, more_definitions, definition}
use Rattle.ruby_grammar.specs.Rules.{opened_path}
use Rattle.ruby_grammar.specs.Rules.{path_rest, parent, constant, heading, parameter_list, parameters, more_parameters}
use Rattle.ruby_grammar.specs.Rules.{more_readers, statements, more_statements, statement, simple_statement}
use Rattle.ruby_grammar.specs.Rules.{condition_behind, then_or_line, perhaps_line, arms_rest, perhaps_expression}
use Rattle.ruby_grammar.specs.Rules.{expression, choice_rest, operators, more_operators, unary, postfix, more_postfix}
use Rattle.ruby_grammar.specs.Rules.{primary, name_rest, perhaps_arguments, members, more_members, pairs, more_pairs}
use Rattle.ruby_grammar.specs.Rules.{pair, text_parts}
use Rattle.ruby_grammar.specs.Language.{forms}
use Rattle.ruby_grammar.specs.Follow.{is_quiet}
use Rattle.ruby_grammar.proofs.Tools.{Each}
use Rattle.ruby_print_pieces.specs.Names.{IsMethodName, IsPath}
use Rattle.ruby_print_pieces.specs.Formed as f
use Rattle.ruby_print_pieces.specs.FormedStatements as t
use Rattle.ruby_print_pieces.specs.FormedFiles as d

-- ---- words

-- The text of a word is one of its kind; a number is in range, and a piece of a text is UTF-8.
pub record Sound (w : Word) : Type 0 where
  pub state : State
  pub rest : List ℕ
  pub spelled : l.Is state (l.token w.kind) w.text rest
  pub fits : is_big w.kind w.text ≡ false
  pub utf8 : w.kind ≡ k.TextPiece → IsUtf8 w.text

-- no two pieces of a text stand side by side
abbrev pub Beside : Option Word → Word → Type 0
Beside None w = Unit {0}
Beside (Some v) w = is_text_piece v ≡ true → is_text_piece w ≡ true → ⊥

-- all of these words, behind another one or at the start
abbrev pub SoundWords : Option Word → List Word → Type 0
SoundWords a [] = Unit {0}
SoundWords a (w ∷ ws) = Sound w × Beside a w × SoundWords (Some w) ws

-- ---- lists that are read from the left: with whatever may follow, they make a whole

-- The members read so far are formed.
abbrev pub Members : List Name → List Expr → Type 0
Members names xs = (ys : List Expr) → f.Formed names f.some ys → f.Formed names f.some (xs ++ ys)

-- The pairs read so far are formed.
abbrev pub Pairs : List Name → List (Expr × Expr) → Type 0
Pairs names ps = (qs : List (Expr × Expr)) → f.Formed names f.pairs qs → f.Formed names f.pairs (ps ++ qs)

-- the flag is true where the last part is a plain one
abbrev pub Parts : List Name → Bool → List Part → Type 0
Parts names plain ps = (qs : List Part) → f.Formed names (f.parts (not plain)) qs →
    f.Formed names (f.parts true) (ps ++ qs)

-- The statements read so far are formed, and these variables are known behind them.
abbrev pub Statements : Bool → List Name → List Stmt → List Name → Type 0
Statements sets names ss mid = (rest : List Stmt) (after : List Name) → t.FormedStmt sets t.several mid rest after →
    t.FormedStmt sets t.several names (ss ++ rest) after

-- The arms read so far are formed, and these variables are known behind them.
abbrev pub ArmsBefore : Bool → List Name → List (Expr × List Stmt) → List Name → Type 0
ArmsBefore sets names arms mid = (rest : List (Expr × List Stmt)) (after : List Name) →
    t.FormedStmt sets t.branches mid rest after → t.FormedStmt sets t.branches names (arms ++ rest) after

-- one arm or more
abbrev pub Arms : Bool → List Name → List (Expr × List Stmt) → List Name → Type 0
Arms sets names arms mid = t.FormedStmt sets t.branches names arms mid × ArmsBefore sets names arms mid

-- The definitions read so far are formed and do these deeds.
abbrev pub Definitions : Path → List Def → List d.Deed → Type 0
Definitions path ds es = (rest : List Def) (more : List d.Deed) → d.FormedDef path d.several_definitions rest more →
    d.FormedDef path d.several_definitions (ds ++ rest) (es ++ more)

-- one reader or more
abbrev pub Readers : Path → List Name → List d.Deed → Type 0
Readers path names es = d.FormedReaders path names es
    × ((rest : List Name) (more : List d.Deed) → d.FormedReaders path rest more →
    d.FormedReaders path (names ++ rest) (es ++ more))

-- The parameters read so far are names of variables, each once.
abbrev pub Parameters : List Name → Type 0
Parameters names = (rest : List Name) → d.FormedParameters names rest → d.FormedParameters [] (names ++ rest)

-- ---- deeds

-- What a mark says without its place.
abbrev pub deed_of : Mark → d.Deed
deed_of m = d.deed m.path m.act

-- The deeds of a sentence, in order.
abbrev pub deeds_in : List (Item ruby) → List d.Deed
deeds_in [] = []
deeds_in (word w ∷ ts) = deeds_in ts
deeds_in (marked m ∷ ts) = deed_of m ∷ deeds_in ts

-- what a path's end does
abbrev pub ending_deeds : Option Mark → List d.Deed
ending_deeds None = []
ending_deeds (Some m) = deed_of m ∷ []

-- ---- rules

-- A value that may lack is formed where it is there.
abbrev pub Perhaps : List Name → Option Expr → Type 0
Perhaps names None = Unit {0}
Perhaps names (Some x) = f.Formed names f.one x

-- A word that may lack is a piece of a text where it is there.
abbrev pub PerhapsPiece : Bool → Option Word → Type 0
PerhapsPiece false a = Unit {0}
PerhapsPiece true None = ⊥
PerhapsPiece true (Some w) = is_text_piece w ≡ true

-- A class's parent is a constant where it is there, and giving it is its one deed.
abbrev pub Parent : Path → Option ConstRef → List d.Deed → Type 0
Parent path None n = n ≡ []
Parent path (Some c) n = f.IsConstant c × (n ≡ d.deed path gives_parent ∷ [])

-- What is known of the value that a rule says behind a word, and of the deeds met in it.
abbrev pub Meaning : {s : Sort} → Rule s → Option Word → Val s → List d.Deed → Type 0
Meaning (file levels anywhere) a y n = anywhere ≡ false → d.FormedDef [] d.several_definitions y.defs n
Meaning (definitions here ds) a y n = here.anywhere ≡ false → (es : List d.Deed) → Definitions here.path ds es →
    d.FormedDef here.path d.several_definitions y (es ++ n)
Meaning (more_definitions here ds) a y n = here.anywhere ≡ false → (es : List d.Deed) → Definitions here.path ds es →
    d.FormedDef here.path d.several_definitions y (es ++ n)
Meaning (definition here) a y n = here.anywhere ≡ false → d.FormedDef here.path d.definition y n
Meaning (path_rest more ending names) a y n = (IsPath names → IsPath y) × (more ≡ false → y ≡ names)
    × (n ≡ ending_deeds ending)
Meaning (opened_path more how names) a y n = (IsPath names → IsPath y) × (more ≡ false → y ≡ names)
    × (n ≡ d.deed (how.outer ++ y) how.act ∷ [])
Meaning (parent path at) a y n = Parent path y n
Meaning (constant ending) a y n = f.IsConstant y × (n ≡ ending_deeds ending)
Meaning (heading path) a y n = IsMethodName y.name × (n ≡ d.deed path (defines y.single y.name) ∷ [])
Meaning (parameter_list levels) a y n = d.FormedParameters [] y
Meaning parameters a y n = d.FormedParameters [] y
Meaning (more_parameters names) a y n = Parameters names → d.FormedParameters [] y
Meaning (more_readers path names) a y n = (es : List d.Deed) → Readers path names es → d.FormedReaders path y (es ++ n)
Meaning (statements here ss) a y n = (names : List Name) → Statements here.sets names ss here.names →
    t.FormedStmt here.sets t.several names y.stmts y.names
Meaning (more_statements here ss) a y n = (names : List Name) → Statements here.sets names ss here.names →
    t.FormedStmt here.sets t.several names y.stmts y.names
Meaning (statement here) a y n = t.FormedStmt here.sets t.whole here.names y.stmt y.names
Meaning (simple_statement here) a y n = t.FormedStmt here.sets t.simple here.names y.stmt y.names
Meaning (condition_behind levels s) a y n = (sets : Bool) (names : List Name) →
    t.FormedStmt sets t.simple names s.stmt s.names → t.FormedStmt sets t.whole names y.stmt y.names
Meaning then_or_line a y n = Unit {0}
Meaning perhaps_line a y n = Unit {0}
Meaning (arms_rest levels sets may_elsif arms b) a y n = (names : List Name) → Arms sets names arms b.names →
    t.FormedStmt sets t.whole names y.stmt y.names
Meaning (perhaps_expression here) a y n = Perhaps here.names y
Meaning (expression here) a y n = f.Formed here.names f.one y
Meaning (choice_rest here x) a y n = f.Formed here.names f.one x → f.Formed here.names f.one y
Meaning (operators level here) a y n = f.Formed here.names f.one y
Meaning (more_operators level here x) a y n = f.Formed here.names f.one x → f.Formed here.names f.one y
Meaning (unary here) a y n = f.Formed here.names f.one y
Meaning (postfix here) a y n = f.Formed here.names f.one y
Meaning (more_postfix here x) a y n = f.Formed here.names f.one x → f.Formed here.names f.one y
Meaning (primary here) a y n = f.Formed here.names f.one y
Meaning (name_rest here name) a y n = IsMethodName name → f.Formed here.names f.one y
Meaning (perhaps_arguments here) a y n = f.Formed here.names f.some y
Meaning (members here xs) a y n = Members here.names xs → f.Formed here.names f.some y
Meaning (more_members here xs) a y n = Members here.names xs → f.Formed here.names f.some y
Meaning (pairs here ps) a y n = Pairs here.names ps → f.Formed here.names f.pairs y
Meaning (more_pairs here ps) a y n = Pairs here.names ps → f.Formed here.names f.pairs y
Meaning (pair here) a y n = f.Formed here.names f.one y.0 × f.Formed here.names f.one y.1
Meaning (text_parts here double ps) a y n = (plain : Bool) → Parts here.names plain ps → PerhapsPiece plain a →
    f.Formed here.names (f.parts true) y

-- ---- productions

-- the deeds of a rule's sentence: none, where it has no mark
abbrev pub met : Bool → List d.Deed → List d.Deed
met true n = []
met false n = n

-- Behind a word, with these deeds before: what the production says is so, if what its rules say is known, and its
-- words are sound.
abbrev pub Serves : {s : Sort} → Prod ruby s → (Val s → List d.Deed → Type 0) → List d.Deed → Option Word → Type 0
Serves (give x) Q m a = Q x m
Serves (token test next) Q m a = (w : Word) → test w ≡ true → Sound w → Beside a w → Serves (next w) Q m (Some w)
Serves (call {v} rule next) Q m a = (y : Val v) (n : List d.Deed) (b : Option Word) → Meaning rule a y n →
    Serves (next y) Q (m ++ met (is_quiet rule) n) b
Serves (mark k p) Q m a = Serves p Q (m ++ deed_of k ∷ []) a

-- what an alternative of a rule says means what the rule means
abbrev pub Fine : {s : Sort} → Rule s → Prod ruby s → Type 0
Fine rule p = (a : Option Word) → Serves p (λ y n. Meaning rule a y n) [] a

-- Each production of a rule gives what the rule is to mean.
abbrev pub EachFine : {s : Sort} → Rule s → Type 0
EachFine rule = Each (λ p. Fine rule p) (forms rule)
