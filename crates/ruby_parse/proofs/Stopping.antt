-- What was read of a file's words, as an answer for its bytes.
use Rattle.std.proofs.Common.{◌≡◌, ℕ, ◌<◌, ◌≤◌, List, [], ◌∷◌, length, Result, Ok, Err, IfOk, IfErr, MatchResult, refl}
use Rattle.std.proofs.Common.{sym, subst, arith}
use Rattle.ruby_types.specs.declared.tree.FileTree.{FileTree}
use Rattle.ruby_token.specs.declared.token.Token.{Token}
use Rattle.ruby_token.specs.declared.fault.LexKind.{LexKind}
use Rattle.ruby_token.specs.Cut.{Lexes, done, fault}
use Rattle.descent.specs.Reading as r
use Rattle.ruby_grammar.specs.Words.{Word, words_of}
use Rattle.ruby_grammar.specs.Faults.{Kind, expected, not_in_profile, too_deep, twice_defined, IsText, lexical}
use Rattle.ruby_grammar.specs.Faults.{of_grammar, NoText, no_token}
use Rattle.ruby_grammar.specs.Answers.{fault_kind, fault_place}
use Rattle.ruby_parse_cursor.specs.declared.fault.Fault.{Fault}
use Rattle.ruby_parse_cursor.specs.declared.fault.Fault.TheVariants as f
use Rattle.ruby_parse_definition.specs.Answers.{GivesFile}
use Rattle.ruby_grammar.proofs.Texts.{one_text, no_fault_in_a_text, text_read, fault_read, fault_before, fault_of_lexer}
use Rattle.ruby_parse.specs.declared.fault.SyntaxFault.{SyntaxFault}
use Rattle.ruby_parse.specs.declared.fault.SyntaxKind.{SyntaxKind}
use Rattle.ruby_parse.specs.declared.fault.SyntaxKind.TheVariants as k
use Rattle.ruby_parse.specs.Answers.{FaultStands, IsFaultOf}
use Rattle.ruby_parse.specs.Stops.{kind_view, stop, left_over, stop_of, Stopped, stopped, wanting, GivesTree}

-- ---- what a reader of the words comes to

-- Words left behind a file are where its reading stopped.
pub is_left : (ws : List Word) (end : ℕ) (tree : FileTree) (rest : List Word) → GivesFile ws (Ok tree) rest →
    (rest ≡ [] → ⊥) → Stopped ws end (left_over end rest)
is_left ws end tree [] g h = absurd (h refl)
is_left ws end tree (w ∷ rest) g h = stopped (r.done tree g.0 (w ∷ rest)) g.1 tt

-- A fault of the reader is where its reading stopped.
pub is_stopped : (ws : List Word) (end : ℕ) (rest : List Word) (e : Fault) → GivesFile ws (Err e) rest →
    Stopped ws end (stop_of end rest e)
is_stopped ws end rest f.Unexpected g = stopped (r.fault r.Unexpected rest) g tt
is_stopped ws end rest f.Deep g = stopped (r.fault r.Deep rest) g tt
is_stopped ws end rest f.Barred g = stopped (r.fault r.Barred rest) g tt
is_stopped ws end rest (f.Twice at) g = subst (λ n. Stopped ws end (stop n k.TwiceDefined)) (sym g.2)
    (stopped (r.fault (r.Twice g.0) rest) g.1 tt)
is_stopped ws end rest f.Memory g = wanting

-- ---- and for bytes

stands : (bytes : List ℕ) (at : ℕ) (kind : Kind) → NoText bytes at (of_grammar kind) →
    FaultStands bytes at (kind_view kind)
stands bytes at expected h = h
stands bytes at not_in_profile h = h
stands bytes at too_deep h = h
stands bytes at twice_defined h = h

only_memory : (bytes : List ℕ) (tree : FileTree) (at : ℕ) (kind : SyntaxKind) → IsText bytes tree →
    FaultStands bytes at kind → kind ≡ k.Memory
only_memory bytes tree at k.Lex t h = absurd (no_fault_in_a_text bytes tree at lexical t h)
only_memory bytes tree at k.Expected t h = absurd (no_fault_in_a_text bytes tree at (of_grammar expected) t h)
only_memory bytes tree at k.NotInProfile t h = absurd (no_fault_in_a_text bytes tree at (of_grammar not_in_profile) t h)
only_memory bytes tree at k.TooDeep t h = absurd (no_fault_in_a_text bytes tree at (of_grammar too_deep) t h)
only_memory bytes tree at k.TwiceDefined t h = absurd (no_fault_in_a_text bytes tree at (of_grammar twice_defined) t h)
only_memory bytes tree at k.Memory t h = refl

-- A fault of the grammar before the lexer's is the file's.
pub stands_before : (bytes : List ℕ) (tokens : List Token) (kind : LexKind) (at : ℕ) (e : SyntaxFault) →
    Lexes bytes (fault tokens kind at) → Stopped (words_of bytes tokens) at e → e.at < at → IsFaultOf bytes e
stands_before bytes tokens kind at e l (stopped o read is) h = stands bytes (fault_place at o) (fault_kind o)
    (fault_before bytes tokens kind at o l read is h)
stands_before bytes tokens kind at e l wanting h = refl

-- The lexer's fault is the file's where the grammar's doesn't stand before it.
pub lexer_first : (bytes : List ℕ) (tokens : List Token) (kind : LexKind) (at : ℕ) (e : SyntaxFault) →
    Lexes bytes (fault tokens kind at) → Stopped (words_of bytes tokens) at e → at ≤ e.at → NoText bytes at lexical
lexer_first bytes tokens kind at e l (stopped o read is) h = fault_of_lexer bytes tokens kind at o l read (λ _. h)
lexer_first bytes tokens kind at e l wanting h = no_token l (λ n _ _. omega (arith, h))

-- The lexer's fault is the file's where all tokens before it are a whole file.
pub lexer_alone : (bytes : List ℕ) (tokens : List Token) (kind : LexKind) (at : ℕ) (tree : FileTree) →
    Lexes bytes (fault tokens kind at) → GivesTree (words_of bytes tokens) at (Ok tree) → NoText bytes at lexical
lexer_alone bytes tokens kind at tree l g = fault_of_lexer bytes tokens kind at (r.done tree g.0 []) l g.1
    (λ none. absurd none)

-- A tree that was read of all tokens is the file's: for `found`.
pub found_in : (bytes : List ℕ) (tokens : List Token) (x : Result FileTree SyntaxFault) → Lexes bytes (done tokens) →
    GivesTree (words_of bytes tokens) (length bytes) x → IfOk x (λ tree. IsText bytes tree)
found_in bytes tokens (Ok tree) l g = text_read bytes tokens tree g.0 l g.1
found_in bytes tokens (Err e) l g = tt

stopped_in : (bytes : List ℕ) (tokens : List Token) (e : SyntaxFault) → Lexes bytes (done tokens) →
    Stopped (words_of bytes tokens) (length bytes) e → IsFaultOf bytes e
stopped_in bytes tokens e l (stopped o read is) = stands bytes (fault_place (length bytes) o) (fault_kind o)
    (fault_read bytes tokens o l read is)
stopped_in bytes tokens e l wanting = refl

-- A fault that was read of all tokens is the file's: for `fault`.
pub fault_in : (bytes : List ℕ) (tokens : List Token) (x : Result FileTree SyntaxFault) → Lexes bytes (done tokens) →
    GivesTree (words_of bytes tokens) (length bytes) x → IfErr x (IsFaultOf bytes)
fault_in bytes tokens (Ok tree) l g = tt
fault_in bytes tokens (Err e) l g = stopped_in bytes tokens e l g

-- A file with a tree is answered with it: for `only`.
pub only_in : (bytes : List ℕ) (x : Result FileTree SyntaxFault) → IfOk x (λ tree. IsText bytes tree) →
    IfErr x (IsFaultOf bytes) → (tree : FileTree) → IsText bytes tree →
    MatchResult x (λ found. found ≡ tree) (λ e. e.kind ≡ k.Memory)
only_in bytes (Ok found) h _ tree t = one_text bytes found tree h t
only_in bytes (Err e) _ h tree t = only_memory bytes tree e.at e.kind t h
