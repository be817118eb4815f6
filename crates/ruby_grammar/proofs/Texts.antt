-- Files as bytes: a text has one tree, and what is none has one first fault.
use Rattle.std.proofs.Common.{◌≡◌, ℕ, ◌<◌, ◌≤◌, List, [], ◌∷◌, length, refl, sym, ap, subst, arith}
use Rattle.ruby_types.specs.declared.tree.FileTree.{FileTree}
use Rattle.ruby_token.specs.declared.token.Token.{Token}
use Rattle.ruby_token.specs.declared.fault.LexKind.{LexKind}
use Rattle.ruby_token.specs.Cut.{Lexes, done, fault}
use Rattle.ruby_token.proofs.Outcomes.{one_outcome}
use Rattle.descent.specs.Reading as r
use Rattle.ruby_grammar.specs.Words.{Word, words_of}
use Rattle.ruby_grammar.specs.Marks.{Mark}
use Rattle.ruby_grammar.specs.Rules.{ruby, a_tree}
use Rattle.ruby_grammar.specs.Answers.{ReadsFile, IsFault, fault_kind, fault_place}
use Rattle.ruby_grammar.specs.Language.{IsFile}
use Rattle.ruby_grammar.specs.Faults.{IsText, Kind, FirstFault, Why, lexical, of_grammar, NoText, no_file, before_token}
use Rattle.ruby_grammar.specs.Faults.{no_token}
use Rattle.ruby_grammar.proofs.Exact.{one_tree, found}
use Rattle.ruby_grammar.proofs.FaultKinds.{one_fault, no_fault, exact_fault, first_fault}

same_done : (ts us : List Token) → done ts ≡ done us → ts ≡ us
same_done ts us e = cc

done_or_fault : (ts us : List Token) (kind : LexKind) (at : ℕ) → done ts ≡ fault us kind at → ⊥
done_or_fault ts us kind at e = cc

same_tokens : (ts us : List Token) (kind kind' : LexKind) (at at' : ℕ) → fault ts kind at ≡ fault us kind' at' → ts ≡ us
same_tokens ts us kind kind' at at' e = cc

same_place : (ts us : List Token) (kind kind' : LexKind) (at at' : ℕ) → fault ts kind at ≡ fault us kind' at' → at ≡ at'
same_place ts us kind kind' at at' e = cc

tokens_are : (bytes : List ℕ) (ts us : List Token) → Lexes bytes (done ts) → Lexes bytes (done us) → ts ≡ us
tokens_are bytes ts us l l' = same_done ts us (one_outcome bytes (done ts) (done us) l l')

no_both : (bytes : List ℕ) (ts us : List Token) (kind : LexKind) (at : ℕ) → Lexes bytes (done ts) →
    Lexes bytes (fault us kind at) → ⊥
no_both bytes ts us kind at l l' = done_or_fault ts us kind at (one_outcome bytes (done ts) (fault us kind at) l l')

-- bytes that are a text of the profile have one tree
pub one_text : (bytes : List ℕ) (x y : FileTree) → IsText bytes x → IsText bytes y → x ≡ y
one_text bytes x y a b = one_tree (words_of bytes b.tokens) x y
    (subst (λ ts. IsFile (words_of bytes ts) x) (tokens_are bytes a.tokens b.tokens a.lexed b.lexed) a.spelled)
    b.spelled

-- bytes that are a text of the profile have no first fault
pub no_fault_in_a_text : (bytes : List ℕ) (tree : FileTree) (at : ℕ) (why : Why) → IsText bytes tree →
    NoText bytes at why → ⊥
no_fault_in_a_text bytes tree at why a (no_file {tokens = ts} {kind = kind} l f) =
    no_fault (words_of bytes ts) tree (length bytes) at kind
    (subst (λ us. IsFile (words_of bytes us) tree) (tokens_are bytes a.tokens ts a.lexed l) a.spelled) f
no_fault_in_a_text bytes tree at why a (before_token {tokens = ts} {lex_kind = k} {lex_at = n} l f h) =
    no_both bytes a.tokens ts k n a.lexed l
no_fault_in_a_text bytes tree at why a (no_token {tokens = ts} {lex_kind = k} {lex_at = n} l f) =
    no_both bytes a.tokens ts k n a.lexed l

before_and_behind : (a b : ℕ) → a < b → b ≤ a → ⊥
before_and_behind a b h k = omega (arith, h, k)

-- bytes that are no text have one first fault, at one place and for one reason
pub one_reason : (bytes : List ℕ) (at at' : ℕ) (why why' : Why) → NoText bytes at why → NoText bytes at' why' →
    (at ≡ at') × (why ≡ why')
one_reason bytes at at' why why' (no_file {tokens = ts} {kind = kind} l f)
    (no_file {tokens = us} {kind = kind'} l' f') =
    let e = tokens_are bytes ts us l l' in
    let o = one_fault (words_of bytes us) (length bytes) at at' kind kind'
    (subst (λ vs. FirstFault (words_of bytes vs) (length bytes) at kind) e f) f' in
    (o.0, ap (λ k. of_grammar k) o.1)
one_reason bytes at at' why why' (no_file {tokens = ts} l f)
    (before_token {tokens = us} {lex_kind = k} {lex_at = n} l' f' h) = absurd (no_both bytes ts us k n l l')
one_reason bytes at at' why why' (no_file {tokens = ts} l f)
    (no_token {tokens = us} {lex_kind = k} {lex_at = n} l' f') = absurd (no_both bytes ts us k n l l')
one_reason bytes at at' why why' (before_token {tokens = us} {lex_kind = k} {lex_at = n} l f h)
    (no_file {tokens = ts} l' f') = absurd (no_both bytes ts us k n l' l)
one_reason bytes at at' why why' (before_token {tokens = ts} {lex_kind = k} {lex_at = n} {kind = kind} l f h)
    (before_token {tokens = us} {lex_kind = k'} {lex_at = n'} {kind = kind'} l' f' h') =
    let e = one_outcome bytes (fault ts k n) (fault us k' n') l l' in
    let g = subst (λ m. FirstFault (words_of bytes us) m at kind) (same_place ts us k k' n n' e)
    (subst (λ vs. FirstFault (words_of bytes vs) n at kind) (same_tokens ts us k k' n n' e) f) in
    let o = one_fault (words_of bytes us) n' at at' kind kind' g f' in
    (o.0, ap (λ k. of_grammar k) o.1)
one_reason bytes at at' why why' (before_token {tokens = ts} {lex_kind = k} {lex_at = n} {kind = kind} l f h)
    (no_token {tokens = us} {lex_kind = k'} {lex_at = n'} l' f') =
    let e = one_outcome bytes (fault ts k n) (fault us k' n') l l' in
    let p = same_place ts us k k' n n' e in
    let g = subst (λ m. FirstFault (words_of bytes us) m at kind) p
    (subst (λ vs. FirstFault (words_of bytes vs) n at kind) (same_tokens ts us k k' n n' e) f) in
    absurd (before_and_behind at n' (subst (λ m. at < m) p h) (f' at kind g))
one_reason bytes at at' why why' (no_token {tokens = us} {lex_kind = k} {lex_at = n} l f)
    (no_file {tokens = ts} l' f') = absurd (no_both bytes ts us k n l' l)
one_reason bytes at at' why why' (no_token {tokens = us} {lex_kind = k'} {lex_at = n'} l f)
    (before_token {tokens = ts} {lex_kind = k} {lex_at = n} {kind = kind} l' f' h') =
    let e = one_outcome bytes (fault ts k n) (fault us k' n') l' l in
    let p = same_place ts us k k' n n' e in
    let g = subst (λ m. FirstFault (words_of bytes us) m at' kind) p
    (subst (λ vs. FirstFault (words_of bytes vs) n at' kind) (same_tokens ts us k k' n n' e) f') in
    absurd (before_and_behind at' n' (subst (λ m. at' < m) p h') (f at' kind g))
one_reason bytes at at' why why' (no_token {tokens = ts} {lex_kind = k} {lex_at = n} l f)
    (no_token {tokens = us} {lex_kind = k'} {lex_at = n'} l' f') =
    (same_place ts us k k' n n' (one_outcome bytes (fault ts k n) (fault us k' n') l l'), refl)

-- ---- what a reader of all tokens answers

abbrev Read : Type 0
Read = r.Outcome ruby a_tree

-- where all bytes are tokens and a reader reads them to the end, they are a text with its tree
pub text_read : (bytes : List ℕ) (ts : List Token) (tree : FileTree) (ms : List Mark) → Lexes bytes (done ts) →
    ReadsFile (words_of bytes ts) (r.done tree ms []) → IsText bytes tree
text_read bytes ts tree ms l a = record { tokens = ts; lexed = l; spelled = found (words_of bytes ts) tree ms a }

-- where all bytes are tokens, what a reader stops at is the file's first fault
pub fault_read : (bytes : List ℕ) (ts : List Token) (o : Read) → Lexes bytes (done ts) →
    ReadsFile (words_of bytes ts) o → IsFault o →
    NoText bytes (fault_place (length bytes) o) (of_grammar (fault_kind o))
fault_read bytes ts o l a f = no_file l (first_fault (words_of bytes ts) (length bytes) o a f)

-- ---- and a reader of the tokens before a fault of the lexer

-- a reader's fault that stands before the lexer's is the file's first fault
pub fault_before : (bytes : List ℕ) (ts : List Token) (kind : LexKind) (at : ℕ) (o : Read) →
    Lexes bytes (fault ts kind at) → ReadsFile (words_of bytes ts) o → IsFault o → fault_place at o < at →
    NoText bytes (fault_place at o) (of_grammar (fault_kind o))
fault_before bytes ts kind at o l a f h = before_token l (first_fault (words_of bytes ts) at o a f) h

none_before : (ws : List Word) (at n : ℕ) (kind : Kind) (o : Read) → ReadsFile ws o →
    (IsFault o → at ≤ fault_place at o) → FirstFault ws at n kind → at ≤ n
none_before ws at n kind (r.done tree ms []) a h f = absurd (no_fault ws tree at n kind (found ws tree ms a) f)
none_before ws at n kind (r.done tree ms (w ∷ rest)) a h f =
    subst (λ m. at ≤ m) (sym (exact_fault ws at n kind (r.done tree ms (w ∷ rest)) a tt f).0) (h tt)
none_before ws at n kind (r.fault why rest) a h f =
    subst (λ m. at ≤ m) (sym (exact_fault ws at n kind (r.fault why rest) a tt f).0) (h tt)

-- where no fault of a reader stands before the lexer's, the lexer's is the file's first fault
pub fault_of_lexer : (bytes : List ℕ) (ts : List Token) (kind : LexKind) (at : ℕ) (o : Read) →
    Lexes bytes (fault ts kind at) → ReadsFile (words_of bytes ts) o → (IsFault o → at ≤ fault_place at o) →
    NoText bytes at lexical
fault_of_lexer bytes ts kind at o l a h = no_token l (λ n k f. none_before (words_of bytes ts) at n k o a h f)
