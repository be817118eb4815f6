-- The first fault of a file.
use Rattle.std.specs.Prelude.{◌≡◌, ℕ, ◌<◌, ◌≤◌, Bool, true, false, List, [], ◌∷◌, ◌++◌, length}
use Rattle.ruby_types.specs.declared.tree.FileTree.{FileTree}
use Rattle.ruby_token.specs.declared.token.Token.{Token}
use Rattle.ruby_token.specs.declared.fault.LexKind.{LexKind}
use Rattle.ruby_token.specs.Cut.{Lexes, done, fault}
use Rattle.descent.specs.Faults.{Begins, Stops, Clashes, NoClash}
use Rattle.ruby_grammar.specs.Words.{Word, words_of}
use Rattle.ruby_grammar.specs.Terminals.{is_left_out}
use Rattle.ruby_grammar.specs.Marks.{Mark}
use Rattle.ruby_grammar.specs.Rules.{file}
use Rattle.ruby_grammar.specs.Language.{ruby_grammar, IsFile, most_levels}

-- The bytes are a text of the profile, and this is its tree.
pub record IsText (bytes : List ℕ) (tree : FileTree) : Type 0 where
  pub tokens : List Token
  pub lexed : Lexes bytes (done tokens)
  pub spelled : IsFile (words_of bytes tokens) tree

-- A fault of the grammar: of what stands at a word or at the end, or of a name that is defined twice.
pub data Kind : Type 0 where
  expected : Kind
  not_in_profile : Kind
  too_deep : Kind
  twice_defined : Kind

-- the place of the next word, or the end
abbrev pub place : ℕ → List Word → ℕ
place end [] = end
place end (w ∷ ws) = w.at

-- with some number of levels, a file begins with these words; the flag is true where `@x =` may stand in any method
abbrev pub BeginsAtAnyDepth : Bool → List Word → Type 0
BeginsAtAnyDepth anywhere ws = (levels : ℕ) × Begins ruby_grammar (file levels anywhere) ws

-- Where no file goes on from these words with the word at hand, the kind of fault is: too deep, where one of more
-- levels would;
-- not in the profile, of a word or an operator that is left out, and of a `=` with which a file would go on if `@x =`
-- could stand
-- in any method; expected, of any other word and of the end.
pub data KindAt (used : List Word) : List Word → Kind → Type 0 where
  deep : {w : Word} {rest : List Word} → BeginsAtAnyDepth false (used ++ w ∷ []) → KindAt used (w ∷ rest) too_deep
  left_out : {w : Word} {rest : List Word} → is_left_out w ≡ true → KindAt used (w ∷ rest) not_in_profile
  barred : {w : Word} {rest : List Word} → (BeginsAtAnyDepth false (used ++ w ∷ []) → ⊥) →
      BeginsAtAnyDepth true (used ++ w ∷ []) → KindAt used (w ∷ rest) not_in_profile
  other : {w : Word} {rest : List Word} → (BeginsAtAnyDepth true (used ++ w ∷ []) → ⊥) → is_left_out w ≡ false →
      KindAt used (w ∷ rest) expected
  ended : KindAt used [] expected

-- The first fault of these words, which end at a place: a name that is defined twice, or else the word at hand where
-- no file goes on.
pub data FirstFault (ws : List Word) (end : ℕ) : ℕ → Kind → Type 0 where
  twice : {m : Mark} → Clashes ruby_grammar (file most_levels false) ws m → FirstFault ws end m.at twice_defined
  at_word : {rest : List Word} {kind : Kind} (s : Stops ruby_grammar (file most_levels false) ws rest) →
      NoClash ruby_grammar (file most_levels false) ws → KindAt s.used rest kind →
      FirstFault ws end (place end rest) kind

-- Why the bytes are no text: a fault of the lexer, or one of the grammar.
pub data Why : Type 0 where
  lexical : Why
  of_grammar : Kind → Why

-- The first fault of a file stands here. A fault of the lexer wins where its place isn't behind the grammar's.
pub data NoText (bytes : List ℕ) : ℕ → Why → Type 0 where
  no_file : {tokens : List Token} {at : ℕ} {kind : Kind} →
      Lexes bytes (done tokens) → FirstFault (words_of bytes tokens) (length bytes) at kind →
      NoText bytes at (of_grammar kind)
  before_token : {tokens : List Token} {lex_kind : LexKind} {lex_at at : ℕ} {kind : Kind} →
      Lexes bytes (fault tokens lex_kind lex_at) → FirstFault (words_of bytes tokens) lex_at at kind → at < lex_at →
      NoText bytes at (of_grammar kind)
  no_token : {tokens : List Token} {lex_kind : LexKind} {lex_at : ℕ} →
      Lexes bytes (fault tokens lex_kind lex_at) →
      ((at : ℕ) (kind : Kind) → FirstFault (words_of bytes tokens) lex_at at kind → lex_at ≤ at) →
      NoText bytes lex_at lexical
