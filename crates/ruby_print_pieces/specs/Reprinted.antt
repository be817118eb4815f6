-- What it means that a printed text is read as the same tree.
use Rattle.std.specs.Prelude.{ℕ, false, List}
use Rattle.ruby_types.specs.declared.tree.FileTree.{FileTree}
use Rattle.ruby_token.specs.declared.token.Token.{Token}
use Rattle.ruby_token.specs.Cut.{Lexes, done}
use Rattle.descent.specs.Grammar.{Spells}
use Rattle.ruby_grammar.specs.Words.{words_of}
use Rattle.ruby_grammar.specs.Rules.{file}
use Rattle.ruby_grammar.specs.Language.{ruby_grammar}

-- The bytes would be a text of the profile, and this its tree, if so many levels could nest.
pub record IsTextOfLevels (levels : ℕ) (bytes : List ℕ) (tree : FileTree) : Type 0 where
  pub tokens : List Token
  pub lexed : Lexes bytes (done tokens)
  pub spelled : Spells ruby_grammar (file levels false) (words_of bytes tokens) tree

-- The same, the limit of nesting left aside.
abbrev pub IsDeepText : List ℕ → FileTree → Type 0
IsDeepText bytes tree = (levels : ℕ) × IsTextOfLevels levels bytes tree
