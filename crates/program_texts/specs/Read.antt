-- What the bytes of a file are read as: the tree of their text, or their first fault in words.
use Rattle.std.specs.Prelude.{◌≡◌, ◌≢◌, ℕ, List, [], ◌∷◌, Option, Some, None, codes, ⊤}
use Rattle.std.specs.Borrow.{Bor}
use Rattle.outside.specs.declared.files.FileEntry.{FileEntry}
use Rattle.ruby_grammar.specs.Faults.{IsText, NoText, Why, lexical, of_grammar, expected, not_in_profile, too_deep}
use Rattle.ruby_grammar.specs.Faults.{twice_defined}
use Rattle.ruby_parse.specs.declared.fault.SyntaxKind.{SyntaxKind}
use Rattle.ruby_parse.specs.declared.fault.SyntaxKind.TheVariants as k
use Rattle.program_places.specs.Paths.{Path}
use Rattle.program_used.specs.declared.text.FileText.{FileText}
use Rattle.program_used.specs.declared.text.FileText.TheVariants as text
use Rattle.program_used.specs.declared.used.UsedText.{UsedText}

-- The words for the kind of a first fault, as they stand in a SyntaxError.
abbrev pub why_words : Why → List ℕ
why_words lexical = codes "bad token"
why_words (of_grammar expected) = codes "unexpected"
why_words (of_grammar not_in_profile) = codes "not in the profile"
why_words (of_grammar too_deep) = codes "nested too deep"
why_words (of_grammar twice_defined) = codes "defined twice"

-- the reason that a kind of fault tells; want of memory is no fault of a file
abbrev pub why_of : SyntaxKind → Option Why
why_of k.Lex = Some lexical
why_of k.Expected = Some (of_grammar expected)
why_of k.NotInProfile = Some (of_grammar not_in_profile)
why_of k.TooDeep = Some (of_grammar too_deep)
why_of k.TwiceDefined = Some (of_grammar twice_defined)
why_of k.Memory = None

-- the words are those for the reason, and there are none without one
abbrev pub Tells : Option Why → Option (Bor (List ℕ)) → Type 0
Tells None None = ⊤
Tells (Some why) (Some words) = words.now ≡ why_words why
Tells why words = ⊥

-- The bytes are a text of the profile and this is its tree; or they are none, and this is their first fault.
abbrev pub IsReadAs : List ℕ → FileText → Type 0
IsReadAs bytes (text.Tree tree) = IsText bytes tree
IsReadAs bytes (text.Fault kind at) = (why : Why) × NoText bytes at why × (kind.now ≡ why_words why)

-- the text of a file that is used is what its bytes are read as
abbrev pub IsReadOf : FileEntry → Option UsedText → Type 0
IsReadOf file None = ⊤
IsReadOf file (Some used) = IsReadAs file.bytes used.text

-- the texts of these files are what their bytes are read as
abbrev pub AreReadOf : List FileEntry → List (Option UsedText) → Type 0
AreReadOf [] [] = ⊤
AreReadOf (file ∷ files) (row ∷ rows) = IsReadOf file row × AreReadOf files rows
AreReadOf files rows = ⊥

-- a file that has a constant has one with a name
abbrev pub IsNamed : Option Path → Type 0
IsNamed None = ⊤
IsNamed (Some constant) = constant ≢ []
