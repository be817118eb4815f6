-- How the first fault of a file is printed.
use Rattle.std.specs.Prelude.{◌≡◌, ℕ, List, ◌++◌, codes, Option, Some, None, ⊤}
use Rattle.std.specs.Borrow.{Bor}
use Rattle.std.specs.Fmt.{decimal}
use Rattle.ruby_grammar.specs.Faults.{Why, lexical, of_grammar, expected, not_in_profile, too_deep, twice_defined}
use Rattle.ruby_parse.specs.declared.fault.SyntaxKind.{SyntaxKind}
use Rattle.ruby_parse.specs.declared.fault.SyntaxKind.TheVariants as k

-- the words for the reason of a fault
abbrev pub kind_text : Why → List ℕ
kind_text lexical = codes "bad token"
kind_text (of_grammar expected) = codes "unexpected"
kind_text (of_grammar not_in_profile) = codes "not in the profile"
kind_text (of_grammar too_deep) = codes "nested too deep"
kind_text (of_grammar twice_defined) = codes "defined twice"

-- the reason that a kind of fault tells; want of memory is no fault of the file
abbrev pub why_of : SyntaxKind → Option Why
why_of k.Lex = Some lexical
why_of k.Expected = Some (of_grammar expected)
why_of k.NotInProfile = Some (of_grammar not_in_profile)
why_of k.TooDeep = Some (of_grammar too_deep)
why_of k.TwiceDefined = Some (of_grammar twice_defined)
why_of k.Memory = None

-- the words are those for the reason, and there are none without one
abbrev pub Tells : Option Why → Option (Bor (List ℕ)) → Type 0
Tells None None = ⊤
Tells (Some why) (Some words) = words.now ≡ kind_text why
Tells why words = ⊥

-- `SyntaxError: KIND at byte N (PATH)`
abbrev pub error_head : (kind : List ℕ) (at : ℕ) → List ℕ
error_head kind at = codes "SyntaxError: " ++ (kind ++ (codes " at byte " ++ (decimal at ++ codes " (")))

-- `SyntaxError: unexpected at byte 12 (app/controllers/hello_controller.rb)`
abbrev pub syntax_error : (kind : List ℕ) (at : ℕ) (path : List ℕ) → List ℕ
syntax_error kind at path = error_head kind at ++ (path ++ codes ")")
