-- What `parse` answers for bytes that are no text of the profile.
use Rattle.std.specs.Prelude.{◌≡◌, ℕ, List}
use Rattle.ruby_grammar.specs.Faults.{NoText, lexical, of_grammar, expected, not_in_profile, too_deep, twice_defined}
use Rattle.ruby_parse.specs.declared.fault.SyntaxFault.{SyntaxFault}
use Rattle.ruby_parse.specs.declared.fault.SyntaxKind.{SyntaxKind}
use Rattle.ruby_parse.specs.declared.fault.SyntaxKind.TheVariants as k

-- the first fault of the bytes stands here and is of this kind; want of memory stands at 0 and may come for any bytes
abbrev pub FaultStands : List ℕ → ℕ → SyntaxKind → Type 0
FaultStands bytes at k.Lex = NoText bytes at lexical
FaultStands bytes at k.Expected = NoText bytes at (of_grammar expected)
FaultStands bytes at k.NotInProfile = NoText bytes at (of_grammar not_in_profile)
FaultStands bytes at k.TooDeep = NoText bytes at (of_grammar too_deep)
FaultStands bytes at k.TwiceDefined = NoText bytes at (of_grammar twice_defined)
FaultStands bytes at k.Memory = at ≡ 0

abbrev pub IsFaultOf : List ℕ → SyntaxFault → Type 0
IsFaultOf bytes e = FaultStands bytes e.at e.kind
