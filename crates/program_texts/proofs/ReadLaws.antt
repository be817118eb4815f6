-- What first faults are told as, and texts of files one more at a time.
use Rattle.std.proofs.Common.{ℕ, List, [], ◌∷◌, ◌++◌, Option, Some}
use Rattle.std.specs.Borrow.{Bor}
use Rattle.outside.specs.declared.files.FileEntry.{FileEntry}
use Rattle.ruby_grammar.specs.Faults.{lexical, of_grammar, expected, not_in_profile, too_deep}
use Rattle.ruby_grammar.specs.Faults.{twice_defined}
use Rattle.ruby_parse.specs.Answers.{FaultStands, IsFaultOf}
use Rattle.ruby_parse.specs.declared.fault.SyntaxFault.{SyntaxFault}
use Rattle.ruby_parse.specs.declared.fault.SyntaxKind.{SyntaxKind}
use Rattle.ruby_parse.specs.declared.fault.SyntaxKind.TheVariants as k
use Rattle.program_places.specs.Paths.{Path}
use Rattle.program_used.specs.Rows.{IsUsed, AreUsed}
use Rattle.program_used.specs.declared.text.FileText.TheVariants as text
use Rattle.program_used.specs.declared.used.UsedText.{UsedText}
use Rattle.program_texts.specs.Read.{IsReadAs, IsReadOf, AreReadOf, Tells, why_of}

-- a fault that is told in these words is read as that fault
fault_in_words : (bytes : List ℕ) (at : ℕ) (kind : SyntaxKind) (words : Bor (List ℕ)) →
    Tells (why_of kind) (Some words) → FaultStands bytes at kind → IsReadAs bytes (text.Fault words at)
fault_in_words bytes at k.Lex words h stands = (lexical, stands, h)
fault_in_words bytes at k.Expected words h stands = (of_grammar expected, stands, h)
fault_in_words bytes at k.NotInProfile words h stands = (of_grammar not_in_profile, stands, h)
fault_in_words bytes at k.TooDeep words h stands = (of_grammar too_deep, stands, h)
fault_in_words bytes at k.TwiceDefined words h stands = (of_grammar twice_defined, stands, h)
fault_in_words bytes at k.Memory words h stands = absurd h

-- a fault of the bytes that is told in these words is what they are read as
pub fault_told : (bytes : List ℕ) (fault : SyntaxFault) (words : Bor (List ℕ)) →
    Tells (why_of fault.kind) (Some words) → IsFaultOf bytes fault → IsReadAs bytes (text.Fault words fault.at)
fault_told bytes fault words h stands = fault_in_words bytes fault.at fault.kind words h stands

-- one file more has one text more
pub used_more : (cs : List (Option Path)) (rs : List (Option UsedText)) (c : Option Path) (r : Option UsedText) →
    AreUsed cs rs → IsUsed c r → AreUsed (cs ++ c ∷ []) (rs ++ r ∷ [])
used_more [] [] c r h is = (is, tt)
used_more [] (s ∷ rs) c r h is = absurd h
used_more (d ∷ cs) [] c r h is = absurd h
used_more (d ∷ cs) (s ∷ rs) c r h is = (h.0, used_more cs rs c r h.1 is)

-- and it is what its bytes are read as
pub read_more : (fs : List FileEntry) (rs : List (Option UsedText)) (f : FileEntry) (r : Option UsedText) →
    AreReadOf fs rs → IsReadOf f r → AreReadOf (fs ++ f ∷ []) (rs ++ r ∷ [])
read_more [] [] f r h is = (is, tt)
read_more [] (s ∷ rs) f r h is = absurd h
read_more (g ∷ fs) [] f r h is = absurd h
read_more (g ∷ fs) (s ∷ rs) f r h is = (h.0, read_more fs rs f r h.1 is)
