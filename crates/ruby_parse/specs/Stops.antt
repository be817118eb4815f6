-- What reading a file's words comes to, in the words of faults.
use Rattle.std.specs.Prelude.{ℕ, List, [], Option, Some, None, length, Result, Ok, Err}
use Rattle.descent.specs.Reading.{Outcome, done}
use Rattle.ruby_types.specs.declared.tree.FileTree.{FileTree}
use Rattle.ruby_token.specs.declared.fault.LexFault.{LexFault}
use Rattle.ruby_grammar.specs.Words.{Word}
use Rattle.ruby_grammar.specs.Marks.{Mark}
use Rattle.ruby_grammar.specs.Rules.{ruby, a_tree}
use Rattle.ruby_grammar.specs.Faults.{Kind, expected, not_in_profile, too_deep, twice_defined, place}
use Rattle.ruby_grammar.specs.Answers.{ReadsFile, IsFault, fault_kind, fault_place, kind_of_next}
use Rattle.ruby_parse_cursor.specs.declared.fault.Fault.{Fault}
use Rattle.ruby_parse_cursor.specs.declared.fault.Fault.TheVariants as f
use Rattle.ruby_parse.specs.declared.fault.SyntaxFault.{SyntaxFault}
use Rattle.ruby_parse.specs.declared.fault.SyntaxKind.{SyntaxKind}
use Rattle.ruby_parse.specs.declared.fault.SyntaxKind.TheVariants as k

-- the kind of a fault of the grammar
abbrev pub kind_view : Kind → SyntaxKind
kind_view expected = k.Expected
kind_view not_in_profile = k.NotInProfile
kind_view too_deep = k.TooDeep
kind_view twice_defined = k.TwiceDefined

-- A fault of this place and kind.
abbrev pub stop : ℕ → SyntaxKind → SyntaxFault
stop at kind = record { at = at; kind = kind }

-- where nothing goes on with the word at hand, or the words end
abbrev pub left_over : ℕ → List Word → SyntaxFault
left_over end ws = stop (place end ws) (kind_view (kind_of_next ws))

-- the fault that a reader tells, with these words left
abbrev pub stop_of : ℕ → List Word → Fault → SyntaxFault
stop_of end ws f.Unexpected = left_over end ws
stop_of end ws f.Deep = stop (place end ws) k.TooDeep
stop_of end ws f.Barred = stop (place end ws) k.NotInProfile
stop_of end ws (f.Twice at) = stop at k.TwiceDefined
stop_of end ws f.Memory = stop 0 k.Memory

-- A reader of these words, which end at a place, stops so, or memory wants.
pub data Stopped (ws : List Word) (end : ℕ) : SyntaxFault → Type 0 where
  stopped : (o : Outcome ruby a_tree) → ReadsFile ws o → IsFault o →
      Stopped ws end (stop (fault_place end o) (kind_view (fault_kind o)))
  wanting : Stopped ws end (stop 0 k.Memory)

-- A reader of these words gives a whole file, or stops.
abbrev pub GivesTree : List Word → ℕ → Result FileTree SyntaxFault → Type 0
GivesTree ws end (Ok tree) = (ms : List Mark) × ReadsFile ws (done tree ms [])
GivesTree ws end (Err e) = Stopped ws end e

-- the place at which the words of a file end: its length, or that of the lexer's fault
abbrev pub words_end : List ℕ → Option LexFault → ℕ
words_end bytes None = length bytes
words_end bytes (Some e) = e.at
