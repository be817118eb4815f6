-- What a reader of a file's words answers, in the words of its first fault.
use Rattle.std.specs.Prelude.{ℕ, false, List, [], ◌∷◌, if◌then◌else◌}
use Rattle.descent.specs.Grammar.{only}
use Rattle.descent.specs.Reading.{Outcome, done, fault, Unexpected, Deep, Barred, Twice, Reads}
use Rattle.ruby_grammar.specs.Words.{Word}
use Rattle.ruby_grammar.specs.Terminals.{is_left_out}
use Rattle.ruby_grammar.specs.Rules.{ruby, a_tree, file}
use Rattle.ruby_grammar.specs.Language.{ruby_grammar, most_levels}
use Rattle.ruby_grammar.specs.Choices.{ruby_choices}
use Rattle.ruby_grammar.specs.Faults.{Kind, expected, not_in_profile, too_deep, twice_defined, place}

-- a reader by descent reads the words as a whole file so
abbrev pub ReadsFile : List Word → Outcome ruby a_tree → Type 0
ReadsFile ws o = Reads ruby_grammar ruby_choices a_tree (only (file most_levels false)) [] ws o

-- not all words are read, or none goes on
abbrev pub IsFault : Outcome ruby a_tree → Type 0
IsFault (done x ms []) = ⊥
IsFault (done x ms (w ∷ ws)) = Unit {0}
IsFault (fault why ws) = Unit {0}

-- the kind of a fault at a word that no rule takes, or at the end
abbrev pub kind_of_next : List Word → Kind
kind_of_next [] = expected
kind_of_next (w ∷ ws) = if is_left_out w then not_in_profile else expected

abbrev pub fault_kind : Outcome ruby a_tree → Kind
fault_kind (done x ms ws) = kind_of_next ws
fault_kind (fault Unexpected ws) = kind_of_next ws
fault_kind (fault Deep ws) = too_deep
fault_kind (fault Barred ws) = not_in_profile
fault_kind (fault (Twice m) ws) = twice_defined

-- its place, where the words end at a place
abbrev pub fault_place : ℕ → Outcome ruby a_tree → ℕ
fault_place end (done x ms ws) = place end ws
fault_place end (fault Unexpected ws) = place end ws
fault_place end (fault Deep ws) = place end ws
fault_place end (fault Barred ws) = place end ws
fault_place end (fault (Twice m) ws) = m.at
