-- What reading a whole file says.
use Rattle.std.proofs.Common.{◌≡◌, false, List, [], refl}
use Rattle.ruby_types.specs.declared.tree.FileTree.{FileTree}
use Rattle.descent.specs.Faults.{Stops, Clashes, NoClash}
use Rattle.descent.specs.Reading.{Outcome, done, fault, Twice}
use Rattle.descent.proofs.Theorems as t
use Rattle.descent.proofs.Theorems.{IsStop, rest_of}
use Rattle.ruby_grammar.specs.Words.{Word}
use Rattle.ruby_grammar.specs.Marks.{Mark}
use Rattle.ruby_grammar.specs.Rules.{ruby, Rule, a_tree, file}
use Rattle.ruby_grammar.specs.Language.{ruby_grammar, IsFile, most_levels}
use Rattle.ruby_grammar.specs.Choices.{ruby_choices}
use Rattle.ruby_grammar.specs.Follow.{ruby_follow}
use Rattle.ruby_grammar.specs.Answers.{ReadsFile}
use Rattle.ruby_grammar.proofs.Law.{lawful}

abbrev whole : Rule a_tree
whole = file most_levels false

-- the words of a file have one tree
pub one_tree : (ws : List Word) (x y : FileTree) → IsFile ws x → IsFile ws y → x ≡ y
one_tree ws x y a b = t.one_tree ruby_grammar ruby_choices ruby_follow lawful whole refl ws x y a b

-- words that are read to their end are a file, with the tree that was read
pub found : (ws : List Word) (x : FileTree) (ms : List Mark) → ReadsFile ws (done x ms []) → IsFile ws x
found ws x ms a = t.found ruby_grammar ruby_choices ruby_follow lawful whole refl ws x ms a

-- a file's words are read to their end, with its tree
pub read : (ws : List Word) (x : FileTree) → IsFile ws x → (ms : List Mark) × ReadsFile ws (done x ms [])
read ws x a = t.read ruby_grammar ruby_choices ruby_follow lawful whole refl ws x a

-- words at which the reading stops, but not at a name that counts twice, are no file
pub stop_is_no_file : (ws : List Word) (x : FileTree) (o : Outcome ruby a_tree) → ReadsFile ws o → IsStop o →
    IsFile ws x → ⊥
stop_is_no_file ws x o a h b = t.stop_spells_none ruby_grammar ruby_choices ruby_follow lawful whole refl ws x o a h b

-- words whose reading ends at a name that counts twice are no file
pub twice_is_no_file : (ws rest : List Word) (x : FileTree) (m : Mark) → ReadsFile ws (fault (Twice m) rest) →
    IsFile ws x → ⊥
twice_is_no_file ws rest x m a b = t.twice_spells_none ruby_grammar ruby_choices ruby_follow lawful whole refl ws
    rest x m a b

-- where the reading stops, but not at a name that counts twice, no file goes on
pub stops : (ws : List Word) (o : Outcome ruby a_tree) → ReadsFile ws o → IsStop o →
    Stops ruby_grammar whole ws (rest_of o)
stops ws o a h = t.stops ruby_grammar ruby_choices ruby_follow lawful whole refl ws o a h

-- where the reading stops otherwise, no name before that place counts twice
pub no_clash : (ws : List Word) (o : Outcome ruby a_tree) → ReadsFile ws o → IsStop o → NoClash ruby_grammar whole ws
no_clash ws o a h = t.no_clash ruby_grammar ruby_choices ruby_follow lawful whole refl ws o a h

-- a reading that ends at a name that counts twice has found the first such name
pub twice : (ws rest : List Word) (m : Mark) → ReadsFile ws (fault (Twice m) rest) → Clashes ruby_grammar whole ws m
twice ws rest m a = t.twice ruby_grammar ruby_choices ruby_follow lawful whole refl ws rest m a
