-- What a file was read as, and which reply was found.
use Rattle.std.specs.Prelude.{◌≡◌, ℕ, List, Contains, Option, Some, None}
use Rattle.outside.specs.declared.files.FileEntry.{FileEntry}
use Rattle.ruby_types.specs.declared.request.Reply.{Reply}
use Rattle.ruby_grammar.specs.Faults.{IsText, Why, NoText}
use Rattle.load_rules.specs.declared.names.Asked.{Asked}
use Rattle.load_rules.specs.declared.reading.Reading.{Reading}
use Rattle.load_rules.specs.declared.reading.Reading.TheVariants as r
use Rattle.load_rules.specs.Names.{IsLetters, first_path, class_name}
use Rattle.load_rules.specs.FirstForm.{FirstParts, first_tree}
use Rattle.load_rules.specs.Printed.{kind_text}
use Rattle.load_rules.specs.FirstReply.{IsReadableText, IsReadable, IsFileReply}

-- the tree of the bytes, which is of the first form, or their first fault
abbrev pub IsReadingOf : (class bytes : List ℕ) → Reading → Type 0
IsReadingOf class bytes (r.Tree tree) = IsText bytes tree × ((parts : FirstParts) × (tree ≡ first_tree class parts))
IsReadingOf class bytes (r.Fault at kind) = (why : Why) × NoText bytes at why × (kind.now ≡ kind_text why)

-- what a controller's text is read as, and nothing where its tree is of another form
abbrev pub FindsReading : (class bytes : List ℕ) → Option Reading → Type 0
FindsReading class bytes (Some reading) = IsReadingOf class bytes reading
FindsReading class bytes None = ¬ (IsReadableText class bytes)

-- the file has the path of a controller, and it is read as its class
abbrev pub IsFileReading : FileEntry → Reading → Type 0
IsFileReading file reading = (name : List ℕ) × IsLetters name × (file.path ≡ first_path name)
    × IsReadingOf (class_name name) file.bytes reading

-- what a file is read as, and nothing where it is not readable
abbrev pub FindsFileReading : FileEntry → Option Reading → Type 0
FindsFileReading file (Some reading) = IsReadable file × IsFileReading file reading
FindsFileReading file None = ¬ (IsReadable file)

-- the file and the class are this controller's
abbrev pub IsAskedOf : (controller action : List ℕ) → Asked → Type 0
IsAskedOf controller action asked = (asked.path ≡ first_path controller) × (asked.class ≡ class_name controller)
    × (asked.action.now ≡ action)

-- the reply of a file with the path that is asked for, or no file has it
abbrev pub IsFoundReply : List FileEntry → Asked → Option Reply → Type 0
IsFoundReply files asked None = (file : FileEntry) → Contains files file → file.path ≡ asked.path → ⊥
IsFoundReply files asked (Some reply) = (file : FileEntry) × Contains files file × (file.path ≡ asked.path)
    × IsFileReply asked.class asked.action.now file reply
