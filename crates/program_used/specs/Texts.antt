-- What the text of a file is: its tree, or its first fault.
use Rattle.program_files.specs.Files.{Reading, reading_of, Unreadable}
use Rattle.program_used.specs.declared.text.FileText.{FileText}
use Rattle.program_used.specs.declared.text.FileText.TheVariants as text

-- a text as what its entries are taken from
abbrev pub reading_in : FileText → Reading
reading_in (text.Tree tree) = reading_of tree
reading_in (text.Fault kind at) = Unreadable kind.now at
