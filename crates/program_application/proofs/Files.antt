-- The files of a program are as the laws of applications want them.
use Rattle.std.proofs.Common.{ℕ, ◌∷◌, [], List, Option, Some, None, refl, subst, sym}
use Rattle.outside.specs.declared.files.FileEntry.{FileEntry}
use Rattle.program_places.specs.Tasks.{EachIs}
use Rattle.program_used.specs.Rows.{all_used}
use Rattle.program_used.specs.Texts.{reading_in}
use Rattle.program_used.specs.declared.text.FileText.{FileText}
use Rattle.program_used.specs.declared.text.FileText.TheVariants as text
use Rattle.program_used.specs.declared.used.UsedText.{UsedText}
use Rattle.program_texts.specs.Read.{AreReadOf, IsReadAs}
use Rattle.program_outcomes.specs.Outcomes.{listed}
use Rattle.program_index.specs.Content.{Content, used_files}
use Rattle.program_index.specs.Controllers.{controller_of}
use Rattle.program_index.specs.Program.{IsProgram, index_in}
use Rattle.program_index.proofs.OneLaws.{one_files}
use Rattle.program_replies.specs.Profiled.{AreFiles}
use Rattle.program_values.specs.Standing.{IsWritten}
use Rattle.program_written.specs.Reads.{IsRead}
use Rattle.program_written.proofs.Standing.{files_are_written}

-- what bytes are read as has the entries of a text's tree, or is a first fault
text_is_read : (bytes : List ℕ) (t : FileText) → IsReadAs bytes t → IsRead (reading_in t)
text_is_read bytes (text.Tree tree) is = (bytes, tree, is, refl)
text_is_read bytes (text.Fault kind at) is = tt

-- each file that is used was read so
used_are_read : (files : List FileEntry) (rows : List (Option UsedText)) → AreReadOf files rows →
    EachIs (λ f. IsRead f.reading) (listed (all_used files rows))
used_are_read [] rows are = tt
used_are_read (file ∷ files) [] are = tt
used_are_read (file ∷ files) (None ∷ rows) are = used_are_read files rows are.1
used_are_read (file ∷ files) (Some used ∷ rows) are =
    (text_is_read file.bytes used.text are.0, used_are_read files rows are.1)

-- the files of a program are files of a generation
pub program_has_files : (files : List FileEntry) (p : Content) → IsProgram files p → AreFiles (used_files p)
program_has_files files p is = record {
  one = one_files files p is;
  read = used_are_read p.files p.texts (subst (λ fs. AreReadOf fs p.texts) (sym is.same) is.are_read);
}

-- what they define stands in its index
pub program_is_written : (files : List FileEntry) (p : Content) → IsProgram files p → IsWritten (index_in p)
program_is_written files p is =
    let are = program_has_files files p is in
    files_are_written (used_files p) (controller_of p.config) are.one are.read
