-- One generation of an application, as contracts see it.
use Rattle.std.specs.Prelude.{ℕ, List, Option, slice_get}
use Rattle.app_config.specs.declared.config.Config.{Config}
use Rattle.outside.specs.declared.files.FileEntry.{FileEntry}
use Rattle.tree_scan.specs.Scanned.{Scanned}
use Rattle.ruby_nodes.specs.Entries.{Entry}
use Rattle.program_files.specs.Files.{UsedFile}
use Rattle.program_used.specs.Rows.{all_used}
use Rattle.program_used.specs.declared.used.UsedText.{UsedText}
use Rattle.program_outcomes.specs.Outcomes.{listed, flat}

-- The files, what the configuration says, the sites, the text of each file that is used, and what the nodes of all
-- bodies of methods and assigned expressions stand for. A file is told by its place.
pub record Content : Type 0 where
  pub files : List FileEntry
  pub config : Config
  pub sites : Scanned
  pub texts : List (Option UsedText)
  pub nodes : List Entry

-- each file as it is used, or not
abbrev pub files_of : Content → List (Option UsedFile)
files_of p = all_used p.files p.texts

-- the files that are used, in the order of the snapshot
abbrev pub used_files : Content → List UsedFile
used_files p = listed (files_of p)

-- the file of this number, if it is used
abbrev pub used_file : Content → ℕ → Option UsedFile
used_file p number = flat (slice_get (files_of p) number)
