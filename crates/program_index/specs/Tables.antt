-- The tables of an application's files.
use Rattle.std.specs.Prelude.{◌≡◌, List, [], map, Option}
use Rattle.app_config.specs.declared.config.Config.{Config}
use Rattle.outside.specs.declared.files.FileEntry.{FileEntry}
use Rattle.tree_scan.specs.Scanned.{Scanned}
use Rattle.ruby_nodes.specs.Entries.{Entry}
use Rattle.program_files.specs.Files.{UsedFile}
use Rattle.program_used.specs.declared.used.UsedText.{UsedText}
use Rattle.program_outcomes.specs.Outcomes.{listed, HaveOutcomes}
use Rattle.program_tables.specs.Asks.{asks_by}
use Rattle.program_tables.specs.Tables.{owned_from, tables_of}
use Rattle.program_code.specs.Codes.{AreCodesOf}
use Rattle.program_index.specs.Content.{Content}
use Rattle.program_index.specs.declared.tables.FileTables.{FileTables}

-- the tables of these files, each of which is used or not
pub record AreTablesOf (files : List (Option UsedFile)) (t : FileTables) : Type 0 where
  pub outcomes : HaveOutcomes (listed files) files t.outcomes.items
  pub none : t.none ≡ []
  pub standings : t.standings ≡ tables_of files
  pub codes : AreCodesOf files t.nodes (owned_from (listed files) 0 files) t.codes.items
  pub asks : t.asks.items ≡ map (asks_by (listed files)) files
  pub bare : files ≡ [] → t.nodes ≡ []

-- the content of a program with these parts
abbrev pub content_of : List FileEntry → Config → Scanned → List (Option UsedText) → List Entry → Content
content_of files config sites texts nodes =
    record { files = files; config = config; sites = sites; texts = texts; nodes = nodes }
