-- What a program is of its snapshot.
use Rattle.std.specs.Prelude.{◌≡◌, ℕ, List, [], length, map, Option, Some, None, slice_get}
use Rattle.ruby_types.specs.declared.request.RubyError.{RubyError}
use Rattle.ruby_types.specs.declared.request.Task.{Task}
use Rattle.ruby_types.specs.declared.tree.FileTree.{FileTree}
use Rattle.app_config.specs.Configuration.{configuration}
use Rattle.outside.specs.Order.{Rising}
use Rattle.outside.specs.declared.files.FileEntry.{FileEntry}
use Rattle.tree_scan.specs.Sites.{AreSites}
use Rattle.tree_report.specs.Limits.{IsWithinLimits}
use Rattle.tree_report.specs.Configurations.{IsConfiguration}
use Rattle.ruby_nodes.specs.Entries.{Entry}
use Rattle.program_places.specs.Paths.{Path}
use Rattle.program_places.specs.Places.{Index}
use Rattle.program_files.specs.Tasks.{index_of}
use Rattle.program_used.specs.Constants.{AreConstants}
use Rattle.program_used.specs.Rows.{AreUsed}
use Rattle.program_used.specs.declared.text.FileText.{FileText}
use Rattle.program_used.specs.declared.text.FileText.TheVariants as text
use Rattle.program_used.specs.declared.used.UsedText.{UsedText}
use Rattle.program_texts.specs.Read.{AreReadOf}
use Rattle.program_outcomes.specs.Outcomes.{fault_by}
use Rattle.program_outcomes.specs.Outcomes as outcomes
use Rattle.program_index.specs.Content.{Content, used_files, used_file}
use Rattle.program_index.specs.Controllers.{controller_of}

-- The program of these files: they stand in the order of their paths and are within the limits; its configuration is
-- what the configuration file says, its sites are those of the files by it; each file that is the file of a constant
-- has the text that its bytes are read as, and no other has one. Where there is no file, there is no node.
pub record IsProgram (files : List FileEntry) (p : Content) : Type 0 where
  pub same : p.files ≡ files
  pub rising : Rising (map (λ f. f.path) files)
  pub within : IsWithinLimits files
  pub configured : IsConfiguration files p.config
  pub sited : AreSites files p.config p.sites
  pub constants : List (Option Path)
  pub are_constants : AreConstants p.sites.spelled (length files) constants
  pub are_used : AreUsed constants p.texts
  pub are_read : AreReadOf files p.texts
  pub bare : files ≡ [] → p.nodes ≡ []

-- the program of no files
abbrev pub empty_program : Content
empty_program = record {
  files = [];
  config = configuration [];
  sites = record { spelled = []; shadowed = [] };
  texts = [];
  nodes = [];
}

-- the fault of the file of this number: None where it has none or isn't used
abbrev pub fault_of : Content → ℕ → Option RubyError
fault_of p number = fault_by (used_files p) (used_file p number)

-- the tasks of the file of this number: none where it isn't used
abbrev pub tasks_of : Content → ℕ → List Task
tasks_of p number = outcomes.tasks_by (used_files p) (used_file p number)

-- the tree of a text
abbrev pub tree_in : FileText → Option FileTree
tree_in (text.Tree tree) = Some tree
tree_in (text.Fault kind at) = None

-- the tree of a file that is used
abbrev pub tree_by : Option (Option UsedText) → Option FileTree
tree_by None = None
tree_by (Some None) = None
tree_by (Some (Some used)) = tree_in used.text

-- nothing where there is a fault
abbrev pub unless : Option RubyError → Option FileTree → Option FileTree
unless None tree = tree
unless (Some fault) tree = None

-- the tree of the file of this number, where it is used and not at fault
abbrev pub tree_of : Content → ℕ → Option FileTree
tree_of p number = unless (fault_of p number) (tree_by (slice_get p.texts number))

-- what runs over the files look up
abbrev pub index_in : Content → Index
index_in p = index_of (used_files p) (controller_of p.config)

-- what the nodes of all bodies of methods and assigned expressions stand for
abbrev pub nodes_in : Content → List Entry
nodes_in p = p.nodes
