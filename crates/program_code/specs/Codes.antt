-- The code of what files say of constants.
use Rattle.std.specs.Prelude.{◌≡◌, ℕ, List, [], ◌∷◌, ◌++◌, map, Option, Some, None, slice_get, ⊤}
use Rattle.std.specs.List.{flat_map}
use Rattle.ruby_types.specs.declared.request.Task.{Task}
use Rattle.ruby_types.specs.declared.request.Task.TheVariants as task
use Rattle.program_places.specs.Paths.{Path}
use Rattle.program_places.specs.Places.{Content, Faulty, Assigned, Opened, Opening}
use Rattle.program_files.specs.Files.{UsedFile}
use Rattle.program_files.specs.Faults.{Kind, file_fault}
use Rattle.program_files.specs.Tasks.{file_tasks}
use Rattle.program_files.specs.Entries as plain
use Rattle.program_owners.specs.declared.owned.Owned.{Owned}
use Rattle.program_used.specs.Texts.{reading_in}
use Rattle.program_used.specs.declared.used.UsedText.{UsedText}
use Rattle.program_outcomes.specs.Outcomes.{listed}
use Rattle.program_tables.specs.Said.{Says}
use Rattle.ruby_nodes.specs.Entries.{Entry, Stands, an_expr}
use Rattle.program_lookups.specs.Codes.{Opens}
use Rattle.program_code.specs.declared.content.ContentCode.{ContentCode}
use Rattle.program_code.specs.declared.content.ContentCode.TheVariants as code
use Rattle.program_code.specs.declared.opened.OpenedCode.{OpenedCode}
use Rattle.program_code.specs.Groups.{content_by, first_kind}
use Rattle.program_methods.specs.Methods.{AreFoundOf}

-- the code of a module or class
pub record IsOpenedOf (known : List Entry) (code : OpenedCode) (opening : Opening) : Type 0 where
  pub opens : Opens code.opening opening
  pub singles : AreFoundOf known code.singles opening.singles
  pub instances : AreFoundOf known code.instances opening.instances

-- the code of what a file says
abbrev pub IsContentOf : List Entry → ContentCode → Content → Type 0
IsContentOf known code.Faulty (Faulty error) = ⊤
IsContentOf known (code.Assigned first around) (Assigned value scopes) =
    Stands known first (an_expr value) × (around ≡ scopes)
IsContentOf known (code.Opened opened) (Opened opening) = IsOpenedOf known opened opening
IsContentOf known code content = ⊥

-- the code of what these entries say of their constant, which is first defined so
abbrev pub IsContentSo : List Entry → UsedFile → List plain.Entry → Option Kind → ContentCode → Type 0
IsContentSo known file es kind code =
    (content : Content) × (content_by file es kind ≡ Some content) × IsContentOf known code content

-- the code of what the entries of a constant say of it
abbrev pub IsContentBy : List Entry → UsedFile → List plain.Entry → ContentCode → Type 0
IsContentBy known file es code = IsContentSo known file es (first_kind es) code

-- the code of what groups of entries say, one after another
abbrev pub AreContentsBy : List Entry → UsedFile → List (List plain.Entry) → List ContentCode → Type 0
AreContentsBy known file [] [] = ⊤
AreContentsBy known file (es ∷ groups) (code ∷ codes) =
    IsContentBy known file es code × AreContentsBy known file groups codes
AreContentsBy known file groups codes = ⊥

-- the code of what these groups say is added at the end
pub record AddsContents (known : List Entry) (file : UsedFile) (old new : List ContentCode)
    (groups : List (List plain.Entry)) : Type 0 where
  pub added : List ContentCode
  pub is : new ≡ old ++ added
  pub code : AreContentsBy known file groups added

-- the code of what a file says of a path
abbrev pub IsSaidOf : List UsedFile → List Entry → UsedFile → Path → ContentCode → Type 0
IsSaidOf all known file path code =
    (content : Content) × Says file path content (file_fault all file) × IsContentOf known code content

-- the code of what a file says of paths, one after another
abbrev pub AreSaidOf : List UsedFile → List Entry → UsedFile → List Path → List ContentCode → Type 0
AreSaidOf all known file [] [] = ⊤
AreSaidOf all known file (path ∷ paths) (code ∷ codes) =
    IsSaidOf all known file path code × AreSaidOf all known file paths codes
AreSaidOf all known file paths codes = ⊥

-- the code of what a file says of these paths is added at the end
pub record AddsSaid (all : List UsedFile) (known : List Entry) (file : UsedFile) (old new : List ContentCode)
    (paths : List Path) : Type 0 where
  pub added : List ContentCode
  pub is : new ≡ old ++ added
  pub code : AreSaidOf all known file paths added

-- the constant of a task
abbrev pub task_path : Task → List Path
task_path (task.File file) = []
task_path (task.Const path) = path ∷ []
task_path (task.Ancestors path) = []
task_path (task.Request request) = []

-- the constants of tasks
abbrev pub task_paths : List Task → List Path
task_paths tasks = flat_map task_path tasks

-- for each of these constants that the file is at fault
abbrev pub faulty_codes : List Path → List ContentCode
faulty_codes paths = map (λ p. code.Faulty) paths

-- a file with this path and text
abbrev pub used_of : List ℕ → UsedText → UsedFile
used_of path used = record { path = path; constant = used.constant; reading = reading_in used.text }

-- the code of what a file says of the constants of its tasks is added at the end, and nothing for one that isn't used
abbrev pub AddsRow : List UsedFile → List Entry → Option UsedFile → (old new : List ContentCode) → Type 0
AddsRow all known None old new = new ≡ old
AddsRow all known (Some file) old new = AddsSaid all known file old new (task_paths (file_tasks all file))

-- the code of a row: of what the file of its number says of its constant
abbrev pub IsCodeOf : List (Option UsedFile) → List Entry → Owned → ContentCode → Type 0
IsCodeOf files known row code = (file : UsedFile) × (slice_get files row.file ≡ Some (Some file))
    × IsSaidOf (listed files) known file row.path code

-- the code of rows, one after another
abbrev pub AreCodesOf : List (Option UsedFile) → List Entry → List Owned → List ContentCode → Type 0
AreCodesOf files known [] [] = ⊤
AreCodesOf files known (row ∷ rows) (code ∷ codes) =
    IsCodeOf files known row code × AreCodesOf files known rows codes
AreCodesOf files known rows codes = ⊥
