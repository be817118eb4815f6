-- What is looked up of a program.
use Rattle.std.specs.Prelude.{◌≡◌, ◌⊎◌, ℕ, List, [], map, Option, Some, None, slice_get}
use Rattle.std.specs.Option.{option_map}
use Rattle.program_places.specs.Paths.{Path}
use Rattle.program_places.specs.Places.{Place, Owned, Content as PlaceContent}
use Rattle.program_files.specs.Files.{UsedFile, file_at}
use Rattle.program_files.specs.Faults.{file_fault}
use Rattle.program_files.specs.Contents.{place_of}
use Rattle.program_constants.specs.Constants.{has_site_among}
use Rattle.ruby_types.specs.declared.request.Task.{Task}
use Rattle.program_owners.specs.declared.owned.Owned.{Owned as OwnedRow}
use Rattle.program_resolve.specs.Resolve.{namespace_or_nothing}
use Rattle.program_standing.specs.Tables.{Tables}
use Rattle.program_outcomes.specs.Outcomes.{flat}
use Rattle.program_tables.specs.Asks.{asks_by}
use Rattle.program_lookups.specs.Codes.{opening_of}
use Rattle.program_methods.specs.Methods.{AreFoundOf}
use Rattle.program_tables.specs.Said.{Says}
use Rattle.program_code.specs.Codes.{IsContentOf}
use Rattle.program_code.specs.declared.content.ContentCode.{ContentCode}
use Rattle.program_code.specs.declared.opened.OpenedCode.{OpenedCode}
use Rattle.program_index.specs.Content.{Content, files_of, used_files}
use Rattle.program_index.specs.declared.lookups.Used.{Used}
use Rattle.program_index.specs.declared.lookups.Row.{Row}

-- what stands at a path
abbrev pub place_in : Content → Path → Place
place_in p path = place_of (used_files p) path

-- the file that is used with this path, its number and its text
pub record IsUsedAt (p : Content) (path : List ℕ) (used : Used) : Type 0 where
  pub file : UsedFile
  pub found : file_at (used_files p) path ≡ Some file
  pub at : slice_get (files_of p) used.number ≡ Some (Some file)
  pub constant : file.constant ≡ used.text.now.constant

-- the constant that the used file with this path is the file of
abbrev pub constant_at : Content → (path : List ℕ) → Option Path
constant_at p path = option_map (λ f. f.constant) (file_at (used_files p) path)

-- the file of this number owns the path, and this is the code of what it says of it
pub record IsRow (p : Content) (path : Path) (row : Row) : Type 0 where
  pub file : UsedFile
  pub at : slice_get (files_of p) row.file ≡ Some (Some file)
  pub content : PlaceContent
  pub is : place_in p path ≡ Owned file.path content
  pub says : Says file path content (file_fault (used_files p) file)
  pub code : IsContentOf p.nodes row.code.now content

-- no file owns the path: it is a namespace where the path has a site, and else nothing
abbrev pub IsUnowned : Content → Path → Type 0
IsUnowned p path = place_in p path
    ≡ namespace_or_nothing (has_site_among (map (λ f. f.constant) (used_files p)) path)

-- a file opens a class or module at the path, with these methods
abbrev pub IsOpenedAt : Content → Path → OpenedCode → Type 0
IsOpenedAt p path code = AreFoundOf p.nodes code.singles (opening_of (place_in p path)).singles
    × AreFoundOf p.nodes code.instances (opening_of (place_in p path)).instances

-- no file opens one there: nothing stands there that has methods
abbrev pub OpensNothing : Content → Path → Type 0
OpensNothing p path =
    ((opening_of (place_in p path)).singles ≡ []) × ((opening_of (place_in p path)).instances ≡ [])

-- what loading the file of this number asks for, where it is used and not at fault
abbrev pub asks_of : Content → ℕ → Option (List Task)
asks_of p number = asks_by (used_files p) (flat (slice_get (files_of p) number))

-- the row of owned constants at a place, and its code
abbrev pub HasRow : Tables → List ContentCode → (place : ℕ) → Row → Type 0
HasRow t codes place row = (option_map (λ (o : OwnedRow). o.file) (slice_get t.owned place) ≡ Some row.file)
    × (slice_get codes place ≡ Some row.code.now)

-- there is no such row, or no code
abbrev pub LacksRow : Tables → List ContentCode → (place : ℕ) → Type 0
LacksRow t codes place = (slice_get t.owned place ≡ None) ⊎ (slice_get codes place ≡ None)
