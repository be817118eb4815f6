-- What a file says of a path.
use Rattle.std.specs.Prelude.{◌≡◌, Bool, true, false, Option, Some, None}
use Rattle.ruby_types.specs.declared.request.RubyError.{RubyError}
use Rattle.program_places.specs.Paths.{Path}
use Rattle.program_places.specs.Places.{Content, Faulty, Assigned, Opened}
use Rattle.program_files.specs.Files.{UsedFile}
use Rattle.program_files.specs.Contents.{content_in}

-- what a file says of a path: its fault, of its own constant; without a fault what its text does
abbrev pub Says : UsedFile → Path → Content → Option RubyError → Type 0
Says file path content (Some error) = (content ≡ Faulty error) × (file.constant ≡ path)
Says file path content None = content_in file path ≡ Some content

-- nothing but a fault
abbrev pub is_fault : Content → Bool
is_fault (Faulty error) = true
is_fault (Assigned value scopes) = false
is_fault (Opened opening) = false
