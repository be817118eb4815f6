-- What a file without fault says of a constant, and what stands at a path.
use Rattle.std.specs.Prelude.{Bool, true, false, List, [], ◌∷◌, map, Option, Some, None, cond}
use Rattle.std.specs.List.{flat_map}
use Rattle.ruby_types.specs.declared.request.RubyError.{RubyError}
use Rattle.program_places.specs.Paths.{Name, Path, same_path, levels}
use Rattle.program_places.specs.Places.{Body, Statements, Reads, Method, Mention, Opening, Content, Faulty, Assigned}
use Rattle.program_places.specs.Places.{Opened, Place, Missing, Implicit, Owned}
use Rattle.program_files.specs.Entries.{Entry, What, Opens, Assigns, Defines, Includes, Readers}
use Rattle.program_files.specs.Files.{UsedFile, entries, file_of, has_site}
use Rattle.program_files.specs.Faults.{Kind, a_module, a_class, a_value, kind_in, file_fault}

-- The first parent, and the includes in text order.
abbrev pub parent_what : Entry → What → List Mention
parent_what e (Opens is_class None) = []
parent_what e (Opens is_class (Some parent)) = record { constant = parent; scopes = e.scopes } ∷ []
parent_what e (Assigns value) = []
parent_what e (Defines single name params body) = []
parent_what e (Includes constant) = []
parent_what e (Readers names) = []

-- the constant behind `include`, if this is written
abbrev pub include_what : Entry → What → List Mention
include_what e (Opens is_class parent) = []
include_what e (Assigns value) = []
include_what e (Defines single name params body) = []
include_what e (Includes constant) = record { constant = constant; scopes = e.scopes } ∷ []
include_what e (Readers names) = []

-- a method as a file writes it, in the scopes of its entry
abbrev pub method_by : UsedFile → Entry → Name → List Name → Body → Method
method_by file e name params body = record {
  name = name;
  params = params;
  body = body;
  scopes = e.scopes;
  file =
      file.path;
}

-- the method that `def self.name` writes, if this is written
abbrev pub single_what : UsedFile → Entry → What → List Method
single_what file e (Opens is_class parent) = []
single_what file e (Assigns value) = []
single_what file e (Defines true name params body) = method_by file e name params (Statements body) ∷ []
single_what file e (Defines false name params body) = []
single_what file e (Includes constant) = []
single_what file e (Readers names) = []

-- the methods that `def name` or `attr_reader` writes, if this is written
abbrev pub instance_what : UsedFile → Entry → What → List Method
instance_what file e (Opens is_class parent) = []
instance_what file e (Assigns value) = []
instance_what file e (Defines true name params body) = []
instance_what file e (Defines false name params body) = method_by file e name params (Statements body) ∷ []
instance_what file e (Includes constant) = []
instance_what file e (Readers names) = map (λ name. method_by file e name [] (Reads name)) names

-- what the entries of a constant give
abbrev pub gathered : {A : Type 0} → (Entry → What → List A) → List Entry → Path → List A
gathered f es path = flat_map (λ e. cond (same_path e.constant path) (f e e.what) []) es

-- the first of the parents: a class that is opened twice may have its parent at either opening
abbrev pub first_mention : List Mention → Option Mention
first_mention [] = None
first_mention (mention ∷ more) = Some mention

-- a class or module as the file's entries make it
abbrev pub opening_of : UsedFile → (is_class : Bool) → Path → Opening
opening_of file is_class path = record {
  is_class = is_class;
  parent = first_mention (gathered parent_what (entries file) path);
  includes = gathered include_what (entries file) path;
  singles = gathered (single_what file) (entries file) path;
  instances = gathered (instance_what file) (entries file) path;
}

-- what a file says of a constant that it defines so
abbrev pub content_by : UsedFile → Path → Option Kind → Option Content
content_by file path None = None
content_by file path (Some a_module) = Some (Opened (opening_of file false path))
content_by file path (Some a_class) = Some (Opened (opening_of file true path))
content_by file path (Some (a_value x scopes)) = Some (Assigned x scopes)

-- What a file without fault says of a constant, if it opens or assigns it.
abbrev pub content_in : UsedFile → Path → Option Content
content_in file path = content_by file path (kind_in (entries file) path)

-- the place where the file says this, if anything
abbrev pub owned_by : UsedFile → Option Content → Place
owned_by file None = Missing
owned_by file (Some content) = Owned file.path content

-- What the file of a path puts there: its fault, or what it says.
abbrev pub own_place : UsedFile → Path → Option RubyError → Place
own_place file path (Some error) = Owned file.path (Faulty error)
own_place file path None = owned_by file (content_in file path)

-- What a file puts at a path inside its constant: nothing where it is at fault.
abbrev pub inner_place : UsedFile → Path → Option RubyError → Place
inner_place file path (Some error) = Missing
inner_place file path None = owned_by file (content_in file path)

-- The file of the nearest of these paths that has one; they go inwards.
abbrev pub or_file : Option UsedFile → Option UsedFile → Option UsedFile
or_file None other = other
or_file (Some file) other = Some file

-- the file of the last of these paths that has one
abbrev pub nearest : List UsedFile → List Path → Option UsedFile
nearest files [] = None
nearest files (path ∷ paths) = or_file (nearest files paths) (file_of files path)

-- what the nearest file above a path puts there, if there is such a file
abbrev pub around_place : List UsedFile → Path → Option UsedFile → Place
around_place files path None = Missing
around_place files path (Some file) = inner_place file path (file_fault files file)

-- what stands at a path that has no file
abbrev pub bare_place : List UsedFile → Path → (site : Bool) → Place
bare_place files path true = Implicit
bare_place files path false = around_place files path (nearest files (levels path))

-- what stands at a path that has this file, or none
abbrev pub place_by : List UsedFile → Path → Option UsedFile → Place
place_by files path (Some file) = own_place file path (file_fault files file)
place_by files path None = bare_place files path (has_site files path)

-- What stands at a path: what its file says; where it has none, a namespace; else what the nearest file above says of
-- it.
abbrev pub place_of : List UsedFile → Path → Place
place_of files path = place_by files path (file_of files path)
