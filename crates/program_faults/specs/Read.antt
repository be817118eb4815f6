-- Files that were read, as contracts see them.
use Rattle.std.specs.Prelude.{◌&&◌, List, [], ◌∷◌, map, Option, Some, None, find}
use Rattle.std.specs.List.{list_any, flat_map}
use Rattle.ruby_types.specs.declared.request.RubyError.{RubyError}
use Rattle.program_places.specs.Paths.{Path}
use Rattle.program_files.specs.Files.{UsedFile, Readable, Unreadable, entries, is_namespace}
use Rattle.program_files.specs.Files as files
use Rattle.program_files.specs.Faults.{Kind, a_module, a_class, a_value, kind_in, or_fault, undefined_by, more_than}
use Rattle.program_files.specs.Faults.{is_outside, no_module, is_value, own_file, inner_site, other_keyword}
use Rattle.program_files.specs.Faults.{opens_otherwise}
use Rattle.program_entries.specs.Seen.{seen_all}
use Rattle.program_faults.specs.declared.read.ReadFile.{ReadFile}
use Rattle.program_faults.specs.declared.read.Reading.{Reading}
use Rattle.program_faults.specs.declared.read.Reading.TheVariants as read
use Rattle.program_faults.specs.declared.own.OwnKind.{OwnKind}
use Rattle.program_faults.specs.declared.own.OwnKind.TheVariants as own

-- what a text was read as
abbrev pub seen_reading : Reading → files.Reading
seen_reading (read.Entries es) = Readable (seen_all es.items)
seen_reading (read.Fault kind at) = Unreadable kind.now at

-- a file that was read, without references
abbrev pub used : ReadFile → UsedFile
used f = record { path = f.path.now; constant = f.constant.now; reading = seen_reading f.reading }

-- the file that stands at a place, if one that is used does
abbrev pub present : Option ReadFile → List UsedFile
present None = []
present (Some f) = used f ∷ []

-- the files that are used, among all
abbrev pub used_all : List (Option ReadFile) → List UsedFile
used_all fs = flat_map present fs

-- the constants that files spell, in the order of the files
abbrev pub constants_of : List UsedFile → List Path
constants_of fs = map (λ f. f.constant) fs

-- how a text defines a constant, apart from the expression
abbrev pub own_kind : Option Kind → OwnKind
own_kind None = own.Missing
own_kind (Some a_module) = own.Module
own_kind (Some a_class) = own.Class
own_kind (Some (a_value x scopes)) = own.Value

-- how the text of a file defines the constant that its path spells
abbrev pub own_of : UsedFile → OwnKind
own_of f = own_kind (kind_in (entries f) f.constant)

-- the first fault of a file that defines its constant and nothing outside of it
abbrev pub place_fault : List UsedFile → UsedFile → Option RubyError
place_fault all f =
    or_fault (no_module f (is_value (kind_in (entries f) f.constant) && is_namespace all f.constant))
    (or_fault (own_file f (inner_site all f))
    (other_keyword f (find (opens_otherwise all f) (entries f))))

-- the first fault of a file that parses
abbrev pub text_fault : List UsedFile → UsedFile → Option RubyError
text_fault all f =
    or_fault (undefined_by f (kind_in (entries f) f.constant))
    (or_fault (more_than f (list_any (is_outside f.constant) (entries f)))
    (place_fault all f))
