-- The fault of a file: the first of six that applies.
use Rattle.std.specs.Prelude.{ℕ, Bool, true, false, not, ◌&&◌, ◌||◌, List, [], ◌∷◌, ◌++◌, filter, Option, Some, None}
use Rattle.std.specs.Prelude.{find, codes, cond, is_some}
use Rattle.std.specs.Fmt.{decimal}
use Rattle.std.specs.List.{list_any, flat_map}
use Rattle.ruby_types.specs.Paths.{path_text}
use Rattle.ruby_types.specs.declared.tree.Expr.{Expr}
use Rattle.ruby_types.specs.declared.request.ErrorClass.{ErrorClass}
use Rattle.ruby_types.specs.declared.request.ErrorClass.TheVariants as class
use Rattle.ruby_types.specs.declared.request.RubyError.{RubyError}
use Rattle.program_places.specs.Paths.{Path, same_path, begins, levels}
use Rattle.program_files.specs.Entries.{Entry, What, Opens, Assigns, Defines, Includes, Readers}
use Rattle.program_files.specs.Files.{UsedFile, Reading, Readable, Unreadable, entries, file_of, is_above}
use Rattle.program_files.specs.Files.{is_namespace, has_site}

-- How a text defines a constant: by `module`, by `class`, or by an expression, in these scopes.
pub data Kind : Type 0 where
  a_module : Kind
  a_class : Kind
  a_value : Expr → List Path → Kind

-- by `class` or by `module`
abbrev pub opening_kind : Bool → Kind
opening_kind true = a_class
opening_kind false = a_module

-- how this defines its constant, if it does
abbrev pub kind_of_what : List Path → What → Option Kind
kind_of_what scopes (Opens is_class parent) = Some (opening_kind is_class)
kind_of_what scopes (Assigns value) = Some (a_value value scopes)
kind_of_what scopes (Defines single name params body) = None
kind_of_what scopes (Includes constant) = None
kind_of_what scopes (Readers names) = None

-- how an entry defines its constant, if it does
abbrev pub kind_of : Entry → Option Kind
kind_of e = kind_of_what e.scopes e.what

-- the first that is there
abbrev pub or_kind : Option Kind → Option Kind → Option Kind
or_kind None other = other
or_kind (Some kind) other = Some kind

-- How the entries first open or assign a constant.
abbrev pub kind_in : List Entry → Path → Option Kind
kind_in [] path = None
kind_in (e ∷ es) path = cond (same_path e.constant path) (or_kind (kind_of e) (kind_in es path)) (kind_in es path)

-- the first fault that is there
abbrev pub or_fault : Option RubyError → Option RubyError → Option RubyError
or_fault None other = other
or_fault (Some error) other = Some error

-- an error of this class and text, with the file's path
abbrev pub fault : UsedFile → ErrorClass → List ℕ → Option RubyError
fault file class message = Some (record { class = class; message = message; path = file.path })

-- 1. It doesn't parse.
abbrev pub unread : UsedFile → Reading → Option RubyError
unread file (Readable es) = None
unread file (Unreadable kind at) = fault file class.Syntax (kind ++ (codes " at byte " ++ decimal at))

-- 2. It doesn't define its constant.
abbrev pub undefined_by : UsedFile → Option Kind → Option RubyError
undefined_by file None = fault file class.Name (codes "expected file "
    ++ (file.path ++ (codes " to define constant " ++ (path_text file.constant ++ codes ", but didn't"))))
undefined_by file (Some kind) = None

-- 3. It defines anything outside its constant but openings, without a parent, of the enclosing namespaces.
abbrev pub is_plain_opening : What → Bool
is_plain_opening (Opens is_class None) = true
is_plain_opening (Opens is_class (Some parent)) = false
is_plain_opening (Assigns value) = false
is_plain_opening (Defines single name params body) = false
is_plain_opening (Includes constant) = false
is_plain_opening (Readers names) = false

-- the entry opens an enclosing namespace of the constant, without a parent
abbrev pub opens_around : Path → Entry → Bool
opens_around constant e = is_above e.constant constant && is_plain_opening e.what

-- the entry stands outside the constant, and is no plain opening around it
abbrev pub is_outside : Path → Entry → Bool
is_outside constant e = not (begins constant e.constant || opens_around constant e)

-- the third fault, where something stands outside
abbrev pub more_than : UsedFile → Bool → Option RubyError
more_than file true = fault file class.Name (file.path ++ (codes " defines more than " ++ path_text file.constant))
more_than file false = None

-- 4. It assigns its constant though this is a namespace.
abbrev pub is_value : Option Kind → Bool
is_value None = false
is_value (Some a_module) = false
is_value (Some a_class) = false
is_value (Some (a_value x scopes)) = true

-- the fourth fault, where the constant is a value and a namespace
abbrev pub no_module : UsedFile → Bool → Option RubyError
no_module file true = fault file class.Kind (path_text file.constant ++ codes " is not a class or module")
no_module file false = None

-- 5. A constant inside it has a site of its own: one that it defines, or that a path of it passes through.
abbrev pub is_definition : Entry → Bool
is_definition e = is_some (kind_of e)

-- the constants inside the file's own that a definition defines or passes through
abbrev pub levels_inside : Path → Entry → List Path
levels_inside constant e = cond (is_definition e) (filter (is_above constant) (levels e.constant)) []

-- the first constant inside the file's own that has a site, in text order
abbrev pub inner_site : List UsedFile → UsedFile → Option Path
inner_site files file = find (has_site files) (flat_map (levels_inside file.constant) (entries file))

-- the fifth fault, where there is such a constant
abbrev pub own_file : UsedFile → Option Path → Option RubyError
own_file file None = None
own_file file (Some path) = fault file class.Name (path_text path ++ codes " has a file of its own")

-- 6. It opens an enclosing namespace with the other keyword. The text of the namespace's own file decides, and one
-- without a file is a module.
abbrev pub keyword_by : Option UsedFile → Path → Option Kind
keyword_by None path = Some a_module
keyword_by (Some file) path = kind_in (entries file) path

-- this keyword isn't the one of the namespace
abbrev pub clashes : Option Kind → What → Bool
clashes (Some a_module) (Opens true parent) = true
clashes (Some a_class) (Opens false parent) = true
clashes kind what = false

-- the entry opens an enclosing namespace with the other keyword
abbrev pub opens_otherwise : List UsedFile → UsedFile → Entry → Bool
opens_otherwise files file e = opens_around file.constant e && clashes (keyword_by (file_of files e.constant)
    e.constant) e.what

-- the keyword that is written, as it stands in the text of the fault
abbrev pub keyword_text : What → List ℕ
keyword_text (Opens true parent) = codes "class"
keyword_text what = codes "module"

-- the sixth fault, where there is such an entry
abbrev pub other_keyword : UsedFile → Option Entry → Option RubyError
other_keyword file None = None
other_keyword file (Some e) = fault file class.Kind (path_text e.constant
    ++ (codes " is not a " ++ keyword_text e.what))

-- the first fault of a file, among these files
abbrev pub file_fault : List UsedFile → UsedFile → Option RubyError
file_fault files file =
    or_fault (unread file file.reading)
    (or_fault (undefined_by file (kind_in (entries file) file.constant))
    (or_fault (more_than file (list_any (is_outside file.constant) (entries file)))
    (or_fault (no_module file (is_value (kind_in (entries file) file.constant) && is_namespace files file.constant))
    (or_fault (own_file file (inner_site files file))
    (other_keyword file (find (opens_otherwise files file) (entries file)))))))
