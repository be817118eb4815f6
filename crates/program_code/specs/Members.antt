-- Methods as files write them.
use Rattle.std.specs.Prelude.{ℕ, Bool, true, false, List, [], ◌∷◌}
use Rattle.ruby_types.specs.declared.tree.Stmt.{Stmt}
use Rattle.program_places.specs.Paths.{Name, Path}
use Rattle.program_places.specs.Places.{Method, Reads, Statements}

-- a method with these statements
abbrev pub statements_of : (file : List ℕ) → (scopes : List Path) → Name → (params : List Name) → List Stmt → Method
statements_of file scopes name params body =
    record { name = name; params = params; body = Statements body; scopes = scopes; file = file }

-- a method that reads an instance variable
abbrev pub reader_of : (file : List ℕ) → (scopes : List Path) → Name → Method
reader_of file scopes name = record { name = name; params = []; body = Reads name; scopes = scopes; file = file }

-- the method, if it is wanted
abbrev pub if_wanted : (wanted : Bool) → Method → List Method
if_wanted true method = method ∷ []
if_wanted false method = []
