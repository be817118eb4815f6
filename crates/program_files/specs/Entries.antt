-- The definitions of a tree in text order, each with the place where it stands.
use Rattle.std.specs.Prelude.{Bool, true, false, List, [], ◌∷◌, ◌++◌, map, Option, None}
use Rattle.ruby_types.specs.declared.tree.ConstRef.{ConstRef}
use Rattle.ruby_types.specs.declared.tree.Expr.{Expr}
use Rattle.ruby_types.specs.declared.tree.Stmt.{Stmt}
use Rattle.ruby_types.specs.declared.tree.Def.{Def, fold-Def}
use Rattle.ruby_types.specs.declared.tree.Def.TheOpen.{Def-F}
use Rattle.ruby_types.specs.declared.tree.Def.TheOpen as d
use Rattle.program_places.specs.Paths.{Name, Path}

pub data What : Type 0 where
  Opens : (is_class : Bool) → (parent : Option ConstRef) → What
  Assigns : Expr → What
  Defines : (single : Bool) → Name → (params : List Name) → List Stmt → What
  Includes : ConstRef → What
  Readers : List Name → What

-- What is written, with the constant that it opens or assigns, or else whose body it stands in; and the scopes around
-- it,
-- innermost first: of an opening those around the body, of a member the body's too.
pub record Entry : Type 0 where
  pub constant : Path
  pub scopes : List Path
  pub what : What

-- The entries of a definition inside the body of a constant, in these scopes.
abbrev pub Walk : Type 0
Walk = Path → List Path → List Entry

-- what is written inside this constant, in these scopes
abbrev pub entry : Path → List Path → What → Entry
entry constant scopes what = record { constant = constant; scopes = scopes; what = what }

-- the entries of definitions that stand one after another
abbrev pub all_entries : List Walk → Walk
all_entries [] around scopes = []
all_entries (walk ∷ walks) around scopes = walk around scopes ++ all_entries walks around scopes

-- The body of an opening is one scope, however many names its path has.
abbrev pub opened : Path → List Path → What → List Walk → List Entry
opened path scopes what body = entry path scopes what ∷ all_entries body path (path ∷ scopes)

-- the entries of a definition, given the walks of its body
abbrev pub entry_step : Def-F Walk → Walk
entry_step (d.Module path body) around scopes = opened (around ++ path) scopes (Opens false None) body
entry_step (d.Class path parent body) around scopes = opened (around ++ path) scopes (Opens true parent) body
entry_step (d.Assign name value) around scopes = entry (around ++ name ∷ []) scopes (Assigns value) ∷ []
entry_step (d.Method single name params body) around scopes = entry around scopes (Defines single name params body) ∷ []
entry_step (d.Include constant) around scopes = entry around scopes (Includes constant) ∷ []
entry_step (d.Readers names) around scopes = entry around scopes (Readers names) ∷ []

-- the entries of one definition
abbrev pub entries_of : Def → Walk
entries_of = fold-Def Walk entry_step

-- The entries of a whole file.
abbrev pub file_entries : List Def → List Entry
file_entries defs = all_entries (map entries_of defs) [] []
