-- What each kind of definition writes.
use Rattle.std.proofs.Common.{◌≡◌, Bool, true, false, List, [], ◌∷◌, ◌++◌, map, flat_map, Option, None, refl, ap, ◌∙◌}
use Rattle.ruby_types.specs.declared.tree.ConstRef.{ConstRef}
use Rattle.ruby_types.specs.declared.tree.Expr.{Expr}
use Rattle.ruby_types.specs.declared.tree.Stmt.{Stmt}
use Rattle.ruby_types.specs.declared.tree.Def.{Def}
use Rattle.ruby_types.specs.declared.tree.Def.TheVariants as def
use Rattle.program_places.specs.Paths.{Name, Path}
use Rattle.program_files.specs.Entries.{Opens, Assigns, Defines, Includes, Readers, entry, all_entries, entries_of}
use Rattle.program_files.specs.Entries.{file_entries}
use Rattle.program_files.proofs.Entries.{of-Module, of-Class, of-Assign, of-Method, of-Include, of-Readers}
use Rattle.program_entries.specs.Seen.{written_by}

-- entries of definitions that stand one after another are what these write
pub all_written : (ds : List Def) (around : Path) (scopes : List Path) →
    all_entries (map entries_of ds) around scopes ≡ written_by ds around scopes
all_written [] around scopes = refl
all_written (d ∷ ds) around scopes = ap (λ es. entries_of d around scopes ++ es) (all_written ds around scopes)

module _ (around : Path) (scopes : List Path) where
  -- a module writes its opening and what its body writes
  pub module_writes : (path : Path) (body : List Def) → entries_of (def.Module path body) around scopes
      ≡ entry (around ++ path) scopes (Opens false None)
      ∷ written_by body (around ++ path) ((around ++ path) ∷ scopes)
  module_writes path body =
      ap (λ w. w around scopes) (of-Module path body)
      ∙ ap (λ es. entry (around ++ path) scopes (Opens false None) ∷ es)
      (all_written body (around ++ path) ((around ++ path) ∷ scopes))

  -- a class writes its opening and what its body writes
  pub class_writes : (path : Path) (parent : Option ConstRef) (body : List Def) →
      entries_of (def.Class path parent body) around scopes
      ≡ entry (around ++ path) scopes (Opens true parent)
      ∷ written_by body (around ++ path) ((around ++ path) ∷ scopes)
  class_writes path parent body =
      ap (λ w. w around scopes) (of-Class path parent body)
      ∙ ap (λ es. entry (around ++ path) scopes (Opens true parent) ∷ es)
      (all_written body (around ++ path) ((around ++ path) ∷ scopes))

  -- an assignment writes one entry
  pub assignment_writes : (name : Name) (value : Expr) → entries_of (def.Assign name value) around scopes
      ≡ entry (around ++ name ∷ []) scopes (Assigns value) ∷ []
  assignment_writes name value = ap (λ w. w around scopes) (of-Assign name value)

  -- a method writes one entry
  pub method_writes : (single : Bool) (name : Name) (params : List Name) (body : List Stmt) →
      entries_of (def.Method single name params body) around scopes
      ≡ entry around scopes (Defines single name params body) ∷ []
  method_writes single name params body = ap (λ w. w around scopes) (of-Method single name params body)

  -- an include writes one entry
  pub include_writes : (constant : ConstRef) → entries_of (def.Include constant) around scopes
      ≡ entry around scopes (Includes constant) ∷ []
  include_writes constant = ap (λ w. w around scopes) (of-Include constant)

  -- readers write one entry
  pub readers_write : (names : List Name) → entries_of (def.Readers names) around scopes
      ≡ entry around scopes (Readers names) ∷ []
  readers_write names = ap (λ w. w around scopes) (of-Readers names)

-- the entries of a file are what its definitions write outside of any scope
pub file_writes : (ds : List Def) → file_entries ds ≡ written_by ds [] []
file_writes ds = all_written ds [] []
