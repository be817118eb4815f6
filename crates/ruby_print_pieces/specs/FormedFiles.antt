-- Which definitions and files texts have.
use Rattle.std.specs.Prelude.{◌≡◌, Bool, true, false, ◌&&◌, not, List, [], ◌∷◌, ◌++◌, Some, None, codes, bytes_eq}
use Rattle.ruby_types.specs.declared.tree.ConstRef.{ConstRef}
use Rattle.ruby_types.specs.declared.tree.Expr.{Expr}
use Rattle.ruby_types.specs.declared.tree.Stmt.{Stmt}
use Rattle.ruby_types.specs.declared.tree.Def.{Def}
use Rattle.ruby_types.specs.declared.tree.Def.TheVariants as def
use Rattle.ruby_types.specs.declared.tree.FileTree.{FileTree}
use Rattle.ruby_grammar.specs.Terminals.{has}
use Rattle.ruby_grammar.specs.Marks.{Act, assigns, opens_module, opens_class, gives_parent, defines, Mark, clashes_any}
use Rattle.ruby_grammar.specs.Rules.{Name, Path}
use Rattle.ruby_grammar.specs.Definitions.{at_top, counts}
use Rattle.ruby_print_pieces.specs.Names.{IsSymbolName, IsConstName, IsMethodName, IsVariableName, IsPath}
use Rattle.ruby_print_pieces.specs.Formed.{Formed, IsConstant, one}
use Rattle.ruby_print_pieces.specs.FormedStatements.{FormedStmt, several}

-- what a definition does, wherever it stands
pub record Deed : Type 0 where
  pub path : Path
  pub act : Act

-- What a definition does to a path, as marks tell it.
abbrev pub deed : Path → Act → Deed
deed path act = record { path = path; act = act }

-- as a mark at no place
abbrev pub mark_of : Deed → Mark
mark_of d = counts d.path d.act 0

-- none clashes with one before it, the last of which comes first
abbrev pub Apart : List Mark → List Deed → Type 0
Apart ms [] = Unit {0}
Apart ms (d ∷ ds) = (clashes_any ms (mark_of d) ≡ false) × Apart (mark_of d ∷ ms) ds

-- the path of a definition: of one name inside another definition
abbrev pub IsInner : Bool → List Name → Type 0
IsInner true names = Unit {0}
IsInner false [] = ⊥
IsInner false (n ∷ []) = Unit {0}
IsInner false (n ∷ m ∷ ns) = ⊥

-- A path as definitions have it: inside others it is one name.
abbrev pub FormedPath : Path → List Name → Type 0
FormedPath around names = IsPath names × IsInner (at_top around) names

-- parameters, behind these
abbrev pub FormedParameters : List Name → List Name → Type 0
FormedParameters before [] = Unit {0}
FormedParameters before (n ∷ ns) = IsVariableName n × (has before n ≡ false) × FormedParameters (before ++ n ∷ []) ns

-- readers in the body at a path, and what they do
pub data FormedReaders (path : Path) : List Name → List Deed → Type 0 where
  last_reader : {n : Name} → IsSymbolName n → FormedReaders path (n ∷ []) (deed path (defines false n) ∷ [])
  reader_more : {n : Name} {ns : List Name} {ds : List Deed} → IsSymbolName n → FormedReaders path ns ds →
      FormedReaders path (n ∷ ns) (deed path (defines false n) ∷ ds)

-- an instance variable may be assigned in a method of this name
abbrev pub sets_in : Bool → Name → Bool
sets_in single name = not single && bytes_eq name (codes "initialize")

pub data Form : Type 0 where
  definition : Form
  several_definitions : Form

-- What a recursive type's proofs hold of each of its members.
abbrev pub Held : Form → Type 0
Held definition = Def
Held several_definitions = List Def

-- definitions in the body at a path, and what they do in text order
pub data FormedDef : Path → (f : Form) → Held f → List Deed → Type 0 where
  is_module : {path : Path} {names : List Name} {body : List Def} {ds : List Deed} → FormedPath path names →
      FormedDef (path ++ names) several_definitions body ds →
      FormedDef path definition (def.Module names body) (deed (path ++ names) opens_module ∷ ds)
  is_class : {path : Path} {names : List Name} {body : List Def} {ds : List Deed} → FormedPath path names →
      FormedDef (path ++ names) several_definitions body ds →
      FormedDef path definition (def.Class names None body) (deed (path ++ names) opens_class ∷ ds)
  is_subclass : {path : Path} {names : List Name} {c : ConstRef} {body : List Def} {ds : List Deed} →
      FormedPath path names → IsConstant c → FormedDef (path ++ names) several_definitions body ds →
      FormedDef path definition (def.Class names (Some c) body)
      (deed (path ++ names) opens_class ∷ deed (path ++ names) gives_parent ∷ ds)
  is_assignment : {path : Path} {n : Name} {x : Expr} → IsConstName n → Formed [] one x →
      FormedDef path definition (def.Assign n x) (deed (path ++ n ∷ []) assigns ∷ [])
  is_method : {path : Path} {single : Bool} {n : Name} {params after : List Name} {body : List Stmt} →
      at_top path ≡ false → IsMethodName n → FormedParameters [] params →
      FormedStmt (sets_in single n) several params body after →
      FormedDef path definition (def.Method single n params body) (deed path (defines single n) ∷ [])
  is_include : {path : Path} {c : ConstRef} → at_top path ≡ false → IsConstant c →
      FormedDef path definition (def.Include c) []
  is_readers : {path : Path} {names : List Name} {ds : List Deed} → at_top path ≡ false →
      FormedReaders path names ds → FormedDef path definition (def.Readers names) ds
  no_more : {path : Path} → FormedDef path several_definitions [] []
  one_more : {path : Path} {d : Def} {body : List Def} {ds es : List Deed} → FormedDef path definition d ds →
      FormedDef path several_definitions body es → FormedDef path several_definitions (d ∷ body) (ds ++ es)

-- A tree as texts have it: its names are names, its local variables are known where they stand, and nothing is
-- defined twice.
pub record FormedFile (tree : FileTree) : Type 0 where
  pub deeds : List Deed
  pub formed : FormedDef [] several_definitions tree.defs deeds
  pub apart : Apart [] deeds
