-- The trees of the first form: a class without a parent that has one singleton method with one parameter, whose body
-- is one plain text.
use Rattle.std.specs.Prelude.{ℕ, true, List, [], ◌∷◌, None}
use Rattle.ruby_types.specs.declared.tree.Def.{Def}
use Rattle.ruby_types.specs.declared.tree.Def.TheVariants as def
use Rattle.ruby_types.specs.declared.tree.Expr.TheVariants as expr
use Rattle.ruby_types.specs.declared.tree.FileTree.{FileTree}
use Rattle.ruby_types.specs.declared.tree.Part.{Part}
use Rattle.ruby_types.specs.declared.tree.Part.TheVariants as part
use Rattle.ruby_types.specs.declared.tree.Stmt.{Stmt}
use Rattle.ruby_types.specs.declared.tree.Stmt.TheVariants as stmt

-- what may differ between two such trees of one class
pub record FirstParts : Type 0 where
  pub name : List ℕ
  pub parameter : List ℕ
  pub text : List ℕ

-- one plain part, and none for the empty text, since no part is empty
abbrev pub text_parts : List ℕ → List Part
text_parts [] = []
text_parts (byte ∷ bytes) = part.Plain (byte ∷ bytes) ∷ []

-- a method's body that is one plain text
abbrev pub text_body : List ℕ → List Stmt
text_body text = stmt.Expr (expr.Str (text_parts text)) ∷ []

-- the method `def self.NAME(PARAMETER)`
abbrev pub first_method : FirstParts → Def
first_method parts = def.Method true parts.name (parts.parameter ∷ []) (text_body parts.text)

-- the class with that one method
abbrev pub first_class : List ℕ → FirstParts → Def
first_class class parts = def.Class (class ∷ []) None (first_method parts ∷ [])

-- the tree of a file that has this class alone
abbrev pub first_tree : List ℕ → FirstParts → FileTree
first_tree class parts = record { defs = first_class class parts ∷ [] }
