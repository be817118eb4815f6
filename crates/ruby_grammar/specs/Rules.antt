-- The rules of the grammar, each with the sort of its value. `levels` is how many levels may still open.
use Rattle.std.specs.Prelude.{ℕ, Bool, List, Option}
use Rattle.ruby_types.specs.declared.tree.FileTree.{FileTree}
use Rattle.ruby_types.specs.declared.tree.Def.{Def}
use Rattle.ruby_types.specs.declared.tree.Stmt.{Stmt}
use Rattle.ruby_types.specs.declared.tree.Expr.{Expr}
use Rattle.ruby_types.specs.declared.tree.Part.{Part}
use Rattle.ruby_types.specs.declared.tree.ConstRef.{ConstRef}
use Rattle.descent.specs.Grammar.{Signs}
use Rattle.ruby_grammar.specs.Words.{Word}
use Rattle.ruby_grammar.specs.Terminals.{Level}
use Rattle.ruby_grammar.specs.Marks.{Mark, Act}

-- a name's bytes
abbrev pub Name : Type 0
Name = List ℕ

-- the names of a constant's path, the outermost first; the top of a file has none
abbrev pub Path : Type 0
Path = List Name

-- A statement, and the local variables that are known behind it.
pub record Known : Type 0 where
  pub stmt : Stmt
  pub names : List Name

-- Statements, the local variables that are known behind them, and whether the last one has its Line (or there is none).
pub record Block : Type 0 where
  pub stmts : List Stmt
  pub names : List Name
  pub closed : Bool

-- What stands around a definition: levels, whether `@x =` may stand in any method, and the path of the body.
pub record Body : Type 0 where
  pub levels : ℕ
  pub anywhere : Bool
  pub path : Path

-- What stands around a statement: levels, whether `@x =` may stand, and the local variables that are known.
pub record Around : Type 0 where
  pub levels : ℕ
  pub sets : Bool
  pub names : List Name

-- What stands around an expression.
pub record Scope : Type 0 where
  pub levels : ℕ
  pub names : List Name

-- the name of a method, and whether `self.` stands before it
pub record Heading : Type 0 where
  pub single : Bool
  pub name : Name

-- A module or class that is opened: the path around it, what its keyword does to its own path, and the place of its
-- name.
pub record PathOpening : Type 0 where
  pub outer : Path
  pub act : Act
  pub at : ℕ

pub data Sort : Type 0 where
  a_tree : Sort
  some_defs : Sort
  a_def : Sort
  a_heading : Sort
  some_names : Sort
  a_parent : Sort
  a_constant : Sort
  a_block : Sort
  a_statement : Sort
  an_expression : Sort
  perhaps_an_expression : Sort
  some_expressions : Sort
  some_pairs : Sort
  a_pair : Sort
  some_parts : Sort
  no_value : Sort

-- what a rule of this sort gives: a tree, a list of them, or names
abbrev pub Val : Sort → Type 0
Val a_tree = FileTree
Val some_defs = List Def
Val a_def = Def
Val a_heading = Heading
Val some_names = List Name
Val a_parent = Option ConstRef
Val a_constant = ConstRef
Val a_block = Block
Val a_statement = Known
Val an_expression = Expr
Val perhaps_an_expression = Option Expr
Val some_expressions = List Expr
Val some_pairs = List (Expr × Expr)
Val a_pair = Expr × Expr
Val some_parts = List Part
Val no_value = Unit {0}

pub data Rule : Sort → Type 0 where
  -- a whole file, of so many levels; the flag is true where `@x =` may stand in any method
  file : ℕ → Bool → Rule a_tree
  -- definitions, behind those; and what follows a definition: the end, or a Line and perhaps more
  definitions : Body → List Def → Rule some_defs
  more_definitions : Body → List Def → Rule some_defs
  definition : Body → Rule a_def
  -- what follows the first name of a path: the rest of it (where the flag is true), and behind its end the mark, if
  -- there is one
  path_rest : Bool → Option Mark → List Name → Rule some_names
  -- what follows the first name of a path that is opened: the rest of it (where the flag is true), and behind its end
  -- the mark
  opened_path : Bool → PathOpening → List Name → Rule some_names
  -- what follows a class's path: perhaps a parent, and a Line
  parent : Path → ℕ → Rule a_parent
  -- a constant as it is written
  constant : Option Mark → Rule a_constant
  -- the name of a method in the body of this path
  heading : Path → Rule a_heading
  -- what follows a method's name: parameters, perhaps, and a Line
  parameter_list : ℕ → Rule some_names
  parameters : Rule some_names
  more_parameters : List Name → Rule some_names
  more_readers : Path → List Name → Rule some_names
  -- statements, behind those; and what follows a statement
  statements : Around → List Stmt → Rule a_block
  more_statements : Around → List Stmt → Rule a_block
  statement : Around → Rule a_statement
  simple_statement : Around → Rule a_statement
  -- an `if` or `unless` behind a statement, perhaps
  condition_behind : ℕ → Known → Rule a_statement
  -- `then` or a Line
  then_or_line : Rule no_value
  perhaps_line : Rule no_value
  -- what follows these arms, of which the last is a block so; an `elsif` may stand where the first flag is true
  arms_rest : ℕ → Bool → Bool → List (Expr × List Stmt) → Block → Rule a_statement
  perhaps_expression : Scope → Rule perhaps_an_expression
  expression : Scope → Rule an_expression
  -- what follows the condition of a choice, perhaps
  choice_rest : Scope → Expr → Rule an_expression
  -- an expression of operators of this level and tighter ones, and what follows its first operand
  operators : Level → Scope → Rule an_expression
  more_operators : Level → Scope → Expr → Rule an_expression
  unary : Scope → Rule an_expression
  postfix : Scope → Rule an_expression
  more_postfix : Scope → Expr → Rule an_expression
  primary : Scope → Rule an_expression
  -- what follows a name
  name_rest : Scope → Name → Rule an_expression
  -- arguments in parentheses, perhaps
  perhaps_arguments : Scope → Rule some_expressions
  -- expressions with commas between them, behind those, and perhaps a comma behind the last
  members : Scope → List Expr → Rule some_expressions
  more_members : Scope → List Expr → Rule some_expressions
  pairs : Scope → List (Expr × Expr) → Rule some_pairs
  more_pairs : Scope → List (Expr × Expr) → Rule some_pairs
  pair : Scope → Rule a_pair
  -- the parts of a text behind its opening quote; the flag is true of double quotes
  text_parts : Scope → Bool → List Part → Rule some_parts

-- what the grammar speaks of: words of tokens, marks of definitions, and the rules with their values
abbrev pub ruby : Signs
ruby = record { Word = Word; Mark = Mark; Sort = Sort; Val = Val; Rule = Rule }
