-- What the files of an application put at constant paths.
use Rattle.std.specs.Prelude.{ℕ, Bool, List, Option}
use Rattle.ruby_types.specs.declared.tree.ConstRef.{ConstRef}
use Rattle.ruby_types.specs.declared.tree.Expr.{Expr}
use Rattle.ruby_types.specs.declared.tree.Stmt.{Stmt}
use Rattle.ruby_types.specs.declared.request.RubyError.{RubyError}
use Rattle.ruby_types.specs.declared.request.Task.{Task}
use Rattle.program_places.specs.Paths.{Name, Path}

-- A method's body: its statements, or of a reader the variable that it gives.
pub data Body : Type 0 where
  Statements : List Stmt → Body
  Reads : Name → Body

-- A method, with the lexical scopes of its text, innermost first, and its file.
pub record Method : Type 0 where
  pub name : Name
  pub params : List Name
  pub body : Body
  pub scopes : List Path
  pub file : List ℕ

-- A constant as it stands behind `class X <` or `include`, and the scopes that it is looked up in.
pub record Mention : Type 0 where
  pub constant : ConstRef
  pub scopes : List Path

-- A module or class, as the openings of its file make it.
pub record Opening : Type 0 where
  pub is_class : Bool
  pub parent : Option Mention
  pub includes : List Mention
  pub singles : List Method
  pub instances : List Method

-- What a file says of a constant: nothing but its fault; an expression, in these scopes; or a module or class.
pub data Content : Type 0 where
  Faulty : RubyError → Content
  Assigned : Expr → List Path → Content
  Opened : Opening → Content

-- What stands at a path: nothing; a namespace without a file; or what the file that owns it says.
pub data Place : Type 0 where
  Missing : Place
  Implicit : Place
  Owned : (file : List ℕ) → Content → Place

-- What a run of a file's own task does: no such file; it raises the file's fault; or it asks for these.
pub data Loading : Type 0 where
  Absent : Loading
  Fails : RubyError → Loading
  AsksFor : List Task → Loading

-- All that runs look up. `near f o`: o is f, or the file of an enclosing namespace of f's constant.
-- `controller`: the constant that a request's segments name. `has_file`: a file spells the constant.
pub record Index : Type 0 where
  pub place : Path → Place
  pub loading : (file : List ℕ) → Loading
  pub near : (from to : List ℕ) → Bool
  pub controller : List Name → Path
  pub has_file : Path → Bool
