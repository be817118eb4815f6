-- The trees that the nodes of a table stand for.
use Rattle.std.specs.Prelude.{◌≡◌, ℕ, suc, ◌<◌, Some, None, List, [], ◌∷◌, ◌++◌, length, slice_index_or}
use Rattle.ruby_types.specs.declared.tree.Expr.{Expr}
use Rattle.ruby_types.specs.declared.tree.Expr.TheVariants as expr
use Rattle.ruby_types.specs.declared.tree.Part.{Part}
use Rattle.ruby_types.specs.declared.tree.Part.TheVariants as part
use Rattle.ruby_types.specs.declared.tree.Stmt.{Stmt}
use Rattle.ruby_types.specs.declared.tree.Stmt.TheVariants as stmt
use Rattle.ruby_nodes.specs.declared.table.Node.{Node}
use Rattle.ruby_nodes.specs.declared.table.Node.TheVariants as node

-- What a node stands for: an expression, or the members of a list from one on. All but one of these are empty.
pub record Entry : Type 0 where
  pub expr : Expr
  pub items : List Expr
  pub pairs : List (Expr × Expr)
  pub parts : List Part
  pub body : List Stmt
  pub arms : List (Expr × List Stmt)

-- what the end of a list stands for, and a number that no node has
abbrev pub no_entry : Entry
no_entry = record { expr = expr.Nil; items = []; pairs = []; parts = []; body = []; arms = [] }

-- the entry of an expression
abbrev pub an_expr : Expr → Entry
an_expr e = record { expr = e; items = []; pairs = []; parts = []; body = []; arms = [] }

-- the entry of items or arguments
abbrev pub items_entry : List Expr → Entry
items_entry es = record { expr = expr.Nil; items = es; pairs = []; parts = []; body = []; arms = [] }

-- the entry of the pairs of a hash
abbrev pub pairs_entry : List (Expr × Expr) → Entry
pairs_entry ps = record { expr = expr.Nil; items = []; pairs = ps; parts = []; body = []; arms = [] }

-- the entry of the pieces of a text
abbrev pub parts_entry : List Part → Entry
parts_entry ps = record { expr = expr.Nil; items = []; pairs = []; parts = ps; body = []; arms = [] }

-- the entry of statements
abbrev pub body_entry : List Stmt → Entry
body_entry ss = record { expr = expr.Nil; items = []; pairs = []; parts = []; body = ss; arms = [] }

-- the entry of the arms of an `if`
abbrev pub arms_entry : List (Expr × List Stmt) → Entry
arms_entry xs = record { expr = expr.Nil; items = []; pairs = []; parts = []; body = []; arms = xs }

-- what the node of this number stands for
abbrev pub entry_at : List Entry → ℕ → Entry
entry_at known at = slice_index_or known at no_entry

-- A node over what its children stand for: `And 3 5` is the And of what 3 and 5 are.
abbrev pub entry_of : List Entry → Node → Entry
entry_of known node.Nil = an_expr expr.Nil
entry_of known node.True = an_expr expr.True
entry_of known node.False = an_expr expr.False
entry_of known node.SelfRef = an_expr expr.SelfRef
entry_of known (node.Int n) = an_expr (expr.Int n)
entry_of known (node.Str first) = an_expr (expr.Str (entry_at known first).parts)
entry_of known (node.Sym name) = an_expr (expr.Sym name)
entry_of known (node.Local name) = an_expr (expr.Local name)
entry_of known (node.Ivar name) = an_expr (expr.Ivar name)
entry_of known (node.Const constant) = an_expr (expr.Const constant)
entry_of known (node.Array first) = an_expr (expr.Array (entry_at known first).items)
entry_of known (node.Hash first) = an_expr (expr.Hash (entry_at known first).pairs)
entry_of known (node.OwnCall name first) = an_expr (expr.Call None name (entry_at known first).items)
entry_of known (node.Call on name first) =
    an_expr (expr.Call (Some (entry_at known on).expr) name (entry_at known first).items)
entry_of known (node.Not a) = an_expr (expr.Not (entry_at known a).expr)
entry_of known (node.And a b) = an_expr (expr.And (entry_at known a).expr (entry_at known b).expr)
entry_of known (node.Or a b) = an_expr (expr.Or (entry_at known a).expr (entry_at known b).expr)
entry_of known (node.Choose a b c) =
    an_expr (expr.Choose (entry_at known a).expr (entry_at known b).expr (entry_at known c).expr)
entry_of known (node.Item e next) = items_entry ((entry_at known e).expr ∷ (entry_at known next).items)
entry_of known (node.Pair k v next) =
    pairs_entry (((entry_at known k).expr, (entry_at known v).expr) ∷ (entry_at known next).pairs)
entry_of known (node.Plain bytes next) = parts_entry (part.Plain bytes ∷ (entry_at known next).parts)
entry_of known (node.Inside e next) = parts_entry (part.Inside (entry_at known e).expr ∷ (entry_at known next).parts)
entry_of known (node.Expr e next) = body_entry (stmt.Expr (entry_at known e).expr ∷ (entry_at known next).body)
entry_of known (node.Set name e next) =
    body_entry (stmt.Set name (entry_at known e).expr ∷ (entry_at known next).body)
entry_of known (node.SetIvar name e next) =
    body_entry (stmt.SetIvar name (entry_at known e).expr ∷ (entry_at known next).body)
entry_of known (node.Return e next) =
    body_entry (stmt.Return (Some (entry_at known e).expr) ∷ (entry_at known next).body)
entry_of known (node.ReturnNil next) = body_entry (stmt.Return None ∷ (entry_at known next).body)
entry_of known (node.Raise e next) = body_entry (stmt.Raise (entry_at known e).expr ∷ (entry_at known next).body)
entry_of known (node.If arms other after next) =
    body_entry (stmt.If (entry_at known arms).arms (entry_at known other).body after ∷ (entry_at known next).body)
entry_of known (node.Arm test body next) =
    arms_entry (((entry_at known test).expr, (entry_at known body).body) ∷ (entry_at known next).arms)
entry_of known node.End = no_entry

-- what nodes stand for that follow known ones
abbrev pub entries_from : List Entry → List Node → List Entry
entries_from known [] = known
entries_from known (n ∷ more) = entries_from (known ++ entry_of known n ∷ []) more

-- what the nodes of a table stand for
abbrev pub entries : List Node → List Entry
entries = entries_from []

-- the children of a node have numbers below this one
abbrev pub Below : ℕ → Node → Type 0
Below k (node.Str first) = first < k
Below k (node.Array first) = first < k
Below k (node.Hash first) = first < k
Below k (node.OwnCall name first) = first < k
Below k (node.Call on name first) = (on < k) × (first < k)
Below k (node.Not a) = a < k
Below k (node.And a b) = (a < k) × (b < k)
Below k (node.Or a b) = (a < k) × (b < k)
Below k (node.Choose a b c) = (a < k) × (b < k) × (c < k)
Below k (node.Item e next) = (e < k) × (next < k)
Below k (node.Pair key value next) = (key < k) × (value < k) × (next < k)
Below k (node.Plain bytes next) = next < k
Below k (node.Inside e next) = (e < k) × (next < k)
Below k (node.Expr e next) = (e < k) × (next < k)
Below k (node.Set name e next) = (e < k) × (next < k)
Below k (node.SetIvar name e next) = (e < k) × (next < k)
Below k (node.Return e next) = (e < k) × (next < k)
Below k (node.ReturnNil next) = next < k
Below k (node.Raise e next) = (e < k) × (next < k)
Below k (node.If arms other after next) = (arms < k) × (other < k) × (next < k)
Below k (node.Arm test body next) = (test < k) × (body < k) × (next < k)
Below k _ = Unit {0}

-- the children of each node stand before it
abbrev pub BelowAll : ℕ → List Node → Type 0
BelowAll k [] = Unit {0}
BelowAll k (n ∷ more) = Below k n × BelowAll (suc k) more

-- the later table has all of the earlier, at its beginning
pub record Extends (known more : List Entry) : Type 0 where
  pub rest : List Entry
  pub is : more ≡ known ++ rest

-- the node of this number is there, and stands for this
pub record Stands (known : List Entry) (at : ℕ) (entry : Entry) : Type 0 where
  pub within : at < length known
  pub is : entry_at known at ≡ entry

-- there is a node of this number
abbrev pub IsThere : List Entry → ℕ → Type 0
IsThere known at = at < length known

-- a piece, and those from a node on
abbrev pub part_before : List Entry → Part → ℕ → Entry
part_before known part next = parts_entry (part ∷ (entry_at known next).parts)

-- a statement, and those from a node on
abbrev pub stmt_before : List Entry → Stmt → ℕ → Entry
stmt_before known stmt next = body_entry (stmt ∷ (entry_at known next).body)

-- an arm, and those from a node on
abbrev pub arm_before : List Entry → Expr → List Stmt → ℕ → Entry
arm_before known test body next = arms_entry ((test, body) ∷ (entry_at known next).arms)
