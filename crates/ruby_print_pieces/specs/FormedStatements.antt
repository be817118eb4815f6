-- Which statements texts have: with the local variables that are known before them and behind them.
use Rattle.std.specs.Prelude.{◌≡◌, ℕ, Bool, true, false, List, [], ◌∷◌, Some, None}
use Rattle.ruby_types.specs.declared.tree.Expr.{Expr}
use Rattle.ruby_types.specs.declared.tree.Stmt.{Stmt}
use Rattle.ruby_types.specs.declared.tree.Stmt.TheVariants as stmt
use Rattle.ruby_grammar.specs.Rules.{Name}
use Rattle.ruby_print_pieces.specs.Names.{IsPlainName, IsVariableName}
use Rattle.ruby_print_pieces.specs.Formed.{Formed, one}

-- a statement without a condition, any statement, several, and the arms of a block `if`
pub data Form : Type 0 where
  simple : Form
  whole : Form
  several : Form
  branches : Form

-- What a recursive type's proofs hold of each of its members.
abbrev pub Held : Form → Type 0
Held simple = Stmt
Held whole = Stmt
Held several = List Stmt
Held branches = List (Expr × List Stmt)

-- The flag is true where instance variables may be assigned.
pub data FormedStmt (sets : Bool) : (f : Form) → List Name → Held f → List Name → Type 0 where
  evaluates : {names : List Name} {x : Expr} → Formed names one x → FormedStmt sets simple names (stmt.Expr x) names
  assigns : {names : List Name} {n : List ℕ} {x : Expr} → IsVariableName n → Formed (n ∷ names) one x →
      FormedStmt sets simple names (stmt.Set n x) (n ∷ names)
  assigns_ivar : {names : List Name} {n : List ℕ} {x : Expr} → sets ≡ true → IsPlainName n → Formed names one x →
      FormedStmt sets simple names (stmt.SetIvar n x) names
  returns : {names : List Name} → FormedStmt sets simple names (stmt.Return None) names
  returns_value : {names : List Name} {x : Expr} → Formed names one x →
      FormedStmt sets simple names (stmt.Return (Some x)) names
  raises : {names : List Name} {x : Expr} → Formed names one x → FormedStmt sets simple names (stmt.Raise x) names
  plain : {names after : List Name} {s : Stmt} → FormedStmt sets simple names s after →
      FormedStmt sets whole names s after
  conditional : {names after : List Name} {s : Stmt} {x : Expr} → FormedStmt sets simple names s after →
      Formed after one x → FormedStmt sets whole names (stmt.If ((x, s ∷ []) ∷ []) [] true) after
  block : {names mid after : List Name} {as' : List (Expr × List Stmt)} {other : List Stmt} →
      FormedStmt sets branches names as' mid → FormedStmt sets several mid other after →
      FormedStmt sets whole names (stmt.If as' other false) after
  no_more : {names : List Name} → FormedStmt sets several names [] names
  one_more : {names mid after : List Name} {s : Stmt} {ss : List Stmt} → FormedStmt sets whole names s mid →
      FormedStmt sets several mid ss after → FormedStmt sets several names (s ∷ ss) after
  last_arm : {names after : List Name} {x : Expr} {ss : List Stmt} → Formed names one x →
      FormedStmt sets several names ss after → FormedStmt sets branches names ((x, ss) ∷ []) after
  arm_more : {names mid after : List Name} {x : Expr} {ss : List Stmt} {as' : List (Expr × List Stmt)} →
      Formed names one x → FormedStmt sets several names ss mid → FormedStmt sets branches mid as' after →
      FormedStmt sets branches names ((x, ss) ∷ as') after
