-- Which expressions texts have, where these local variables are known.
use Rattle.std.specs.Prelude.{◌≡◌, ◌≢◌, ℕ, Bool, true, false, List, [], ◌∷◌, Some, None, codes, ℤ}
use Rattle.std.specs.Str.{IsUtf8}
use Rattle.ruby_types.specs.declared.tree.ConstRef.{ConstRef}
use Rattle.ruby_types.specs.declared.tree.Expr.{Expr}
use Rattle.ruby_types.specs.declared.tree.Expr.TheVariants as expr
use Rattle.ruby_types.specs.declared.tree.Part.{Part}
use Rattle.ruby_types.specs.declared.tree.Part.TheVariants as part
use Rattle.ruby_grammar.specs.Terminals.{has}
use Rattle.ruby_grammar.specs.Rules.{Name}
use Rattle.ruby_print_pieces.specs.Names.{IsPlainName, IsSymbolName, IsMethodName, IsPath, IsInRange, is_operation}

-- one expression, several, pairs, and the parts of a text; the flag is true where a plain part may come first
pub data Form : Type 0 where
  one : Form
  some : Form
  pairs : Form
  parts : Bool → Form

-- What a recursive type's proofs hold of each of its members.
abbrev pub Held : Form → Type 0
Held one = Expr
Held some = List Expr
Held pairs = List (Expr × Expr)
Held (parts may_be_plain) = List Part

-- A constant as texts have it: at least one name, each a constant name.
abbrev pub IsConstant : ConstRef → Type 0
IsConstant c = IsPath c.path

-- No plain part of a text is empty, and no two stand side by side.
pub data Formed (names : List Name) : (f : Form) → Held f → Type 0 where
  is_nil : Formed names one expr.Nil
  is_true : Formed names one expr.True
  is_false : Formed names one expr.False
  is_self : Formed names one expr.SelfRef
  is_int : {n : ℤ} → IsInRange n → Formed names one (expr.Int n)
  is_text : {ps : List Part} → Formed names (parts true) ps → Formed names one (expr.Str ps)
  is_symbol : {n : List ℕ} → IsSymbolName n → Formed names one (expr.Sym n)
  is_local : {n : List ℕ} → IsMethodName n → has names n ≡ true → Formed names one (expr.Local n)
  is_ivar : {n : List ℕ} → IsPlainName n → Formed names one (expr.Ivar n)
  is_const : {c : ConstRef} → IsConstant c → Formed names one (expr.Const c)
  is_array : {xs : List Expr} → Formed names some xs → Formed names one (expr.Array xs)
  is_hash : {ps : List (Expr × Expr)} → Formed names pairs ps → Formed names one (expr.Hash ps)
  is_call_on_self : {n : List ℕ} {xs : List Expr} → IsMethodName n → Formed names some xs →
      Formed names one (expr.Call None n xs)
  is_call : {x : Expr} {n : List ℕ} {xs : List Expr} → Formed names one x → IsMethodName n → Formed names some xs →
      Formed names one (expr.Call (Some x) n xs)
  is_index : {x y : Expr} → Formed names one x → Formed names one y →
      Formed names one (expr.Call (Some x) (codes "[]") (y ∷ []))
  is_minus : {x : Expr} → Formed names one x → Formed names one (expr.Call (Some x) (codes "-@") [])
  is_operation_of : {x y : Expr} {n : List ℕ} → Formed names one x → is_operation n ≡ true → Formed names one y →
      Formed names one (expr.Call (Some x) n (y ∷ []))
  is_not : {x : Expr} → Formed names one x → Formed names one (expr.Not x)
  is_and : {x y : Expr} → Formed names one x → Formed names one y → Formed names one (expr.And x y)
  is_or : {x y : Expr} → Formed names one x → Formed names one y → Formed names one (expr.Or x y)
  is_choice : {x y z : Expr} → Formed names one x → Formed names one y → Formed names one z →
      Formed names one (expr.Choose x y z)
  no_more : Formed names some []
  one_more : {x : Expr} {xs : List Expr} → Formed names one x → Formed names some xs → Formed names some (x ∷ xs)
  no_pairs : Formed names pairs []
  pair_more : {x y : Expr} {ps : List (Expr × Expr)} → Formed names one x → Formed names one y →
      Formed names pairs ps → Formed names pairs ((x, y) ∷ ps)
  no_parts : {b : Bool} → Formed names (parts b) []
  plain_part : {text : List ℕ} {ps : List Part} → text ≢ [] → IsUtf8 text → Formed names (parts false) ps →
      Formed names (parts true) (part.Plain text ∷ ps)
  inside_part : {b : Bool} {x : Expr} {ps : List Part} → Formed names one x → Formed names (parts true) ps →
      Formed names (parts b) (part.Inside x ∷ ps)
