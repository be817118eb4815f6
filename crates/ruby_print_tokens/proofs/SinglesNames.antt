-- What names begin with, and the names of operators.
use Rattle.std.proofs.Common.{◌≡◌, ℕ, Bool, true, false, List, [], ◌∷◌, ◌++◌, refl, sym, subst, codes, arith, ◌==◌}
use Rattle.std.proofs.Common.{◌||◌}
use Rattle.std.specs.Str.{bytes_eq}
use Rattle.std.proofs.lemmas.Bool.Decides.{nat_tests}
use Rattle.std.proofs.lemmas.Slice.Eq.{bytes_eq-Decides}
use Rattle.ruby_token.specs.declared.token.Op.{Op}
use Rattle.ruby_token.specs.declared.token.Op.TheVariants as op
use Rattle.ruby_token.specs.Bytes.{Every, is_word, is_lower, is_suffix}
use Rattle.ruby_print.specs.Expressions.{is_operator}
use Rattle.ruby_print_pieces.specs.Pieces.{op_of}
use Rattle.ruby_print_pieces.specs.Names.{plain_name, IsName, unmarked, suffixed, is_operation}

-- letters, digits and `_`, and perhaps one `?` or `!` behind them
pub data Tail : List ℕ → Type 0 where
  bare : {t : List ℕ} → Every is_word t → Tail t
  marked : (t : List ℕ) (q : ℕ) → Every is_word t → is_suffix q ≡ true → Tail (t ++ q ∷ [])

pub record NameOf (n : List ℕ) : Type 0 where
  pub first : ℕ
  pub tail : List ℕ
  pub whole : n ≡ first ∷ tail
  pub lower : is_lower first ≡ true
  pub shape : Tail tail

-- A name's parts: its first letter, what follows, its suffix.
pub name_of : {n : List ℕ} → IsName n → NameOf n
name_of (unmarked (plain_name {b = b} {t = t} h e)) =
    record { first = b; tail = t; whole = refl; lower = h; shape = bare e }
name_of (suffixed q (plain_name {b = b} {t = t} h e) s) =
    record { first = b; tail = t ++ q ∷ []; whole = refl; lower = h; shape = marked t q e s }

-- ---- the name of a call behind a dot is no operator

not_lower : (b c : ℕ) → is_lower b ≡ true → is_lower c ≡ false → (b == c) ≡ false
not_lower b c h g = grind (arith, nat_tests)

pub record IsWordCall (n : List ℕ) : Type 0 where
  pub no_index : bytes_eq n (codes "[]") ≡ false
  pub no_minus : bytes_eq n (codes "-@") ≡ false
  pub no_operator : is_operator n ≡ false

word_call : (b : ℕ) (t : List ℕ) → is_lower b ≡ true → IsWordCall (b ∷ t)
word_call b t h =
    let x : (b == 91) ≡ false = not_lower b 91 h refl in
    let y : (b == 45) ≡ false = not_lower b 45 h refl in
    record { no_index = rw x refl; no_minus = rw y refl; no_operator = rw h refl }

-- A call by a name is no operator.
pub is_word_call : {n : List ℕ} → IsName n → IsWordCall n
is_word_call i = let f = name_of i in subst IsWordCall (sym f.whole) (word_call f.first f.tail f.lower)

-- ---- operators between two operands

pub data IsInfix : Op → List ℕ → Type 0 where
  times : IsInfix op.Times (codes "*")
  divide : IsInfix op.Divide (codes "/")
  modulo : IsInfix op.Modulo (codes "%")
  plus : IsInfix op.Plus (codes "+")
  minus : IsInfix op.Minus (codes "-")
  less : IsInfix op.Less (codes "<")
  at_most : IsInfix op.AtMost (codes "<=")
  more : IsInfix op.More (codes ">")
  at_least : IsInfix op.AtLeast (codes ">=")
  same : IsInfix op.Same (codes "==")
  and_also : IsInfix op.AndAlso (codes "&&")
  or_else : IsInfix op.OrElse (codes "||")
  arrow : IsInfix op.Arrow (codes "=>")
  ask : IsInfix op.Ask (codes "?")
  colon : IsInfix op.Colon (codes ":")

either : {P : Type 0} (a b : Bool) → (a ≡ true → P) → (b ≡ true → P) → (a || b) ≡ true → P
either true b f g h = f refl
either false b f g h = g h

is_it : (n t : List ℕ) → IsInfix (op_of t) t → bytes_eq n t ≡ true → IsInfix (op_of n) n
is_it n t i h = subst (λ x. IsInfix (op_of x) x) (sym ((bytes_eq-Decides n t).0 h)) i

-- A call that is an operation is printed between its sides.
pub infix_of : (n : List ℕ) → is_operation n ≡ true → IsInfix (op_of n) n
infix_of n h =
    either _ (bytes_eq n (codes "=="))
    (either _ (bytes_eq n (codes ">="))
    (either _ (bytes_eq n (codes ">"))
    (either _ (bytes_eq n (codes "<="))
    (either _ (bytes_eq n (codes "<"))
    (either _ (bytes_eq n (codes "-"))
    (either _ (bytes_eq n (codes "+"))
    (either _ (bytes_eq n (codes "%"))
    (either (bytes_eq n (codes "*")) (bytes_eq n (codes "/"))
    (is_it n _ times) (is_it n _ divide)) (is_it n _ modulo)) (is_it n _ plus)) (is_it n _ minus)) (is_it n _ less))
    (is_it n _ at_most)) (is_it n _ more)) (is_it n _ at_least)) (is_it n _ same) h

pub record IsOperatorCall (n : List ℕ) : Type 0 where
  pub no_index : bytes_eq n (codes "[]") ≡ false
  pub no_minus : bytes_eq n (codes "-@") ≡ false
  pub operator : is_operator n ≡ true

-- An operation is called by an operator.
pub operator_call : (n : List ℕ) → is_operation n ≡ true → IsOperatorCall n
operator_call n h = by (op_of n) n (infix_of n h) h
  where
    by : (o : Op) (t : List ℕ) → IsInfix o t → is_operation t ≡ true → IsOperatorCall t
    by _ _ times h = record { no_index = refl; no_minus = refl; operator = refl }
    by _ _ divide h = record { no_index = refl; no_minus = refl; operator = refl }
    by _ _ modulo h = record { no_index = refl; no_minus = refl; operator = refl }
    by _ _ plus h = record { no_index = refl; no_minus = refl; operator = refl }
    by _ _ minus h = record { no_index = refl; no_minus = refl; operator = refl }
    by _ _ less h = record { no_index = refl; no_minus = refl; operator = refl }
    by _ _ at_most h = record { no_index = refl; no_minus = refl; operator = refl }
    by _ _ more h = record { no_index = refl; no_minus = refl; operator = refl }
    by _ _ at_least h = record { no_index = refl; no_minus = refl; operator = refl }
    by _ _ same h = record { no_index = refl; no_minus = refl; operator = refl }
    by _ _ and_also h = record { no_index = refl; no_minus = refl; operator = refl }
    by _ _ or_else h = record { no_index = refl; no_minus = refl; operator = refl }
    by _ _ arrow h = record { no_index = refl; no_minus = refl; operator = refl }
    by _ _ ask h = record { no_index = refl; no_minus = refl; operator = refl }
    by _ _ colon h = record { no_index = refl; no_minus = refl; operator = refl }
