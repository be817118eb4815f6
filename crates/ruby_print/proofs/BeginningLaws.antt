-- What is written of an expression at its beginning and what is pending then make its whole text.
use Rattle.std.proofs.Common.{◌≡◌, ℕ, Bool, List, ◌++◌, map, Option, Some, None, Result, Ok, Err, Bor, codes, ap, ◌∙◌}
use Rattle.std.proofs.Common.{sym, append_assoc, arith}
use Rattle.std.proofs.lemmas.Grind.{common_steps}
use Rattle.std.specs.Result.{OnOk}
use Rattle.ruby_types.specs.declared.tree.Expr.{Expr}
use Rattle.ruby_types.specs.declared.tree.Expr.TheVariants as v
use Rattle.ruby_print.specs.Pieces.{grouped}
use Rattle.ruby_print.specs.Expressions.{left, right, members, form_of, before_receiver}
use Rattle.ruby_print.specs.Expressions.{behind_receiver, expression, inner}
use Rattle.ruby_print.specs.declared.pending.Pending.{Pending}
use Rattle.ruby_print.specs.declared.pending.Pending.TheVariants as p
use Rattle.ruby_print.specs.Pending.{piece_text}
use Rattle.ruby_print.proofs.ExpressionLaws.{print-own, print-parts, print-Not, print-And, print-Or, print-Choose}

-- a whole text w is written, and nothing more is pending
pub all-written : {T E : Type 0} (r : Result T E) (o0 o1 p t w : List ℕ) → w ≡ t → OnOk r (o1 ≡ o0 ++ t) →
    OnOk r (o1 ++ p ≡ o0 ++ (w ++ p))
all-written (Ok value) o0 o1 p t w e h = ap (λ u. u ++ p) (h ∙ ap (λ u. o0 ++ u) (sym e)) ∙ append_assoc o0 w p
all-written (Err error) o0 o1 p t w e h = h

begun-parts : (o0 o1 p0 p1 b s w : List ℕ) → b ++ s ≡ w ++ p0 → o1 ≡ o0 ++ b → p1 ≡ s → o1 ++ p1 ≡ o0 ++ (w ++ p0)
begun-parts o0 o1 p0 p1 b s w e h i = grind (arith, common_steps)

-- the beginning b of a text w is written, and its rest is pending
begun : {T E : Type 0} (r : Result T E) (o0 o1 p0 p1 b s w : List ℕ) → b ++ s ≡ w ++ p0 → OnOk r (o1 ≡ o0 ++ b) →
    OnOk r (p1 ≡ s) → OnOk r (o1 ++ p1 ≡ o0 ++ (w ++ p0))
begun (Ok value) o0 o1 p0 p1 b s w e h i = begun-parts o0 o1 p0 p1 b s w e h i
begun (Err error) o0 o1 p0 p1 b s w e h i = h

three-parts : (o a r p : List ℕ) → o ++ (a ++ (r ++ p)) ≡ (o ++ (a ++ r)) ++ p
three-parts o a r p = grind (arith, common_steps)

-- What is written of an operator's piece and what is then pending make the piece's text: for the step of operators.
pub begun-operator : {T E : Type 0} (r : Result T E) (piece : Pending) (sign : Bor (List ℕ)) (x : Bor Expr)
    (inside : Bool) (o0 o1 p0 p1 : List ℕ) →
    piece ≡ p.Operator sign x inside → OnOk r (o1 ≡ o0 ++ sign.now) →
    OnOk r (p1 ≡ inner x.now ++ (right inside ++ p0)) →
    OnOk r (o1 ++ p1 ≡ o0 ++ (piece_text piece ++ p0))
begun-operator r piece sign x inside o0 o1 p0 p1 e h i =
    begun r o0 o1 p0 p1 _ _ (piece_text piece)
    (three-parts sign.now (inner x.now) (right inside) p0 ∙ ap (λ t. t ++ p0) (sym (ap piece_text e))) h i

-- ---- by the kinds of expressions: x is the one that is begun

-- A call on self is written whole at once: for the step of expressions without a receiver.
pub whole-own : {T E : Type 0} (r : Result T E) (x : Expr) (on : Option Expr) (name : List ℕ)
    (args args' : List Expr) (inside : Bool) (o0 o1 p : List ℕ) →
    x ≡ v.Call on name args → on ≡ None → args' ≡ args →
    OnOk r (o1 ≡ o0 ++ (name ++ grouped (members (map expression args')))) →
    OnOk r (o1 ++ p ≡ o0 ++ (expression x inside ++ p))
whole-own r x on name args args' inside o0 o1 p e n a h =
    all-written r o0 o1 p _ (expression x inside)
    (ap (λ x. expression x inside) (e ∙ ap (λ on. v.Call on name args) n) ∙ print-own name args inside
    ∙ ap (λ args. name ++ grouped (members (map expression args))) (sym a)) h

-- What is written before a call's receiver and what is then pending make the call's text.
pub begun-call : {T E : Type 0} (r : Result T E) (x on' : Expr) (on : Option Expr) (name : List ℕ)
    (args args' : List Expr) (inside : Bool) (o0 o1 p0 p1 : List ℕ) →
    x ≡ v.Call on name args → on ≡ Some on' → args' ≡ args →
    OnOk r (o1 ≡ o0 ++ before_receiver (form_of name) inside) →
    OnOk r (p1 ≡ inner on' ++ (behind_receiver (form_of name) name (map expression args') inside ++ p0)) →
    OnOk r (o1 ++ p1 ≡ o0 ++ (expression x inside ++ p0))
begun-call r x on' on name args args' inside o0 o1 p0 p1 e n a h i =
    begun r o0 o1 p0 p1 _ _ (expression x inside)
    (three-parts (before_receiver (form_of name) inside) (inner on')
    (behind_receiver (form_of name) name (map expression args') inside) p0
    ∙ ap (λ t. t ++ p0) (sym (ap (λ x. expression x inside) (e ∙ ap (λ on. v.Call on name args) n)
    ∙ print-parts on' name args inside
    ∙ ap (λ args. before_receiver (form_of name) inside ++
    (inner on' ++ behind_receiver (form_of name) name (map expression args) inside)) (sym a)))) h i

last-parts : (l o a r p : List ℕ) → l ++ (o ++ (a ++ (r ++ p))) ≡ (l ++ ((o ++ a) ++ r)) ++ p
last-parts l o a r p = grind (arith, common_steps)

-- What is written and pending of a negation make its text.
pub begun-Not : {T E : Type 0} (r : Result T E) (x a a' : Expr) (inside : Bool) (o0 o1 p0 p1 : List ℕ) →
    x ≡ v.Not a → a' ≡ a →
    OnOk r (o1 ≡ o0 ++ left inside) → OnOk r (p1 ≡ codes "!" ++ (inner a' ++ (right inside ++ p0))) →
    OnOk r (o1 ++ p1 ≡ o0 ++ (expression x inside ++ p0))
begun-Not r x a a' inside o0 o1 p0 p1 e ea h i =
    begun r o0 o1 p0 p1 _ _ (expression x inside)
    (last-parts (left inside) (codes "!") (inner a') (right inside) p0
    ∙ ap (λ t. t ++ p0) (sym (ap (λ x. expression x inside) (e ∙ ap v.Not (sym ea)) ∙ print-Not a' inside))) h i

both-parts : (l a o b r p : List ℕ) → l ++ (a ++ (o ++ (b ++ (r ++ p)))) ≡ (l ++ ((a ++ (o ++ b)) ++ r)) ++ p
both-parts l a o b r p = grind (arith, common_steps)

-- What is written and pending of `&&` make its text.
pub begun-And : {T E : Type 0} (r : Result T E) (x a a' b b' : Expr) (inside : Bool) (o0 o1 p0 p1 : List ℕ) →
    x ≡ v.And a b → a' ≡ a → b' ≡ b →
    OnOk r (o1 ≡ o0 ++ left inside) → OnOk r (p1 ≡ inner a' ++ (codes " && " ++ (inner b' ++ (right inside ++ p0)))) →
    OnOk r (o1 ++ p1 ≡ o0 ++ (expression x inside ++ p0))
begun-And r x a a' b b' inside o0 o1 p0 p1 e ea eb h i =
    begun r o0 o1 p0 p1 _ _ (expression x inside)
    (both-parts (left inside) (inner a') (codes " && ") (inner b') (right inside) p0
    ∙ ap (λ t. t ++ p0) (sym
    (ap (λ x. expression x inside) (e ∙ ap (λ a. v.And a b) (sym ea) ∙ ap (λ b. v.And a' b) (sym eb))
    ∙ print-And a' b' inside))) h i

-- What is written and pending of `||` make its text.
pub begun-Or : {T E : Type 0} (r : Result T E) (x a a' b b' : Expr) (inside : Bool) (o0 o1 p0 p1 : List ℕ) →
    x ≡ v.Or a b → a' ≡ a → b' ≡ b →
    OnOk r (o1 ≡ o0 ++ left inside) → OnOk r (p1 ≡ inner a' ++ (codes " || " ++ (inner b' ++ (right inside ++ p0)))) →
    OnOk r (o1 ++ p1 ≡ o0 ++ (expression x inside ++ p0))
begun-Or r x a a' b b' inside o0 o1 p0 p1 e ea eb h i =
    begun r o0 o1 p0 p1 _ _ (expression x inside)
    (both-parts (left inside) (inner a') (codes " || ") (inner b') (right inside) p0
    ∙ ap (λ t. t ++ p0) (sym
    (ap (λ x. expression x inside) (e ∙ ap (λ a. v.Or a b) (sym ea) ∙ ap (λ b. v.Or a' b) (sym eb))
    ∙ print-Or a' b' inside))) h i

choice-parts : (l a o b q c r p : List ℕ) → l ++ (a ++ (o ++ (b ++ (q ++ (c ++ (r ++ p))))))
    ≡ (l ++ ((a ++ (o ++ (b ++ (q ++ c)))) ++ r)) ++ p
choice-parts l a o b q c r p = grind (arith, common_steps)

-- What is written and pending of a choice make its text.
pub begun-Choose : {T E : Type 0} (r : Result T E) (x a a' b b' c c' : Expr) (inside : Bool) (o0 o1 p0 p1 : List ℕ) →
    x ≡ v.Choose a b c → a' ≡ a → b' ≡ b → c' ≡ c →
    OnOk r (o1 ≡ o0 ++ left inside) →
    OnOk r (p1 ≡ inner a' ++ (codes " ? " ++ (inner b' ++ (codes " : " ++ (inner c' ++ (right inside ++ p0)))))) →
    OnOk r (o1 ++ p1 ≡ o0 ++ (expression x inside ++ p0))
begun-Choose r x a a' b b' c c' inside o0 o1 p0 p1 e ea eb ec h i =
    begun r o0 o1 p0 p1 _ _ (expression x inside)
    (choice-parts (left inside) (inner a') (codes " ? ") (inner b') (codes " : ") (inner c') (right inside) p0
    ∙ ap (λ t. t ++ p0) (sym
    (ap (λ x. expression x inside) (e ∙ ap (λ a. v.Choose a b c) (sym ea) ∙ ap (λ b. v.Choose a' b c) (sym eb)
    ∙ ap (λ c. v.Choose a' b' c) (sym ec)) ∙ print-Choose a' b' c' inside))) h i
