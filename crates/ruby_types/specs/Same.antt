-- When two values are the same (the Ruby documentation of Array#== and Hash#==): by structure. Two hashes are the same
-- where each pair stands in the one as often as in the other, in any order: `{a: 1, b: 2} == {b: 2, a: 1}`. Two objects
-- are the same where they have one class and the same variables in the same order.
use Rattle.std.specs.Prelude.{Bool, true, false, ◌&&◌, nat_eq, List, [], ◌∷◌, length, count_by, map}
use Rattle.std.specs.Str.{bytes_eq}
use Rattle.std.specs.Ordering.{int_eq}
use Rattle.ruby_types.specs.declared.value.Value.{Value, Value-F, para-Value, out-Value}
use Rattle.ruby_types.specs.declared.value.Value.TheOpen as layer

-- as many members, each the same as the one at its place
abbrev pub same_each : {X Y : Type 0} → (X → Y → Bool) → List X → List Y → Bool
same_each test [] [] = true
same_each test (x ∷ xs) (y ∷ ys) = test x y && same_each test xs ys
same_each test [] (y ∷ ys) = false
same_each test (x ∷ xs) [] = false

-- each of these pairs stands in the one list as often as in the other
abbrev pub same_counts : {P : Type 0} → (P → Value × Value → Bool) → List P → List (Value × Value) →
    List (Value × Value) → Bool
same_counts test [] own other = true
same_counts test (p ∷ ps) own other =
    nat_eq (count_by (test p) own) (count_by (test p) other) && same_counts test ps own other

-- a pair of what stands inside a value, against a pair of values: the same key and the same value
abbrev pub same_pair : {C : Type 0} → (C → Value → Bool) → C × C → Value × Value → Bool
same_pair test p q = test p.0 q.0 && test p.1 q.1

-- A pair of children as the pair of their values.
abbrev pub pair_of : {C : Type 0} → (C → Value) → C × C → Value × Value
pair_of value p = (value p.0, value p.1)

-- One level of both. What stands inside the first is of any type C from which its value and its test can be told.
abbrev pub same_layer : {C : Type 0} → (C → Value) → (C → Value → Bool) → Value-F C → Value-F Value → Bool
same_layer value test layer.Nil layer.Nil = true
same_layer value test layer.True layer.True = true
same_layer value test layer.False layer.False = true
same_layer value test (layer.Int m) (layer.Int n) = int_eq m n
same_layer value test (layer.Str s) (layer.Str t) = bytes_eq s t
same_layer value test (layer.Sym s) (layer.Sym t) = bytes_eq s t
same_layer value test (layer.Array xs) (layer.Array ys) = same_each test xs ys
same_layer value test (layer.Hash ps) (layer.Hash qs) =
    nat_eq (length ps) (length qs) && same_counts (same_pair test) ps (map (pair_of value) ps) qs
same_layer value test (layer.Module p) (layer.Module q) = same_each bytes_eq p q
same_layer value test (layer.Object p xs) (layer.Object q ys) =
    same_each bytes_eq p q && same_each (same_pair test) xs ys
same_layer value test _ _ = false

unfoldable pub same : Value → Value → Bool
same = para-Value (Value → Bool) (λ x w. same_layer (λ c. c.0) (λ c. c.1) x (out-Value w))

-- two pairs with the same key and the same value
abbrev pub same_both : Value × Value → Value × Value → Bool
same_both p q = same p.0 q.0 && same p.1 q.1
