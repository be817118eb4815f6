-- Values that are the same have one digest.
use Rattle.std.proofs.Common.{◌≡◌, ℕ, true, List, [], ◌∷◌, length, map, nat_eq, refl, ap, sym, ◌∙◌}
use Rattle.std.proofs.Common.{subst, arith}
use Rattle.std.specs.Cmp.{signed_Decides}
use Rattle.std.specs.Int.{w64, cast_unsigned}
use Rattle.std.specs.Str.{bytes_eq}
use Rattle.std.proofs.lemmas.Bool.{and_parts, false≢true}
use Rattle.std.proofs.lemmas.Bool.Decides.{nat_tests}
use Rattle.std.proofs.lemmas.Slice.Eq.{bytes_eq-Decides}
use Rattle.ruby_types.specs.Same.{same, same_each, same_both, same_counts}
use Rattle.ruby_types.proofs.SameLaws.{same_is, same_open}
use Rattle.ruby_types.specs.declared.value.Value.{Value, Value-F, map-Value, roll-Value, out-Value, out-roll-Value}
use Rattle.ruby_types.specs.declared.value.Value.{fold-roll-Value, fold_out-Value, ind-Value}
use Rattle.ruby_types.specs.declared.value.Value.TheOpen as layer
use Rattle.ruby_builtin_keys.specs.Digest.{mixed, mixed_all, mixed_names, digest_layer, digest}
use Rattle.std.proofs.lemmas.List.{length-map}

abbrev HasOneDigest : Value → Type 0
HasOneDigest v = (w : Value) → same v w ≡ true → digest v ≡ digest w

abbrev Held : Type 0
Held = (v : Value) × HasOneDigest v

abbrev value_of : Held → Value
value_of h = h.0

same_names : (p q : List (List ℕ)) → same_each bytes_eq p q ≡ true → p ≡ q
same_names [] [] e = refl
same_names [] (n ∷ q) e = absurd (false≢true e)
same_names (m ∷ p) [] e = absurd (false≢true e)
same_names (m ∷ p) (n ∷ q) e =
    let parts = and_parts (bytes_eq m n) (same_each bytes_eq p q) e in
    ap (λ name. name ∷ p) ((bytes_eq-Decides m n).0 parts.0) ∙ ap (λ names. n ∷ names) (same_names p q parts.1)

same_items : (hs : List Held) (ys : List Value) → same_each same (map value_of hs) ys ≡ true →
    map digest (map value_of hs) ≡ map digest ys
same_items [] [] e = refl
same_items [] (y ∷ ys) e = absurd (false≢true e)
same_items (h ∷ hs) [] e = absurd (false≢true e)
same_items (h ∷ hs) (y ∷ ys) e =
    let parts = and_parts (same h.0 y) (same_each same (map value_of hs) ys) e in
    ap (λ d. d ∷ map digest (map value_of hs)) (h.1 y parts.0)
    ∙ ap (λ ds. digest y ∷ ds) (same_items hs ys parts.1)

same_length : (m n : ℕ) → nat_eq m n ≡ true → m ≡ n
same_length m n e = grind (arith, nat_tests)

abbrev level_digest : Value-F Value → ℕ
level_digest x = digest_layer (map-Value Value ℕ digest x)

same_levels : (y : Value-F Held) (z : Value-F Value) → same_open (map-Value Held Value value_of y) z ≡ true →
    level_digest (map-Value Held Value value_of y) ≡ level_digest z
same_levels layer.Nil layer.Nil e = refl
same_levels layer.True layer.True e = refl
same_levels layer.False layer.False e = refl
same_levels (layer.Int m) (layer.Int n) e = ap (λ k. cast_unsigned w64 k) ((signed_Decides m n).0 e)
same_levels (layer.Str s) (layer.Str t) e = ap (mixed_all 4) ((bytes_eq-Decides s t).0 e)
same_levels (layer.Sym s) (layer.Sym t) e = ap (mixed_all 5) ((bytes_eq-Decides s t).0 e)
same_levels (layer.Array hs) (layer.Array ys) e = ap (mixed_all 6) (same_items hs ys e)
same_levels (layer.Hash ps) (layer.Hash qs) e =
    let own : List (Value × Value) = map (λ (p : Held × Held). (p.0.0, p.1.0)) ps in
    let long = same_length (length own) (length qs) (and_parts _ (same_counts same_both own own qs) e).0 in
    ap (mixed 7) (length-map own (λ (p : Value × Value). (digest p.0, digest p.1)) ∙ long
    ∙ sym (length-map qs (λ (p : Value × Value). (digest p.0, digest p.1))))
same_levels (layer.Module p) (layer.Module q) e = ap (mixed_names 8) (same_names p q e)
same_levels (layer.Object p xs) (layer.Object q ys) e =
    ap (mixed_names 9) (same_names p q (and_parts (same_each bytes_eq p q) _ e).0)
same_levels _ _ e = absurd (false≢true e)

-- what an index by digests stands on
pub same_digest : (v w : Value) → same v w ≡ true → digest v ≡ digest w
same_digest = ind-Value HasOneDigest (λ x y is w e.
    let here : same_open x (out-Value w) ≡ true =
    ap (λ l. same_open l (out-Value w)) (sym (out-roll-Value x)) ∙ sym (same_is (roll-Value x) w) ∙ e in
    fold-roll-Value ℕ digest_layer x
    ∙ subst (λ (l : Value-F Value). same_open l (out-Value w) ≡ true → level_digest l ≡ level_digest (out-Value w)) is
    (same_levels y (out-Value w)) here
    ∙ sym (fold_out-Value ℕ digest_layer w))
