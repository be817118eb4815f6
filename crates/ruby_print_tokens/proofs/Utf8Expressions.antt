-- The printed text of an expression is UTF-8, and its first byte begins a token.
use Rattle.std.proofs.Common.{◌≡◌, ℕ, Bool, true, false, bytes_eq, List, [], ◌∷◌, map, Some, None, codes, IsUtf8, refl}
use Rattle.std.proofs.Common.{sym, ap, ◌∙◌, subst, arith, ◌||◌}
use Rattle.std.specs.List.{flat_map, AllByRecursion}
use Rattle.std.proofs.lemmas.Slice.Eq.{bytes_eq-Decides}
use Rattle.std.proofs.lemmas.Str.{IsUtf8-append, IsUtf8-nil}
use Rattle.ruby_types.specs.declared.tree.Expr.{Expr, fold_out-Expr, map-Expr, out-Expr}
use Rattle.ruby_types.specs.declared.tree.Expr.TheVariants as expr
use Rattle.ruby_types.specs.declared.tree.Expr.TheOpen.{Expr-F, Part-F}
use Rattle.ruby_types.specs.declared.tree.Part.{Part, fold_out-Part, map-Part, out-Part}
use Rattle.ruby_types.specs.declared.tree.Part.TheVariants as part
use Rattle.ruby_token.proofs.Words.{split_if}
use Rattle.ruby_print.specs.Expressions.{Printed, left, right, operation, members, pair_text, arguments, call_on}
use Rattle.ruby_print.specs.Expressions.{expression_step, part_step, expression}
use Rattle.ruby_print.specs.Expressions as print
use Rattle.ruby_grammar.specs.Rules.{Name}
use Rattle.ruby_print_pieces.specs.Names.{is_operation}
use Rattle.ruby_print_pieces.specs.Formed as formed
use Rattle.ruby_print_pieces.specs.Formed.{Form, Held, Formed, one, some, pairs, parts}
use Rattle.ruby_print_pieces.proofs.Utf8.{utf8_cons}
use Rattle.ruby_print_tokens.proofs.Utf8.{utf8_ascii, utf8_escaped, Good, good_then, good_append, good_decimal}
use Rattle.ruby_print_tokens.proofs.Utf8.{good_plain, good_name, good_symbol, good_constant, utf8_joined, good_grouped}

level : (x : Expr) (l : Expr-F Expr Part) → out-Expr x ≡ l →
    expression x ≡ expression_step (map-Expr Expr Part Printed (List ℕ) expression print.part l)
level x l e = fold_out-Expr Printed (List ℕ) expression_step part_step x
    ∙ ap (λ l. expression_step (map-Expr Expr Part Printed (List ℕ) expression print.part l)) e

-- what is printed of an expression, of several, of pairs and of the parts of a text
abbrev IsGood : Printed → Type 0
IsGood f = (inside : Bool) → Good (f inside)

abbrev EachGood : List Printed → Type 0
EachGood fs = AllByRecursion IsGood fs

abbrev BothGood : Printed × Printed → Type 0
BothGood p = IsGood p.0 × IsGood p.1

abbrev Says : (f : Form) → Held f → Type 0
Says one x = IsGood (expression x)
Says some xs = EachGood (map expression xs)
Says pairs ps = AllByRecursion BothGood (map (λ p. (expression p.0, expression p.1)) ps)
Says (parts b) ps = AllByRecursion IsUtf8 (map print.part ps)

good_level : (x : Expr) (l : Expr-F Expr Part) → out-Expr x ≡ l →
    IsGood (expression_step (map-Expr Expr Part Printed (List ℕ) expression print.part l)) → IsGood (expression x)
good_level x l h g = subst IsGood (sym (level x l h)) g

-- ---- the pieces

good_operation : {t : List ℕ} → Good t → IsGood (operation t)
good_operation {t} g true = good_then 40 _ refl (omega arith) (IsUtf8-append t _ g.utf8 (utf8_ascii (41 ∷ []) refl))
good_operation {t} g false = good_append g IsUtf8-nil

utf8_each : (fs : List Printed) → EachGood fs → AllByRecursion IsUtf8 (map (λ x. x true) fs)
utf8_each [] h = tt
utf8_each (f ∷ fs) h = ((h.0 true).utf8, utf8_each fs h.1)

utf8_members : (fs : List Printed) → EachGood fs → IsUtf8 (members fs)
utf8_members fs h = utf8_joined _ (utf8_each fs h)

utf8_pairs : (ps : List (Printed × Printed)) → AllByRecursion BothGood ps → AllByRecursion IsUtf8 (map pair_text ps)
utf8_pairs [] h = tt
utf8_pairs (p ∷ ps) h = (
  IsUtf8-append (p.0 true) _ (h.0.0 true).utf8
      (IsUtf8-append _ (p.1 true) (utf8_ascii (codes " => ") refl) (h.0.1 true).utf8),
  utf8_pairs ps h.1,
)

utf8_flat : (ts : List (List ℕ)) → AllByRecursion IsUtf8 ts → IsUtf8 (flat_map (λ part. part) ts)
utf8_flat [] h = IsUtf8-nil
utf8_flat (t ∷ ts) h = IsUtf8-append t _ h.0 (utf8_flat ts h.1)

utf8_arguments : (fs : List Printed) → EachGood fs → IsUtf8 (arguments fs)
utf8_arguments [] h = IsUtf8-nil
utf8_arguments (f ∷ fs) h = (good_grouped (utf8_members (f ∷ fs) h)).utf8

good_call : (f : Printed) (n : List ℕ) (fs : List Printed) → IsGood f → IsUtf8 n → EachGood fs → IsGood (call_on f n fs)
good_call f n fs g u h inside =
    split_if Good (bytes_eq n (codes "[]")) _ _
    (λ _. good_append (g true)
    (utf8_cons 91 _ (omega arith) (IsUtf8-append _ _ (utf8_members fs h) (utf8_ascii (93 ∷ []) refl))))
    (λ _. split_if Good (bytes_eq n (codes "-@")) _ _
    (λ _. good_operation (good_then 45 _ refl (omega arith) (utf8_cons 32 _ (omega arith) (g true).utf8)) inside)
    (λ _. split_if Good (print.is_operator n) _ _
    (λ _. good_operation (good_append (g true)
    (utf8_cons 32 _ (omega arith) (IsUtf8-append n _ u (utf8_cons 32 _ (omega arith) (utf8_members fs h))))) inside)
    (λ _. good_append (g true) (utf8_cons 46 _ (omega arith) (IsUtf8-append n _ u (utf8_arguments fs h))))))

or_one : (n t : List ℕ) (b : Bool) → IsUtf8 t → (b ≡ true → IsUtf8 n) → (b || bytes_eq n t) ≡ true → IsUtf8 n
or_one n t true u f h = f refl
or_one n t false u f h = subst IsUtf8 (sym ((bytes_eq-Decides n t).0 h)) u

utf8_operation : (n : List ℕ) → is_operation n ≡ true → IsUtf8 n
utf8_operation n h =
    or_one n (codes "==") _ (utf8_ascii _ refl)
    (or_one n (codes ">=") _ (utf8_ascii _ refl) (or_one n (codes ">") _ (utf8_ascii _ refl)
    (or_one n (codes "<=") _ (utf8_ascii _ refl)
    (or_one n (codes "<") _ (utf8_ascii _ refl) (or_one n (codes "-") _ (utf8_ascii _ refl)
    (or_one n (codes "+") _ (utf8_ascii _ refl)
    (or_one n (codes "%") _ (utf8_ascii _ refl) (or_one n (codes "/") _ (utf8_ascii _ refl)
    (λ e. subst IsUtf8 (sym ((bytes_eq-Decides n (codes "*")).0 e)) (utf8_ascii _ refl)))))))))) h

part_level : (x : Part) (l : Part-F Expr Part) → out-Part x ≡ l →
    print.part x ≡ part_step (map-Part Expr Part Printed (List ℕ) expression print.part l)
part_level x l e = fold_out-Part Printed (List ℕ) expression_step part_step x
    ∙ ap (λ l. part_step (map-Part Expr Part Printed (List ℕ) expression print.part l)) e

utf8_plain : (text : List ℕ) → IsUtf8 text → IsUtf8 (print.part (part.Plain text))
utf8_plain text u = subst IsUtf8 (sym (part_level _ _ (part.outs-Plain text))) (utf8_escaped text u)

utf8_inside : (x : Expr) → IsGood (expression x) → IsUtf8 (print.part (part.Inside x))
utf8_inside x g = subst IsUtf8 (sym (part_level _ _ (part.outs-Inside x)))
    (utf8_cons 35 _ (omega arith)
    (utf8_cons 123 _ (omega arith) (IsUtf8-append _ _ (g true).utf8 (utf8_ascii (125 ∷ []) refl))))

-- ---- by the tree

good_formed : {names : List Name} {f : Form} {x : Held f} → Formed names f x → Says f x
good_formed formed.is_nil =
    good_level _ _ expr.outs-Nil (λ _. good_then 110 _ refl (omega arith) (utf8_ascii (105 ∷ 108 ∷ []) refl))
good_formed formed.is_true =
    good_level _ _ expr.outs-True (λ _. good_then 116 _ refl (omega arith) (utf8_ascii (114 ∷ 117 ∷ 101 ∷ []) refl))
good_formed formed.is_false =
    good_level _ _ expr.outs-False
    (λ _. good_then 102 _ refl (omega arith) (utf8_ascii (97 ∷ 108 ∷ 115 ∷ 101 ∷ []) refl))
good_formed formed.is_self = good_level _ _ expr.outs-SelfRef
    (λ _. good_then 115 _ refl (omega arith) (utf8_ascii (101 ∷ 108 ∷ 102 ∷ []) refl))
good_formed (formed.is_int {n = n} h) = good_level _ _ (expr.outs-Int n) (λ _. good_decimal n)
good_formed (formed.is_text {ps = ps} h) =
    good_level _ _ (expr.outs-Str ps)
    (λ _. good_then 34 _ refl (omega arith)
    (IsUtf8-append _ _ (utf8_flat _ (good_formed h)) (utf8_ascii (34 ∷ []) refl)))
good_formed (formed.is_symbol {n = n} h) = good_level _ _ (expr.outs-Sym n) (λ _. good_symbol h)
good_formed (formed.is_local {n = n} h k) = good_level _ _ (expr.outs-Local n) (λ _. good_name h.spelled)
good_formed (formed.is_ivar {n = n} h) = good_level _ _ (expr.outs-Ivar n)
    (λ _. good_then 64 _ refl (omega arith) (good_plain h).utf8)
good_formed (formed.is_const {c = c} h) = good_level _ _ (expr.outs-Const c) (λ _. good_constant c h)
good_formed (formed.is_array {xs = xs} h) =
    good_level _ _ (expr.outs-Array xs)
    (λ _. good_then 91 _ refl (omega arith)
    (IsUtf8-append _ _ (utf8_members _ (good_formed h)) (utf8_ascii (93 ∷ []) refl)))
good_formed (formed.is_hash {ps = ps} h) =
    good_level _ _ (expr.outs-Hash ps)
    (λ _. good_then 123 _ refl (omega arith)
    (IsUtf8-append _ _ (utf8_joined _ (utf8_pairs _ (good_formed h))) (utf8_ascii (125 ∷ []) refl)))
good_formed (formed.is_call_on_self {n = n} {xs = xs} h hs) =
    good_level _ _ (expr.outs-Call None n xs)
    (λ _. good_append (good_name h.spelled) (good_grouped (utf8_members _ (good_formed hs))).utf8)
good_formed (formed.is_call {x = x} {n = n} {xs = xs} g h hs) = good_level _ _ (expr.outs-Call (Some x) n xs)
    (good_call _ n _ (good_formed g) (good_name h.spelled).utf8 (good_formed hs))
good_formed (formed.is_index {x = x} {y = y} g h) = good_level _ _ (expr.outs-Call (Some x) (codes "[]") (y ∷ []))
    (good_call _ (codes "[]") (expression y ∷ []) (good_formed g) (utf8_ascii _ refl) (good_formed h, tt))
good_formed (formed.is_minus {x = x} g) = good_level _ _ (expr.outs-Call (Some x) (codes "-@") [])
    (good_call _ (codes "-@") [] (good_formed g) (utf8_ascii _ refl) tt)
good_formed (formed.is_operation_of {x = x} {y = y} {n = n} g o h) =
    good_level _ _ (expr.outs-Call (Some x) n (y ∷ []))
    (good_call _ n (expression y ∷ []) (good_formed g) (utf8_operation n o) (good_formed h, tt))
good_formed (formed.is_not {x = x} g) = good_level _ _ (expr.outs-Not x)
    (good_operation (good_then 33 _ refl (omega arith) (good_formed g true).utf8))
good_formed (formed.is_and {x = x} {y = y} g h) =
    good_level _ _ (expr.outs-And x y)
    (good_operation (good_append (good_formed g true)
    (IsUtf8-append (codes " && ") _ (utf8_ascii _ refl) (good_formed h true).utf8)))
good_formed (formed.is_or {x = x} {y = y} g h) =
    good_level _ _ (expr.outs-Or x y)
    (good_operation (good_append (good_formed g true)
    (IsUtf8-append (codes " || ") _ (utf8_ascii _ refl) (good_formed h true).utf8)))
good_formed (formed.is_choice {x = x} {y = y} {z = z} g h k) =
    good_level _ _ (expr.outs-Choose x y z)
    (good_operation (good_append (good_formed g true)
    (IsUtf8-append (codes " ? ") _ (utf8_ascii _ refl)
    (IsUtf8-append _ _ (good_formed h true).utf8
    (IsUtf8-append (codes " : ") _ (utf8_ascii _ refl) (good_formed k true).utf8)))))
good_formed formed.no_more = tt
good_formed (formed.one_more g h) = (good_formed g, good_formed h)
good_formed formed.no_pairs = tt
good_formed (formed.pair_more g h k) = ((good_formed g, good_formed h), good_formed k)
good_formed formed.no_parts = tt
good_formed (formed.plain_part {text = text} h u g) = (utf8_plain text u, good_formed g)
good_formed (formed.inside_part {x = x} g h) = (utf8_inside x (good_formed g), good_formed h)

-- The text of an expression statement is UTF-8 and begins a token.
pub good_expression : {names : List Name} {x : Expr} → Formed names one x → (inside : Bool) → Good (expression x inside)
good_expression h = good_formed h
