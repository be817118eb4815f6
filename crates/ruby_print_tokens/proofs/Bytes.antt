-- The pieces of an expression have the bytes that it is printed as.
use Rattle.std.proofs.Common.{◌≡◌, ℕ, Bool, true, false, List, [], ◌∷◌, ◌++◌, map, refl, ap, sym, ◌∙◌, append-nil}
use Rattle.std.proofs.Common.{append_assoc, codes}
use Rattle.std.specs.Str.{bytes_eq}
use Rattle.std.specs.List.{flat_map, AllByRecursion}
use Rattle.ruby_types.specs.declared.tree.ConstRef.{ConstRef}
use Rattle.ruby_types.specs.declared.tree.Expr.{Expr}
use Rattle.ruby_types.specs.declared.tree.Part.{Part}
use Rattle.ruby_types.specs.declared.tree.Part.TheVariants as p
use Rattle.ruby_token.specs.declared.token.Op.TheVariants as op
use Rattle.ruby_grammar.specs.Rules.{Name}
use Rattle.ruby_print.specs.Pieces.{joined, constant_text}
use Rattle.ruby_print.specs.Expressions.{pair_text, inner, call_on as printed_call_on, arguments as printed_arguments}
use Rattle.ruby_print.specs.Expressions.{is_operator}
use Rattle.ruby_print.specs.Expressions.{expression as printed, part as printed_part}
use Rattle.ruby_print.proofs.ExpressionLaws.{members_of}
use Rattle.ruby_print_pieces.specs.Pieces.{Piece, bytes_of, op_of, mark, open_bracket, close_bracket, close_paren}
use Rattle.ruby_print_pieces.specs.Pieces.{space}
use Rattle.ruby_print_pieces.specs.Expressions.{Laid, expression, part, members, pairs, call_on, arguments, constant}
use Rattle.ruby_print_pieces.specs.Names.{IsPath}
use Rattle.ruby_print_pieces.specs.Formed
use Rattle.ruby_print_pieces.specs.Formed.{Form, Held, Formed}
use Rattle.ruby_print_tokens.proofs.SinglesNames.{IsWordCall, is_word_call, IsOperatorCall, operator_call}
use Rattle.ruby_print_tokens.proofs.ExpressionsLevels.{infix_body, choice_body, laid_pair, laid-Nil, laid-True}
use Rattle.ruby_print_tokens.proofs.ExpressionsLevels.{laid-False, laid-SelfRef, laid-Int, laid-Str, laid-Sym}
use Rattle.ruby_print_tokens.proofs.ExpressionsLevels.{laid-Local, laid-Ivar, laid-Const, laid-Array, laid-Hash}
use Rattle.ruby_print_tokens.proofs.ExpressionsLevels.{laid-own, laid-call, laid-Not, laid-And, laid-Or, laid-Choose}
use Rattle.ruby_print_tokens.proofs.ExpressionsLevels.{part-Plain, part-Inside}
use Rattle.ruby_print_tokens.proofs.BytesLevels.{printed_pair, printed-Nil, printed-True, printed-False}
use Rattle.ruby_print_tokens.proofs.BytesLevels.{printed-SelfRef, printed-Int, printed-Str, printed-Sym, printed-Local}
use Rattle.ruby_print_tokens.proofs.BytesLevels.{printed-Ivar, printed-Const, printed-Array, printed-Hash, printed-own}
use Rattle.ruby_print_tokens.proofs.BytesLevels.{printed-call, printed-Not, printed-And, printed-Or, printed-Choose}
use Rattle.ruby_print_tokens.proofs.BytesLevels.{printed-Plain, printed-Inside}
use Rattle.ruby_print_tokens.proofs.BytesForms.{Gives, bytes-append, enclosed_bytes, infix_bytes, choice_bytes}
use Rattle.ruby_print_tokens.proofs.BytesForms.{members_bytes, as_member, pairs_are, path_bytes, from, map_map, between}

-- What is shown of the bytes of a formed expression's pieces, by its form.
abbrev pub BytesAt : (f : Form) → Held f → Type 0
BytesAt Formed.one x = (gap : List ℕ) (inside : Bool) → bytes_of (expression x gap inside) ≡ gap ++ printed x inside
BytesAt Formed.some xs = AllByRecursion (λ x. Gives (λ gap. expression x gap true) (inner x)) xs
BytesAt Formed.pairs ps =
    AllByRecursion (λ p. Gives (λ gap. as_member (laid_pair p) gap true) (pair_text (printed_pair p))) ps
BytesAt (Formed.parts b) ps = bytes_of (flat_map part ps) ≡ flat_map printed_part ps

constant_bytes : (c : ConstRef) → IsPath c.path → Gives (λ gap. constant gap c) (constant_text c)
constant_bytes c h gap = by c.top c.path h
  where
    by : (top : Bool) (ns : List (List ℕ)) → IsPath ns → bytes_of (constant gap (record { top = top; path = ns }))
        ≡ gap ++ constant_text (record { top = top; path = ns })
    by top [] h = absurd h
    by true (n ∷ ns) h = ap (λ y. (gap ++ 58 ∷ 58 ∷ []) ++ y) (path_bytes n ns []) ∙ append_assoc gap (58 ∷ 58 ∷ []) _
    by false (n ∷ ns) h = path_bytes n ns gap

arguments_bytes : (xs : List Expr) → BytesAt Formed.some xs → bytes_of (arguments (map expression xs))
    ≡ printed_arguments (map printed xs)
arguments_bytes [] h = refl
arguments_bytes (x ∷ xs) h =
    ap (λ y. 40 ∷ y) (bytes-append (members [] (map expression (x ∷ xs))) (close_paren ∷ [])
    ∙ ap (λ y. y ++ 41 ∷ []) (members_bytes expression inner (x ∷ xs) h ∙ sym (members_of (x ∷ xs))))

index_bytes : (a : Laid) (ta tb : List ℕ) (ps : List Piece) → Gives (λ g. a g true) ta → bytes_of ps ≡ tb →
    Gives (λ gap. a gap true ++ (open_bracket [] ∷ (ps ++ close_bracket ∷ []))) (ta ++ (91 ∷ (tb ++ 93 ∷ [])))
index_bytes a ta tb ps ha hb gap =
    bytes-append (a gap true) _ ∙ ap (λ y. y ++ (91 ∷ bytes_of (ps ++ close_bracket ∷ []))) (ha gap)
    ∙ ap (λ y. (gap ++ ta) ++ (91 ∷ y)) (bytes-append ps (close_bracket ∷ []) ∙ ap (λ y. y ++ 93 ∷ []) hb)
    ∙ append_assoc gap ta _

word_bytes : (x : Expr) (n : List ℕ) (xs : List Expr) → IsWordCall n → BytesAt Formed.one x →
    BytesAt Formed.some xs → (gap : List ℕ) (inside : Bool) →
    bytes_of (call_on (expression x) n (map expression xs) gap inside) ≡ gap ++ printed_call_on (printed x) n
    (map printed xs) inside
word_bytes x n xs w h hs gap inside =
    let e1 : bytes_eq n (codes "[]") ≡ false = w.no_index in
    let e2 : bytes_eq n (codes "-@") ≡ false = w.no_minus in
    let e3 : is_operator n ≡ false = w.no_operator in
    rw (e1, e2, e3) (
    bytes-append (expression x gap true) _ ∙ ap (λ y. y ++ (46 ∷ (n ++ bytes_of (arguments (map expression xs)))))
    (h gap true)
    ∙ ap (λ y. (gap ++ inner x) ++ (46 ∷ (n ++ y))) (arguments_bytes xs hs)
    ∙ append_assoc gap (inner x) _)

operator_bytes : (x y : Expr) (n : List ℕ) → IsOperatorCall n → BytesAt Formed.one x → BytesAt Formed.one y →
    (gap : List ℕ) (inside : Bool) →
    bytes_of (call_on (expression x) n (expression y ∷ []) gap inside) ≡ gap ++ printed_call_on (printed x) n
    (printed y ∷ []) inside
operator_bytes x y n w h g gap inside =
    let e1 : bytes_eq n (codes "[]") ≡ false = w.no_index in
    let e2 : bytes_eq n (codes "-@") ≡ false = w.no_minus in
    let e3 : is_operator n ≡ true = w.operator in
    rw (e1, e2, e3) (enclosed_bytes
    (λ g. expression x g true ++ (mark space (op_of n) n ∷ (expression y space true ++ [])))
    (inner x ++ (32 ∷ (n ++ (32 ∷ inner y))))
    (λ g'. ap (λ z. bytes_of (expression x g' true ++ (mark space (op_of n) n ∷ z)))
    (append-nil (expression y space true))
    ∙ infix_bytes (expression x) (expression y) (op_of n) n (inner x) (inner y) (λ g. h g true) (λ k. g k true) g')
    gap inside)

parts_bytes : (a : Part) (ps : List Part) → bytes_of (part a) ≡ printed_part a →
    bytes_of (flat_map part ps) ≡ flat_map printed_part ps →
    bytes_of (flat_map part (a ∷ ps)) ≡ flat_map printed_part (a ∷ ps)
parts_bytes a ps e h = bytes-append (part a) (flat_map part ps) ∙ ap (λ y. y ++ bytes_of (flat_map part ps)) e
    ∙ ap (λ y. printed_part a ++ y) h

-- The pieces of each form have the bytes that are printed.
pub bytes_at : {names : List Name} {f : Form} {x : Held f} → Formed names f x → BytesAt f x
bytes_at Formed.is_nil = λ gap inside. from gap (laid-Nil gap inside) (append-nil _) (printed-Nil inside)
bytes_at Formed.is_true = λ gap inside. from gap (laid-True gap inside) (append-nil _) (printed-True inside)
bytes_at Formed.is_false = λ gap inside. from gap (laid-False gap inside) (append-nil _) (printed-False inside)
bytes_at Formed.is_self = λ gap inside. from gap (laid-SelfRef gap inside) (append-nil _) (printed-SelfRef inside)
bytes_at (Formed.is_int {n = n} i) = λ gap inside. from gap (laid-Int n gap inside) (append-nil _)
    (printed-Int n inside)
bytes_at (Formed.is_text {ps = ps} h) = λ gap inside. from gap (laid-Str ps gap inside)
    (between gap (34 ∷ []) _ (34 ∷ []) (flat_map part ps) _ (bytes_at h) refl) (printed-Str ps inside)
bytes_at (Formed.is_symbol {n = n} i) = λ gap inside. from gap (laid-Sym n gap inside) (append-nil _)
    (printed-Sym n inside)
bytes_at (Formed.is_local {n = n} i m) = λ gap inside. from gap (laid-Local n gap inside) (append-nil _)
    (printed-Local n inside)
bytes_at (Formed.is_ivar {n = n} i) = λ gap inside. from gap (laid-Ivar n gap inside) (append-nil _)
    (printed-Ivar n inside)
bytes_at (Formed.is_const {c = c} i) = λ gap inside. from gap (laid-Const c gap inside) (constant_bytes c i gap)
    (printed-Const c inside)
bytes_at (Formed.is_array {xs = xs} h) = λ gap inside.
    from gap (laid-Array xs gap inside)
    (between gap (91 ∷ []) _ (93 ∷ []) (members [] (map expression xs)) close_bracket
    (members_bytes expression inner xs (bytes_at h) ∙ sym (members_of xs)) refl) (printed-Array xs inside)
bytes_at (Formed.is_hash {ps = ps} h) = λ gap inside.
    from gap (laid-Hash ps gap inside)
    (between gap (123 ∷ []) _ (125 ∷ []) (pairs (map laid_pair ps)) (mark [] op.CloseBrace (codes "}"))
    (ap bytes_of (pairs_are laid_pair ps)
    ∙ members_bytes (λ p. as_member (laid_pair p)) (λ p. pair_text (printed_pair p)) ps (bytes_at h)
    ∙ ap joined (sym (map_map pair_text printed_pair ps))) refl) (printed-Hash ps inside)
bytes_at (Formed.is_call_on_self {n = n} {xs = xs} i h) = λ gap inside.
    from gap (laid-own n (xs) gap inside)
    (ap (λ y. (gap ++ n) ++ y)
    (between [] (40 ∷ []) _ (41 ∷ []) (members [] (map expression xs)) close_paren
    (members_bytes expression inner xs (bytes_at h) ∙ sym (members_of xs)) refl) ∙ append_assoc gap n _)
    (printed-own n xs inside)
bytes_at (Formed.is_call {x = x} {n = n} {xs = xs} h i g) = λ gap inside.
    from gap (laid-call x n xs gap inside)
    (word_bytes x n xs (is_word_call i.spelled) (bytes_at h) (bytes_at g) gap inside) (printed-call x n xs inside)
bytes_at (Formed.is_index {x = x} {y = y} h g) = λ gap inside.
    from gap (laid-call x (codes "[]") (y ∷ []) gap inside)
    (index_bytes (expression x) (inner x) (inner y) _ (λ k. bytes_at h k true)
    (ap bytes_of (append-nil (expression y [] true)) ∙ bytes_at g [] true) gap)
    (printed-call x (codes "[]") (y ∷ []) inside)
bytes_at (Formed.is_minus {x = x} h) = λ gap inside.
    from gap (laid-call x (codes "-@") [] gap inside)
    (enclosed_bytes (λ g. mark g op.Minus (codes "-") ∷ expression x space true) (codes "- " ++ inner x)
    (λ k. ap (λ y. (k ++ 45 ∷ []) ++ y) (bytes_at h space true) ∙ append_assoc k (45 ∷ []) _) gap inside)
    (printed-call x (codes "-@") [] inside)
bytes_at (Formed.is_operation_of {x = x} {y = y} {n = n} h i g) = λ gap inside.
    from gap (laid-call x n (y ∷ []) gap inside)
    (operator_bytes x y n (operator_call n i) (bytes_at h) (bytes_at g) gap inside)
    (printed-call x n (y ∷ []) inside)
bytes_at (Formed.is_not {x = x} h) = λ gap inside.
    from gap (laid-Not x gap inside)
    (enclosed_bytes (λ g. mark g op.Not (codes "!") ∷ expression x [] true) (33 ∷ inner x)
    (λ k. ap (λ y. (k ++ 33 ∷ []) ++ y) (bytes_at h [] true) ∙ append_assoc k (33 ∷ []) _) gap inside)
    (printed-Not x inside)
bytes_at (Formed.is_and {x = x} {y = y} h g) = λ gap inside.
    from gap (laid-And x y gap inside)
    (enclosed_bytes (infix_body (expression x) op.AndAlso (codes "&&") (expression y)) _
    (infix_bytes (expression x) (expression y) op.AndAlso (codes "&&") (inner x) (inner y)
    (λ k. bytes_at h k true) (λ k. bytes_at g k true)) gap inside) (printed-And x y inside)
bytes_at (Formed.is_or {x = x} {y = y} h g) = λ gap inside.
    from gap (laid-Or x y gap inside)
    (enclosed_bytes (infix_body (expression x) op.OrElse (codes "||") (expression y)) _
    (infix_bytes (expression x) (expression y) op.OrElse (codes "||") (inner x) (inner y)
    (λ k. bytes_at h k true) (λ k. bytes_at g k true)) gap inside) (printed-Or x y inside)
bytes_at (Formed.is_choice {x = x} {y = y} {z = z} h g i) = λ gap inside.
    from gap (laid-Choose x y z gap inside)
    (enclosed_bytes (choice_body (expression x) (expression y) (expression z)) _
    (choice_bytes (expression x) (expression y) (expression z) (inner x) (inner y) (inner z)
    (λ k. bytes_at h k true) (λ k. bytes_at g k true) (λ k. bytes_at i k true)) gap inside)
    (printed-Choose x y z inside)
bytes_at Formed.no_more = tt
bytes_at (Formed.one_more h g) = (λ k. bytes_at h k true, bytes_at g)
bytes_at Formed.no_pairs = tt
bytes_at (Formed.pair_more {x = x} {y = y} h g i) = (
  infix_bytes (expression x) (expression y) op.Arrow (codes "=>") (inner x) (inner y) (λ k. bytes_at h k true)
      (λ k. bytes_at g k true),
  bytes_at i,
)
bytes_at Formed.no_parts = refl
bytes_at (Formed.plain_part {text = t} {ps = ps} n u h) = parts_bytes (p.Plain t) ps (ap bytes_of (part-Plain t)
    ∙ append-nil _ ∙ sym (printed-Plain t)) (bytes_at h)
bytes_at (Formed.inside_part {x = x} {ps = ps} h g) =
    parts_bytes (p.Inside x) ps (ap bytes_of (part-Inside x)
    ∙ between [] (35 ∷ 123 ∷ []) (inner x) (125 ∷ []) (expression x [] true) _ (bytes_at h [] true) refl
    ∙ sym (printed-Inside x)) (bytes_at g)

-- The pieces of an expression have the bytes that it is printed as.
pub bytes_expression : {names : List Name} {x : Expr} → Formed names Formed.one x → (gap : List ℕ) (inside : Bool) →
    bytes_of (expression x gap inside) ≡ gap ++ printed x inside
bytes_expression h = bytes_at h
