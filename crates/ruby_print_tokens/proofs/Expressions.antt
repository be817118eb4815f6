-- The lexer finds the pieces of an expression, whatever stands behind it, if that stops it.
use Rattle.std.proofs.Common.{◌≡◌, ℕ, Bool, true, false, List, [], ◌∷◌, ◌++◌, map, refl, ap, sym, subst, ◌∙◌, codes}
use Rattle.std.proofs.Common.{arith, ◌==◌}
use Rattle.std.specs.List.{flat_map, AllByRecursion}
use Rattle.std.specs.Str.{bytes_eq}
use Rattle.std.specs.Char.{is_ascii_uppercase}
use Rattle.std.specs.Fmt.{signed_decimal}
use Rattle.std.proofs.lemmas.Bool.Decides.{nat_tests}
use Rattle.ruby_types.specs.declared.tree.Expr.{Expr}
use Rattle.ruby_token.specs.declared.token.Op.TheVariants as op
use Rattle.ruby_token.specs.declared.state.State.{State}
use Rattle.ruby_token.specs.Bytes.{is_lower}
use Rattle.ruby_token.specs.State.{is_valueless}
use Rattle.ruby_grammar.specs.Rules.{Name}
use Rattle.ruby_types.specs.Paths.{path_text}
use Rattle.ruby_print.specs.Pieces.{constant_text}
use Rattle.ruby_print.specs.Expressions.{inner, call_on as printed_call_on, is_operator}
use Rattle.ruby_print.specs.Expressions.{expression as printed}
use Rattle.ruby_print_pieces.specs.Pieces.{mark, space}
use Rattle.ruby_print_pieces.specs.Expressions.{expression, part, members, pairs}
use Rattle.ruby_print_pieces.specs.Names.{IsName, IsConstName, capital, IsPath}
use Rattle.ruby_print_pieces.specs.Formed
use Rattle.ruby_print_pieces.specs.Formed.{Form, Held, Formed}
use Rattle.ruby_print_tokens.specs.Flows.{Flows, stops, Begins, Ends}
use Rattle.ruby_print_tokens.proofs.SinglesNames.{name_of, IsWordCall, is_word_call, IsOperatorCall, operator_call}
use Rattle.ruby_print_tokens.proofs.SinglesNames.{infix_of, and_also, or_else, arrow}
use Rattle.ruby_print_tokens.proofs.SinglesNumbers.{short_number, number_of}
use Rattle.ruby_print_pieces.proofs.Numbers.{printed_in_range}
use Rattle.ruby_print_tokens.proofs.SinglesRange.{range_short}
use Rattle.ruby_print_tokens.proofs.BytesLevels.{printed-Nil, printed-True, printed-False, printed-SelfRef, printed-Int}
use Rattle.ruby_print_tokens.proofs.BytesLevels.{printed-Str, printed-Sym, printed-Local, printed-Ivar, printed-Const}
use Rattle.ruby_print_tokens.proofs.BytesLevels.{printed-Array, printed-Hash, printed-own, printed-call, printed-Not}
use Rattle.ruby_print_tokens.proofs.BytesLevels.{printed-And, printed-Or, printed-Choose}
use Rattle.ruby_print_tokens.proofs.BytesForms.{as_member, pairs_are}
use Rattle.ruby_print_tokens.proofs.Bytes.{bytes_at}
use Rattle.ruby_print_tokens.proofs.ExpressionsLevels.{infix_body, choice_body, laid_pair, laid-Nil, laid-True}
use Rattle.ruby_print_tokens.proofs.ExpressionsLevels.{laid-False, laid-SelfRef, laid-Int, laid-Str, laid-Sym}
use Rattle.ruby_print_tokens.proofs.ExpressionsLevels.{laid-Local, laid-Ivar, laid-Const, laid-Array, laid-Hash}
use Rattle.ruby_print_tokens.proofs.ExpressionsLevels.{laid-own, laid-call, laid-Not, laid-And, laid-Or, laid-Choose}
use Rattle.ruby_print_tokens.proofs.ExpressionsForms.{Body, as_body, Kept, bracket_body, brace_body, enclosed_body}
use Rattle.ruby_print_tokens.proofs.ExpressionsForms.{infix_flow, choice_flow, minus_flow, not_flow, Starts}
use Rattle.ruby_print_tokens.proofs.ExpressionsForms.{members_kept}
use Rattle.ruby_print_tokens.proofs.ExpressionsWords.{word_body, local_body, ivar_body, symbol_body, number_body}
use Rattle.ruby_print_tokens.proofs.ExpressionsWords.{const_body, own_body, word_call_body, operator_body, index_body}
use Rattle.ruby_print_tokens.proofs.ExpressionsTexts.{InText, NoPlain, text_body, no_parts_flow, plain_flow}
use Rattle.ruby_print_tokens.proofs.ExpressionsTexts.{inside_flow, inside_no_plain}

-- ---- what an expression inside another begins with

starts_of : {i t : List ℕ} (b : ℕ) (u : List ℕ) → i ≡ t → t ≡ b ∷ u → (b == 61) ≡ false → (b == 126) ≡ false → Starts i
starts_of b u e f g h = record { first = b; others = u; whole = e ∙ f; no_assign = g; no_match = h }

no_assign_lower : (b : ℕ) → is_lower b ≡ true → (b == 61) ≡ false
no_assign_lower b h = grind (arith, nat_tests)

no_match_lower : (b : ℕ) → is_lower b ≡ true → (b == 126) ≡ false
no_match_lower b h = grind (arith, nat_tests)

no_assign_upper : (b : ℕ) → is_ascii_uppercase b ≡ true → (b == 61) ≡ false
no_assign_upper b h = grind (arith, nat_tests)

no_match_upper : (b : ℕ) → is_ascii_uppercase b ≡ true → (b == 126) ≡ false
no_match_upper b h = grind (arith, nat_tests)

starts_name : {n : List ℕ} (u : List ℕ) → IsName n → Starts (n ++ u)
starts_name u i = let f = name_of i in
    record {
      first = f.first;
      others = f.tail ++ u;
      whole = ap (λ y. y ++ u) f.whole;
      no_assign =
          no_assign_lower f.first f.lower;
      no_match = no_match_lower f.first f.lower;
    }

starts_more : {t : List ℕ} (u : List ℕ) → Starts t → Starts (t ++ u)
starts_more u s = record {
  first = s.first;
  others = s.others ++ u;
  whole = ap (λ y. y ++ u) s.whole;
  no_assign =
      s.no_assign;
  no_match = s.no_match;
}

starts_path : (m : List ℕ) (ns : List (List ℕ)) → IsConstName m → Starts (path_text (m ∷ ns))
starts_path _ [] (capital {b = b} {t = t} h e) =
    record { first = b; others = t; whole = refl; no_assign = no_assign_upper b h; no_match = no_match_upper b h }
starts_path _ (n ∷ ns) (capital {b = b} {t = t} h e) =
    record {
      first = b;
      others = t ++ (58 ∷ 58 ∷ path_text (n ∷ ns));
      whole = refl;
      no_assign = no_assign_upper b h;
      no_match = no_match_upper b h;
    }

starts_const : (top : Bool) (ns : List (List ℕ)) → IsPath ns → Starts (constant_text (record { top = top; path = ns }))
starts_const top [] h = absurd h
starts_const true (m ∷ ns) h = record { first = 58; others = _; whole = refl; no_assign = refl; no_match = refl }
starts_const false (m ∷ ns) h = starts_path m ns h.0

starts_word : (x : Expr) (n : List ℕ) (xs : List Expr) → IsWordCall n → Starts (inner x) →
    Starts (printed_call_on (printed x) n (map printed xs) true)
starts_word x n xs w s =
    let e1 : bytes_eq n (codes "[]") ≡ false = w.no_index in
    let e2 : bytes_eq n (codes "-@") ≡ false = w.no_minus in
    let e3 : is_operator n ≡ false = w.no_operator in
    rw (e1, e2, e3) (starts_more _ s)

starts_operator : (x : Expr) (n : List ℕ) (xs : List Expr) → IsOperatorCall n →
    Starts (printed_call_on (printed x) n (map printed xs) true)
starts_operator x n xs w =
    let e1 : bytes_eq n (codes "[]") ≡ false = w.no_index in
    let e2 : bytes_eq n (codes "-@") ≡ false = w.no_minus in
    let e3 : is_operator n ≡ true = w.operator in
    rw (e1, e2, e3) (record { first = 40; others = _; whole = refl; no_assign = refl; no_match = refl })

abbrev StartsAt : (f : Form) → Held f → Type 0
StartsAt Formed.one x = Starts (inner x)
StartsAt Formed.some xs = Unit {0}
StartsAt Formed.pairs ps = Unit {0}
StartsAt (Formed.parts b) ps = Unit {0}

starts_at : {names : List Name} {f : Form} {x : Held f} → Formed names f x → StartsAt f x
starts_at Formed.is_nil = starts_of 110 _ (printed-Nil true) refl refl refl
starts_at Formed.is_true = starts_of 116 _ (printed-True true) refl refl refl
starts_at Formed.is_false = starts_of 102 _ (printed-False true) refl refl refl
starts_at Formed.is_self = starts_of 115 _ (printed-SelfRef true) refl refl refl
starts_at (Formed.is_int {n = n} i) = let f = number_of (signed_decimal n) (short_number n (range_short n i)) in
    starts_of f.first f.others (printed-Int n true) f.whole f.no_assign f.no_match
starts_at (Formed.is_text {ps = ps} h) = starts_of 34 _ (printed-Str ps true) refl refl refl
starts_at (Formed.is_symbol {n = n} i) = starts_of 58 _ (printed-Sym n true) refl refl refl
starts_at (Formed.is_local {n = n} i m) = let f = name_of i.spelled in
    starts_of f.first f.tail (printed-Local n true) f.whole (no_assign_lower f.first f.lower)
    (no_match_lower f.first f.lower)
starts_at (Formed.is_ivar {n = n} i) = starts_of 64 _ (printed-Ivar n true) refl refl refl
starts_at (Formed.is_const {c = c} i) = subst Starts (sym (printed-Const c true)) (starts_const c.top c.path i)
starts_at (Formed.is_array {xs = xs} h) = starts_of 91 _ (printed-Array xs true) refl refl refl
starts_at (Formed.is_hash {ps = ps} h) = starts_of 123 _ (printed-Hash ps true) refl refl refl
starts_at (Formed.is_call_on_self {n = n} {xs = xs} i h) = subst Starts (sym (printed-own n xs true))
    (starts_name _ i.spelled)
starts_at (Formed.is_call {x = x} {n = n} {xs = xs} h i g) = subst Starts (sym (printed-call x n xs true))
    (starts_word x n xs (is_word_call i.spelled) (starts_at h))
starts_at (Formed.is_index {x = x} {y = y} h g) = subst Starts (sym (printed-call x (codes "[]") (y ∷ []) true))
    (starts_more _ (starts_at h))
starts_at (Formed.is_minus {x = x} h) = starts_of 40 _ (printed-call x (codes "-@") [] true) refl refl refl
starts_at (Formed.is_operation_of {x = x} {y = y} {n = n} h i g) =
    subst Starts (sym (printed-call x n (y ∷ []) true)) (starts_operator x n (y ∷ []) (operator_call n i))
starts_at (Formed.is_not {x = x} h) = starts_of 40 _ (printed-Not x true) refl refl refl
starts_at (Formed.is_and {x = x} {y = y} h g) = starts_of 40 _ (printed-And x y true) refl refl refl
starts_at (Formed.is_or {x = x} {y = y} h g) = starts_of 40 _ (printed-Or x y true) refl refl refl
starts_at (Formed.is_choice {x = x} {y = y} {z = z} h g i) = starts_of 40 _ (printed-Choose x y z true) refl refl refl
starts_at Formed.no_more = tt
starts_at (Formed.one_more h g) = tt
starts_at Formed.no_pairs = tt
starts_at (Formed.pair_more h g i) = tt
starts_at Formed.no_parts = tt
starts_at (Formed.plain_part n u h) = tt
starts_at (Formed.inside_part h g) = tt

-- ---- all forms

abbrev FlowsAt : (f : Form) → Held f → Type 0
FlowsAt Formed.one x = (inside : Bool) → Body (λ gap. expression x gap inside)
FlowsAt Formed.some xs = AllByRecursion (λ x. Body (λ gap. expression x gap true)) xs
FlowsAt Formed.pairs ps = AllByRecursion (λ p. Body (λ gap. as_member (laid_pair p) gap true)) ps
FlowsAt (Formed.parts b) ps = InText (flat_map part ps) × (b ≡ false → NoPlain (flat_map part ps))

nil_value : is_valueless (codes "nil") ≡ false
unfolding is_valueless
nil_value = refl

true_value : is_valueless (codes "true") ≡ false
unfolding is_valueless
true_value = refl

false_value : is_valueless (codes "false") ≡ false
unfolding is_valueless
false_value = refl

self_value : is_valueless (codes "self") ≡ false
unfolding is_valueless
self_value = refl

flows_at : {names : List Name} {f : Form} {x : Held f} → Formed names f x → FlowsAt f x
flows_at Formed.is_nil = λ inside. as_body (λ gap. laid-Nil gap inside)
    (word_body _ _ refl (refl, (refl, tt)) nil_value)
flows_at Formed.is_true = λ inside. as_body (λ gap. laid-True gap inside)
    (word_body _ _ refl (refl, (refl, (refl, tt))) true_value)
flows_at Formed.is_false = λ inside. as_body (λ gap. laid-False gap inside)
    (word_body _ _ refl (refl, (refl, (refl, (refl, tt)))) false_value)
flows_at Formed.is_self = λ inside. as_body (λ gap. laid-SelfRef gap inside)
    (word_body _ _ refl (refl, (refl, (refl, tt))) self_value)
flows_at (Formed.is_int {n = n} i) = λ inside. as_body (λ gap. laid-Int n gap inside)
    (number_body (signed_decimal n) (printed_in_range n i) (short_number n (range_short n i)))
flows_at (Formed.is_text {ps = ps} h) = λ inside. as_body (λ gap. laid-Str ps gap inside)
    (text_body (flat_map part ps) (flows_at h).0)
flows_at (Formed.is_symbol {n = n} i) = λ inside. as_body (λ gap. laid-Sym n gap inside) (symbol_body n i)
flows_at (Formed.is_local {n = n} i m) = λ inside. as_body (λ gap. laid-Local n gap inside) (local_body n i)
flows_at (Formed.is_ivar {n = n} i) = λ inside. as_body (λ gap. laid-Ivar n gap inside) (ivar_body n i)
flows_at (Formed.is_const {c = c} i) = λ inside. as_body (λ gap. laid-Const c gap inside) (const_body c i)
flows_at (Formed.is_array {xs = xs} h) = λ inside. as_body (λ gap. laid-Array xs gap inside)
    (bracket_body (members [] (map expression xs)) (members_kept expression xs (flows_at h)))
flows_at (Formed.is_hash {ps = ps} h) = λ inside. as_body (λ gap. laid-Hash ps gap inside)
    (brace_body (pairs (map laid_pair ps))
    (subst Kept (sym (pairs_are laid_pair ps)) (members_kept (λ p. as_member (laid_pair p)) ps (flows_at h))))
flows_at (Formed.is_call_on_self {n = n} {xs = xs} i h) = λ inside. as_body (λ gap. laid-own n xs gap inside)
    (own_body n (members [] (map expression xs)) i (members_kept expression xs (flows_at h)))
flows_at (Formed.is_call {x = x} {n = n} {xs = xs} h i g) = λ inside. as_body (λ gap. laid-call x n xs gap inside)
    (word_call_body (expression x) expression n xs i (is_word_call i.spelled) (flows_at h true) (flows_at g) inside)
flows_at (Formed.is_index {x = x} {y = y} h g) = λ inside.
    as_body (λ gap. laid-call x (codes "[]") (y ∷ []) gap inside)
    (index_body (expression x) (expression y) (flows_at h true)
    (members_kept expression (y ∷ []) (flows_at g true, tt)))
flows_at (Formed.is_minus {x = x} h) = λ inside. as_body (λ gap. laid-call x (codes "-@") [] gap inside)
    (enclosed_body (λ g. mark g op.Minus (codes "-") ∷ expression x space true)
    (minus_flow (expression x) (inner x) (flows_at h true) (λ g. bytes_at h g true)) inside)
flows_at (Formed.is_operation_of {x = x} {y = y} {n = n} h i g) = λ inside.
    as_body (λ gap. laid-call x n (y ∷ []) gap inside)
    (operator_body (expression x) (expression y) n (inner y) (operator_call n i) (infix_of n i) (flows_at h true)
    (flows_at g true) (λ k. bytes_at g k true) inside)
flows_at (Formed.is_not {x = x} h) = λ inside. as_body (λ gap. laid-Not x gap inside)
    (enclosed_body (λ g. mark g op.Not (codes "!") ∷ expression x [] true)
    (not_flow (expression x) (inner x) (flows_at h true) (λ g. bytes_at h g true) (starts_at h)) inside)
flows_at (Formed.is_and {x = x} {y = y} h g) = λ inside. as_body (λ gap. laid-And x y gap inside)
    (enclosed_body (infix_body (expression x) op.AndAlso (codes "&&") (expression y))
    (infix_flow (expression x) (expression y) op.AndAlso (codes "&&") (inner y) and_also (flows_at h true)
    (flows_at g true) (λ k. bytes_at g k true)) inside)
flows_at (Formed.is_or {x = x} {y = y} h g) = λ inside. as_body (λ gap. laid-Or x y gap inside)
    (enclosed_body (infix_body (expression x) op.OrElse (codes "||") (expression y))
    (infix_flow (expression x) (expression y) op.OrElse (codes "||") (inner y) or_else (flows_at h true)
    (flows_at g true) (λ k. bytes_at g k true)) inside)
flows_at (Formed.is_choice {x = x} {y = y} {z = z} h g i) = λ inside. as_body (λ gap. laid-Choose x y z gap inside)
    (enclosed_body (choice_body (expression x) (expression y) (expression z))
    (choice_flow (expression x) (expression y) (expression z) (inner y) (inner z) (flows_at h true)
    (flows_at g true) (flows_at i true) (λ k. bytes_at g k true) (λ k. bytes_at i k true)) inside)
flows_at Formed.no_more = tt
flows_at (Formed.one_more h g) = (flows_at h true, flows_at g)
flows_at Formed.no_pairs = tt
flows_at (Formed.pair_more {x = x} {y = y} h g i) = (
  infix_flow (expression x) (expression y) op.Arrow (codes "=>") (inner y) arrow (flows_at h true)
      (flows_at g true) (λ k. bytes_at g k true),
  flows_at i,
)
flows_at Formed.no_parts = (no_parts_flow, λ e rest. refl)
flows_at (Formed.plain_part {text = t} {ps = ps} n u h) =
    (plain_flow t (flat_map part ps) n ((flows_at h).1 refl) (flows_at h).0, λ e. cc)
flows_at (Formed.inside_part {x = x} {ps = ps} h g) =
    (inside_flow x (flat_map part ps) (flows_at h true) (flows_at g).0, λ e. inside_no_plain x (flat_map part ps))

-- The law of expressions: the lexer finds their pieces.
pub flows_expression : {names : List Name} {x : Expr} → Formed names Formed.one x →
    (gap : List ℕ) (inside : Bool) (s : State) (n : ℕ) (rest : List ℕ) → Begins s gap → stops rest ≡ true →
    (end : State) × Flows rest s n (expression x gap inside) end × Ends s end
flows_expression h gap inside s n rest b g = let f = flows_at h inside gap s n rest b g in (f.end, f.flows, f.so)
