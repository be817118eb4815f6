-- Calls by name, with arguments in parentheses, and calls of `[]`.
use Rattle.std.proofs.Common.{◌≡◌, ℕ, zero, suc, Bool, true, false, ◌==◌, ◌||◌, ◌&&◌, not, List, [], ◌∷◌, ◌++◌, map}
use Rattle.std.proofs.Common.{refl, ap, ◌∙◌, append_assoc, append-nil, codes, Some, None, arith, nat_le, bytes_eq}
use Rattle.std.proofs.Common.{if◌then◌else◌}
use Rattle.std.proofs.lemmas.Bool.Decides.{nat_tests}
use Rattle.ruby_types.specs.declared.tree.Expr.{Expr}
use Rattle.ruby_types.specs.declared.tree.Expr.TheVariants as expr
use Rattle.descent.specs.Grammar.{first, later}
use Rattle.ruby_token.specs.Bytes.{is_lower}
use Rattle.ruby_print.specs.Expressions.{is_operator}
use Rattle.ruby_grammar.specs.Terminals.{name_terminal}
use Rattle.ruby_grammar.specs.Rules.{Name, perhaps_arguments, postfix, more_postfix}
use Rattle.ruby_grammar.specs.Statements.{scope}
use Rattle.ruby_print_pieces.specs.Pieces.{Piece, name, dot, open_paren, close_paren, open_bracket, close_bracket}
use Rattle.ruby_print_pieces.specs.Names.{IsName, unmarked, suffixed, plain_name}
use Rattle.ruby_print_pieces.specs.Expressions.{Laid, expression, members, arguments, call_on}
use Rattle.ruby_print_words.proofs.Building.{Reads, reads, given, takes, then_, says, over, over_rule, Under}
use Rattle.ruby_print_pieces.proofs.Folds.{pieces_of}
use Rattle.ruby_print_words.proofs.Lifting.{Ready, inner, primary_ready, open_ready}
use Rattle.ruby_print_words.proofs.Primaries.{is_free}
use Rattle.ruby_print_words.proofs.Lists.{Members}

-- ---- on self

-- A printed call on self is read as it is.
pub self_call_ready : (names : List Name) (l : ℕ) (n : Name) (xs : List Expr) → name_terminal n ≡ 0 →
    Under (Members names xs) l → Ready names (expr.Call None n xs) l
self_call_ready names zero n xs free h = absurd h
self_call_ready names (suc l) n xs free h =
    primary_ready (λ gap. name gap n ∷ open_paren [] ∷ (members [] (map expression xs) ++ close_paren ∷ []))
    (pieces_of (expr.Call None n xs) (expr.outs-Call None n xs))
    (λ gap. reads (later (later (later (later (later (later (later first))))))) (takes (is_free n gap free) (λ n. refl)
    (says (reads first (takes (λ n. refl) (λ n. refl) (then_ (h.read [] []) (takes (λ n. refl) (λ n. refl) given)))))))

-- ---- on an expression

arguments_read : (names : List Name) (l : ℕ) (xs : List Expr) → Under (Members names xs) l →
    Reads (perhaps_arguments (scope l names)) (arguments (map expression xs)) xs
arguments_read names zero xs h = absurd h
arguments_read names (suc l) [] h = reads (later first) given
arguments_read names (suc l) (x ∷ xs) h =
    reads first (takes (λ n. refl) (λ n. refl) (then_ (h.read [] []) (takes (λ n. refl) (λ n. refl) given)))

-- a byte that names begin with
lower_facts : (b : ℕ) → is_lower b ≡ true → ((b == 91) ≡ false) × ((b == 45) ≡ false)
    × (not ((nat_le 97 b && nat_le b 122) || (b == 95)) ≡ false)
lower_facts b h = (grind (arith, nat_tests), grind (arith, nat_tests), ap not h)

pick_last : (p q r : Bool) (a b c d : List Piece) → p ≡ false → q ≡ false → r ≡ false →
    (if p then a else (if q then b else (if r then c else d))) ≡ d
pick_last true q r a b c d e f g = cc
pick_last false true r a b c d e f g = cc
pick_last false false true a b c d e f g = cc
pick_last false false false a b c d e f g = refl

by_lower : (on : Laid) (b : ℕ) (t : List ℕ) (args : List Laid) (gap : List ℕ) (inside : Bool) → is_lower b ≡ true →
    call_on on (b ∷ t) args gap inside ≡ on gap true ++ (dot ∷ name [] (b ∷ t) ∷ arguments args)
by_lower on b t args gap inside h =
    let f = lower_facts b h in
    pick_last (bytes_eq (b ∷ t) (codes "[]")) (bytes_eq (b ∷ t) (codes "-@")) (is_operator (b ∷ t)) _ _ _ _ (rw f.0)
    (rw f.1) f.2

by_name : (on : Laid) (n : List ℕ) (args : List Laid) (gap : List ℕ) (inside : Bool) → IsName n →
    call_on on n args gap inside ≡ on gap true ++ (dot ∷ name [] n ∷ arguments args)
by_name on n args gap inside (unmarked (plain_name {b} {t} h every)) = by_lower on b t args gap inside h
by_name on n args gap inside (suffixed q (plain_name {b} {t} h every) is) =
    by_lower on b (t ++ q ∷ []) args gap inside h

call_goes_on : {names : List Name} {l : ℕ} (x : Expr) (n : Name) (xs : List Expr) → name_terminal n ≡ 0 →
    Ready names x l → Under (Members names xs) l →
    (gap : List ℕ) (more : List Piece) (y : Expr) →
    Reads (more_postfix (scope l names) (expr.Call (Some x) n xs)) more y →
    Reads (postfix (scope l names))
    ((expression x gap true ++ (dot ∷ name [] n ∷ arguments (map expression xs))) ++ more) y
call_goes_on {names} {l} x n xs free r h gap more y g =
    over_rule (append_assoc (expression x gap true) (dot ∷ name [] n ∷ arguments (map expression xs)) more)
    (r.inside gap (dot ∷ name [] n ∷ (arguments (map expression xs) ++ more)) y
    (reads first (takes (λ n. refl) (λ n. refl)
    (takes (is_free n [] free) (λ n. refl) (then_ (arguments_read names l xs h) (says g))))))

-- A printed call behind a point is read as it is.
pub call_ready : (names : List Name) (l : ℕ) (x : Expr) (n : Name) (xs : List Expr) → IsName n → name_terminal n ≡ 0 →
    Ready names x l → Under (Members names xs) l → Ready names (expr.Call (Some x) n xs) l
call_ready names l x n xs named free r h =
    open_ready (λ gap. expression x gap true ++ (dot ∷ name [] n ∷ arguments (map expression xs)))
    (λ gap inside. pieces_of (expr.Call (Some x) n xs) (expr.outs-Call (Some x) n xs) gap inside
    ∙ by_name (expression x) n (map expression xs) gap inside named)
    (call_goes_on x n xs free r h)

-- ---- `on[x]`

index_goes_on : (names : List Name) (l : ℕ) (x y : Expr) → Ready names x l → Under (Ready names y) l →
    (gap : List ℕ) (more : List Piece) (z : Expr) →
    Reads (more_postfix (scope l names) (expr.Call (Some x) (codes "[]") (y ∷ []))) more z →
    Reads (postfix (scope l names))
    ((expression x gap true ++ (open_bracket [] ∷ (members [] (expression y ∷ []) ++ close_bracket ∷ []))) ++
    more) z
index_goes_on names zero x y r h gap more z g = absurd h
index_goes_on names (suc l) x y r h gap more z g =
    over_rule (append_assoc (expression x gap true) _ more)
    (r.inside gap (open_bracket [] ∷ ((members [] (expression y ∷ []) ++ close_bracket ∷ []) ++ more)) z
    (reads (later first) (takes (λ n. refl) (λ n. refl)
    (over (append_assoc (members [] (expression y ∷ [])) (close_bracket ∷ []) more)
    (then_ (over_rule (append-nil (expression y [] true)) (inner h [])) (takes (λ n. refl) (λ n. refl) (says g)))))))

-- A printed index is read as it is.
pub index_ready : (names : List Name) (l : ℕ) (x y : Expr) → Ready names x l → Under (Ready names y) l →
    Ready names (expr.Call (Some x) (codes "[]") (y ∷ [])) l
index_ready names l x y r h =
    open_ready (λ gap. expression x gap true ++
    (open_bracket [] ∷ (members [] (expression y ∷ []) ++ close_bracket ∷ [])))
    (pieces_of (expr.Call (Some x) (codes "[]") (y ∷ [])) (expr.outs-Call (Some x) (codes "[]") (y ∷ [])))
    (index_goes_on names l x y r h)
