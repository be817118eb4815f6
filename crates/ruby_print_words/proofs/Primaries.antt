-- Literals, names and constants.
use Rattle.std.proofs.Common.{◌≡◌, ℕ, Bool, true, false, ◌==◌, List, [], ◌∷◌, ◌++◌, refl, sym, ap, append_assoc}
use Rattle.std.proofs.Common.{append-nil, codes, ℤ, None, if◌then◌else◌}
use Rattle.std.specs.Fmt.{signed_decimal}
use Rattle.ruby_types.specs.declared.tree.ConstRef.{ConstRef}
use Rattle.ruby_types.specs.declared.tree.Expr.TheVariants as expr
use Rattle.descent.specs.Grammar.{first, later}
use Rattle.ruby_token.specs.declared.token.TokenKind.TheVariants as k
use Rattle.ruby_grammar.specs.Terminals.{has, name_terminal, is_name}
use Rattle.ruby_grammar.specs.Rules.{Name, primary, path_rest}
use Rattle.ruby_grammar.specs.Rules as rule
use Rattle.ruby_grammar.specs.Expressions.{opening, call_from}
use Rattle.ruby_grammar.specs.Statements.{scope}
use Rattle.ruby_grammar.proofs.Tools.{among_behind}
use Rattle.ruby_print_pieces.specs.Pieces.{piece, name, path, path_more, colons, word_at}
use Rattle.ruby_print_pieces.specs.Expressions.{constant}
use Rattle.ruby_print_pieces.specs.Names.{IsInRange, IsPath}
use Rattle.ruby_print_pieces.specs.Formed.{IsConstant}
use Rattle.ruby_print_words.proofs.Building.{Reads, reads, given, takes, ends, says, valued}
use Rattle.ruby_print_pieces.proofs.Numbers.{number_back}
use Rattle.ruby_print_pieces.proofs.Folds.{pieces_of}
use Rattle.ruby_print_words.proofs.Lifting.{Ready, primary_ready}

-- A printed `nil` is read as it is.
pub nil_ready : (names : List Name) (l : ℕ) → Ready names expr.Nil l
nil_ready names l = primary_ready (λ gap. name gap (codes "nil") ∷ []) (pieces_of expr.Nil expr.outs-Nil)
    (λ gap. reads (later (later (later first))) (takes (λ n. refl) (λ n. refl) given))

-- A printed `true` is read as it is.
pub true_ready : (names : List Name) (l : ℕ) → Ready names expr.True l
true_ready names l = primary_ready (λ gap. name gap (codes "true") ∷ []) (pieces_of expr.True expr.outs-True)
    (λ gap. reads (later (later (later (later first)))) (takes (λ n. refl) (λ n. refl) given))

-- A printed `false` is read as it is.
pub false_ready : (names : List Name) (l : ℕ) → Ready names expr.False l
false_ready names l = primary_ready (λ gap. name gap (codes "false") ∷ []) (pieces_of expr.False expr.outs-False)
    (λ gap. reads (later (later (later (later (later first))))) (takes (λ n. refl) (λ n. refl) given))

-- A printed `self` is read as it is.
pub self_ready : (names : List Name) (l : ℕ) → Ready names expr.SelfRef l
self_ready names l = primary_ready (λ gap. name gap (codes "self") ∷ []) (pieces_of expr.SelfRef expr.outs-SelfRef)
    (λ gap. reads (later (later (later (later (later (later first)))))) (takes (λ n. refl) (λ n. refl) given))

-- A printed number is read as it is.
pub int_ready : (names : List Name) (l : ℕ) (i : ℤ) → IsInRange i → Ready names (expr.Int i) l
int_ready names l i h = primary_ready (λ gap. piece gap k.Int (signed_decimal i) ∷ [])
    (pieces_of (expr.Int i) (expr.outs-Int i))
    (λ gap. reads first (takes (λ n. refl) (λ n. refl) (valued (ap (λ z. expr.Int z) (number_back i h)) given)))

-- A printed symbol is read as it is.
pub symbol_ready : (names : List Name) (l : ℕ) (n : Name) → Ready names (expr.Sym n) l
symbol_ready names l n = primary_ready (λ gap. piece gap k.Sym (58 ∷ n) ∷ []) (pieces_of (expr.Sym n) (expr.outs-Sym n))
    (λ gap. reads (later (later first)) (takes (λ n. refl) (λ n. refl) given))

-- A printed instance variable is read as it is.
pub ivar_ready : (names : List Name) (l : ℕ) (n : Name) → Ready names (expr.Ivar n) l
ivar_ready names l n = primary_ready (λ gap. piece gap k.Ivar (64 ∷ n) ∷ [])
    (pieces_of (expr.Ivar n) (expr.outs-Ivar n))
    (λ gap. reads (later (later (later (later (later (later (later (later first))))))))
    (takes (λ n. refl) (λ n. refl) given))

-- a name that is no reserved word
pub is_free : (n gap : List ℕ) → name_terminal n ≡ 0 → (at : ℕ) → is_name (word_at at (name gap n)) ≡ true
is_free n gap free at = ap (λ m. m == 0) free

-- A printed local variable is read as one where it is known.
pub local_ready : (names : List Name) (l : ℕ) (n : Name) → name_terminal n ≡ 0 → has names n ≡ true →
    Ready names (expr.Local n) l
local_ready names l n free known = primary_ready (λ gap. name gap n ∷ []) (pieces_of (expr.Local n) (expr.outs-Local n))
    (λ gap. reads (later (later (later (later (later (later (later first))))))) (takes (is_free n gap free) (λ n. refl)
    (says (reads (among_behind (opening l (call_from (scope l names) n)) first)
    (valued (ap (λ b. if b then expr.Local n else expr.Call None n []) known) given)))))

-- ---- constants

-- A path's further names are read as they are.
pub path_reads : (before names : List Name) → Reads (path_rest true None before) (path_more names) (before ++ names)
path_reads before [] = reads (later first) (valued (sym (append-nil before)) given)
path_reads before (n ∷ names) =
    reads first (takes (λ n. refl) (λ n. refl)
    (takes (λ n. refl) (λ n. refl)
    (valued (append_assoc before (n ∷ []) names) (says (path_reads (before ++ n ∷ []) names)))))

constant_read : (top : Bool) (names : List Name) (gap : List ℕ) → IsPath names →
    Reads (rule.constant None) (if top then colons gap ∷ path [] names else path gap names)
    (record { top = top; path = names })
constant_read top [] gap h = absurd h
constant_read true (n ∷ names) gap h =
    reads first (takes (λ n. refl) (λ n. refl) (takes (λ n. refl) (λ n. refl) (ends (path_reads (n ∷ []) names) given)))
constant_read false (n ∷ names) gap h =
    reads (later first) (takes (λ n. refl) (λ n. refl) (ends (path_reads (n ∷ []) names) given))

-- A printed constant is read by its rule.
pub constant_reads : (c : ConstRef) (gap : List ℕ) → IsConstant c → Reads (rule.constant None) (constant gap c) c
constant_reads c gap h = constant_read c.top c.path gap h

-- A printed constant is read as an expression.
pub constant_ready : (names : List Name) (l : ℕ) (c : ConstRef) → IsConstant c → Ready names (expr.Const c) l
constant_ready names l c h = primary_ready (λ gap. constant gap c) (pieces_of (expr.Const c) (expr.outs-Const c))
    (λ gap. reads (later (later (later (later (later (later (later (later (later first)))))))))
    (ends (constant_reads c gap h) given))
