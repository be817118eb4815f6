-- Operators, and choices.
use Rattle.std.proofs.Common.{◌≡◌, ℕ, zero, suc, Bool, true, false, ◌||◌, List, [], ◌∷◌, ◌++◌, refl, sym, append-nil}
use Rattle.std.proofs.Common.{codes, Some, bytes_eq, subst}
use Rattle.std.proofs.lemmas.Slice.Eq.{bytes_eq-Decides}
use Rattle.ruby_types.specs.declared.tree.Expr.{Expr}
use Rattle.ruby_types.specs.declared.tree.Expr.TheVariants as expr
use Rattle.descent.specs.Grammar.{first, later}
use Rattle.ruby_token.specs.declared.token.Op.{Op}
use Rattle.ruby_token.specs.declared.token.Op.TheVariants as op
use Rattle.ruby_grammar.specs.Terminals.{Level, units, products, sums, comparisons, equalities, conjunctions}
use Rattle.ruby_grammar.specs.Terminals.{disjunctions}
use Rattle.ruby_grammar.specs.Terminals.{is_operator}
use Rattle.ruby_grammar.specs.Rules.{Name, unary}
use Rattle.ruby_grammar.specs.Rules as rule
use Rattle.ruby_grammar.specs.Statements.{scope}
use Rattle.ruby_grammar.specs.Values.{operation}
use Rattle.ruby_print_pieces.specs.Pieces.{Piece, mark, word_at, space}
use Rattle.ruby_print_pieces.specs.Names.{is_operation}
use Rattle.ruby_print_pieces.specs.Expressions.{expression, enclosed, call_on}
use Rattle.ruby_print_words.proofs.Building.{Reads, reads, given, takes, then_, ends, says, over_rule, valued_rule}
use Rattle.ruby_print_words.proofs.Building.{Eventually, Under, so, both, deeper}
use Rattle.ruby_print_pieces.proofs.Folds.{pieces_of}
use Rattle.ruby_print_words.proofs.Lifting.{Ready, inner, operand, unary_operand, operates, of_unary, loosened, whole}
use Rattle.ruby_print_words.proofs.Lifting.{enclosed_ready}

-- ---- one operand

not_read : (names : List Name) (l : ℕ) (x : Expr) → Under (Ready names x) l → (gap : List ℕ) →
    Reads (rule.expression (scope l names)) (mark gap op.Not (codes "!") ∷ expression x [] true) (expr.Not x)
not_read names zero x r gap = absurd r
not_read names (suc l) x r gap = whole units (scope (suc l) names)
    (of_unary (scope (suc l) names) (reads first (takes (λ n. refl) (λ n. refl) (ends (unary_operand r []) given))))

-- A printed `!` is read as it is.
pub not_ready : {names : List Name} (x : Expr) → Eventually (Ready names x) → Eventually (Ready names (expr.Not x))
not_ready {names} x h = enclosed_ready (λ g. mark g op.Not (codes "!") ∷ expression x [] true)
    (pieces_of (expr.Not x) (expr.outs-Not x)) (so (λ l r. not_read names l x r) (deeper h))

minus_read : (names : List Name) (l : ℕ) (x : Expr) → Under (Ready names x) l → (gap : List ℕ) →
    Reads (rule.expression (scope l names)) (mark gap op.Minus (codes "-") ∷ expression x space true)
    (expr.Call (Some x) (codes "-@") [])
minus_read names zero x r gap = absurd r
minus_read names (suc l) x r gap = whole units (scope (suc l) names)
    (of_unary (scope (suc l) names)
    (reads (later first) (takes (λ n. refl) (λ n. refl) (ends (unary_operand r space) given))))

-- A printed unary minus is read as it is.
pub minus_ready : {names : List Name} (x : Expr) → Eventually (Ready names x) →
    Eventually (Ready names (expr.Call (Some x) (codes "-@") []))
minus_ready {names} x h =
    enclosed_ready (λ g. mark g op.Minus (codes "-") ∷ expression x space true)
    (pieces_of (expr.Call (Some x) (codes "-@") []) (expr.outs-Call (Some x) (codes "-@") []))
    (so (λ l r. minus_read names l x r) (deeper h))

-- ---- two operands

-- the pieces of the second operand may have nothing more behind them
operated : {names : List Name} (k : Level) (o : Op) (text : List ℕ) (x y z : Expr) (vs : List Piece) →
    vs ≡ expression y space true →
    is_operator k (word_at 0 (mark space o text)) ≡ true → operation (word_at 0 (mark space o text)) x y ≡ z →
    ((gap : List ℕ) (inside : Bool) →
    expression z gap inside ≡ enclosed (λ g. expression x g true ++ (mark space o text ∷ vs)) gap inside) →
    Eventually (Ready names x) → Eventually (Ready names y) → Eventually (Ready names z)
operated {names} k o text x y z vs same is value e a b =
    enclosed_ready (λ g. expression x g true ++ (mark space o text ∷ vs)) e
    (so (λ l p gap. valued_rule value
    (whole k (scope l names)
    (operates k (scope l names) o text is (operand p.0 gap) (over_rule same (operand p.1 space))))) (both a b))

-- A printed `&&` is read as it is.
pub and_ready : {names : List Name} (x y : Expr) → Eventually (Ready names x) → Eventually (Ready names y) →
    Eventually (Ready names (expr.And x y))
and_ready x y = operated conjunctions op.AndAlso (codes "&&") x y (expr.And x y) _ refl refl refl
    (pieces_of (expr.And x y) (expr.outs-And x y))

-- A printed `||` is read as it is.
pub or_ready : {names : List Name} (x y : Expr) → Eventually (Ready names x) → Eventually (Ready names y) →
    Eventually (Ready names (expr.Or x y))
or_ready x y = operated disjunctions op.OrElse (codes "||") x y (expr.Or x y) _ refl refl refl
    (pieces_of (expr.Or x y) (expr.outs-Or x y))

-- what holds of each operator's name
by_case : (P : List ℕ → Type 0) (n c : List ℕ) (rest : Bool) → (rest ≡ true → P n) → P c →
    (rest || bytes_eq n c) ≡ true → P n
by_case P n c true k h e = k refl
by_case P n c false k h e = subst P (sym ((bytes_eq-Decides n c).0 e)) h

by_operation : (P : List ℕ → Type 0) → P (codes "*") → P (codes "/") → P (codes "%") → P (codes "+") →
    P (codes "-") → P (codes "<") → P (codes "<=") → P (codes ">") → P (codes ">=") → P (codes "==") →
    (n : List ℕ) → is_operation n ≡ true → P n
by_operation P times divide modulo plus minus less at_most more at_least same n =
    by_case P n _ _ (by_case P n _ _
    (by_case P n _ _ (by_case P n _ _
    (by_case P n _ _ (by_case P n _ _ (by_case P n _ _ (by_case P n _ _ (by_case P n _ _
    (λ e. subst P (sym ((bytes_eq-Decides n (codes "*")).0 e)) times) divide) modulo) plus) minus) less) at_most)
    more) at_least) same

abbrev Operates : List Name → Expr → Expr → List ℕ → Type 0
Operates names x y n = Eventually (Ready names x) → Eventually (Ready names y) →
    Eventually (Ready names (expr.Call (Some x) n (y ∷ [])))

-- one of them
named : {names : List Name} (k : Level) (o : Op) (n : List ℕ) (x y : Expr) →
    is_operator k (word_at 0 (mark space o n)) ≡ true →
    operation (word_at 0 (mark space o n)) x y ≡ expr.Call (Some x) n (y ∷ []) →
    ((gap : List ℕ) (inside : Bool) → expression (expr.Call (Some x) n (y ∷ [])) gap inside
    ≡ enclosed (λ g. expression x g true ++ (mark space o n ∷ (expression y space true ++ []))) gap inside) →
    Operates names x y n
named k o n x y is value e = operated k o n x y (expr.Call (Some x) n (y ∷ [])) (expression y space true ++ [])
    (append-nil (expression y space true)) is value e

call_pieces : (x : Expr) (n : List ℕ) (y : Expr) (gap : List ℕ) (inside : Bool) →
    expression (expr.Call (Some x) n (y ∷ [])) gap inside ≡ call_on (expression x) n (expression y ∷ []) gap inside
call_pieces x n y gap inside = pieces_of (expr.Call (Some x) n (y ∷ [])) (expr.outs-Call (Some x) n (y ∷ [])) gap inside

-- A printed operator is read as it is.
pub operation_ready : {names : List Name} (x y : Expr) (n : List ℕ) → is_operation n ≡ true →
    Eventually (Ready names x) → Eventually (Ready names y) → Eventually (Ready names (expr.Call (Some x) n (y ∷ [])))
operation_ready {names} x y n e = by_operation (Operates names x y)
    (named products op.Times (codes "*") x y refl refl (call_pieces x (codes "*") y))
    (named products op.Divide (codes "/") x y refl refl (call_pieces x (codes "/") y))
    (named products op.Modulo (codes "%") x y refl refl (call_pieces x (codes "%") y))
    (named sums op.Plus (codes "+") x y refl refl (call_pieces x (codes "+") y))
    (named sums op.Minus (codes "-") x y refl refl (call_pieces x (codes "-") y))
    (named comparisons op.Less (codes "<") x y refl refl (call_pieces x (codes "<") y))
    (named comparisons op.AtMost (codes "<=") x y refl refl (call_pieces x (codes "<=") y))
    (named comparisons op.More (codes ">") x y refl refl (call_pieces x (codes ">") y))
    (named comparisons op.AtLeast (codes ">=") x y refl refl (call_pieces x (codes ">=") y))
    (named equalities op.Same (codes "==") x y refl refl (call_pieces x (codes "==") y))
    n e

-- ---- choices

choice_read : (names : List Name) (l : ℕ) (x y z : Expr) → Ready names x l → Ready names y l → Ready names z l →
    (gap : List ℕ) →
    Reads (rule.expression (scope l names))
    (expression x gap true ++
    (mark space op.Ask (codes "?") ∷
    (expression y space true ++ (mark space op.Colon (codes ":") ∷ expression z space true)))) (expr.Choose x y z)
choice_read names l x y z a b c gap =
    reads first (then_ (loosened disjunctions (scope l names) (operand a gap))
    (says (reads first (takes (λ n. refl) (λ n. refl)
    (then_ (inner b space) (takes (λ n. refl) (λ n. refl) (ends (inner c space) given)))))))

-- A printed choice is read as it is.
pub choice_ready : {names : List Name} (x y z : Expr) → Eventually (Ready names x) → Eventually (Ready names y) →
    Eventually (Ready names z) → Eventually (Ready names (expr.Choose x y z))
choice_ready {names} x y z a b c =
    enclosed_ready (λ g. expression x g true ++
    (mark space op.Ask (codes "?") ∷
    (expression y space true ++ (mark space op.Colon (codes ":") ∷ expression z space true))))
    (pieces_of (expr.Choose x y z) (expr.outs-Choose x y z))
    (so (λ l p. choice_read names l x y z p.0 p.1.0 p.1.1) (both a (both b c)))
