-- The arms of an `if`, its `else` and its `end`.
use Rattle.std.proofs.Common.{◌≡◌, ℕ, false, List, [], ◌∷◌, ◌++◌, map, refl, ap, sym, ◌∙◌, arith, append_assoc}
use Rattle.std.proofs.Common.{append-nil, IsUtf8, codes}
use Rattle.std.proofs.lemmas.Str.{IsUtf8-append, IsUtf8-nil}
use Rattle.ruby_types.specs.declared.tree.Expr.{Expr}
use Rattle.ruby_types.specs.declared.tree.Stmt.{Stmt}
use Rattle.ruby_types.specs.declared.tree.Stmt.TheOpen as s
use Rattle.ruby_grammar.specs.Rules.{Name}
use Rattle.ruby_print.specs.Expressions as print_expressions
use Rattle.ruby_print.specs.Statements as print
use Rattle.ruby_print_pieces.specs.Pieces.{Piece, bytes_of, name, space}
use Rattle.ruby_print_pieces.specs.Expressions.{alone}
use Rattle.ruby_print_pieces.specs.Formed.{Formed, one}
use Rattle.ruby_print_pieces.specs.Statements.{Placed, inside, arms, otherwise, statement, statement_step}
use Rattle.ruby_print_tokens.specs.Flows.{IsSpaces}
use Rattle.ruby_print_tokens.proofs.Reading.{bytes_append}
use Rattle.ruby_print_tokens.proofs.Utf8.{utf8_ascii, Good, good_then}
use Rattle.ruby_print_tokens.proofs.Utf8Expressions.{good_expression}
use Rattle.ruby_print_tokens.proofs.Bytes.{bytes_expression}
use Rattle.ruby_print_tokens.proofs.StatementsRuns.{Run, nothing, behind, weaker, Fresh, code_no_value, code_no_join}
use Rattle.ruby_print_tokens.proofs.StatementsWords.{Breaks}
use Rattle.ruby_print_tokens.proofs.StatementsMarks.{NoEnds, spaces_no_ends, token_no_ends}
use Rattle.ruby_print_tokens.proofs.StatementsLines.{alone_run, alone_breaks, Item, EachItem, inside_run, inside_bytes}
use Rattle.ruby_print_tokens.proofs.StatementsLines.{utf8_inside, end_run, end_leads}
use Rattle.ruby_print_tokens.proofs.StatementsSimple.{IsOpener, opener_run, opener_good, if_opener, elsif_opener}
use Rattle.ruby_print_tokens.proofs.StatementsSimple.{else_opener}

-- ---- arms

-- A condition is formed where some variables are known.
abbrev pub Told : Expr → Type 0
Told x = (names : List Name) × Formed names one x

-- Each arm has a formed condition and statements that are found.
abbrev pub EachArm : List (Expr × List Stmt) → Type 0
EachArm [] = Unit {0}
EachArm (a ∷ as') = Told a.0 × EachItem (map statement a.1) (map print.statement a.1) × EachArm as'

abbrev laid : List (Expr × List Stmt) → List (Expr × List Placed)
laid as' = map (λ a. (a.0, map statement a.1)) as'

abbrev printed : List (Expr × List Stmt) → List (Expr × List print.Placed)
printed as' = map (λ a. (a.0, map print.statement a.1)) as'

word_leads : (w : List ℕ) (ps : List Piece) (indent rest : List ℕ) → IsOpener w → IsSpaces indent →
    NoEnds (bytes_of (name indent w ∷ ps) ++ rest)
word_leads w ps indent rest o i =
    rw (append_assoc (indent ++ w) (bytes_of ps) rest, append_assoc indent w (bytes_of ps ++ rest))
    (spaces_no_ends indent _ i (token_no_ends w _ (opener_good o).first))

arms_leads : (as' : List (Expr × List Stmt)) (w indent rest : List ℕ) → IsOpener w → IsSpaces indent → NoEnds rest →
    NoEnds (bytes_of (arms indent w (laid as')) ++ rest)
arms_leads [] w indent rest o i e = e
arms_leads (a ∷ as') w indent rest o i e =
    word_leads w (alone a.0 ++ (inside indent (map statement a.1) ++ arms indent (codes "elsif") (laid as'))) indent
    rest o i

condition_breaks : {names : List Name} {x : Expr} → Formed names one x → (qs : List Piece) (rest : List ℕ) →
    Breaks (bytes_of (alone x ++ qs) ++ rest)
condition_breaks {x = x} h qs rest =
    rw (bytes_append (alone x) qs, append_assoc (bytes_of (alone x)) (bytes_of qs) rest)
    (alone_breaks h (bytes_of qs ++ rest))

arms_run : (as' : List (Expr × List Stmt)) (w indent : List ℕ) → EachArm as' → IsOpener w → IsSpaces indent →
    Run Fresh NoEnds (arms indent w (laid as')) Fresh
arms_run [] w indent h o i = nothing NoEnds
arms_run (a ∷ as') w indent h o i =
    behind (opener_run o indent i)
    (λ rest r. condition_breaks h.0.1
    (inside indent (map statement a.1) ++ arms indent (codes "elsif") (laid as')) rest)
    (behind (weaker code_no_value (λ rest r. r) (λ s c. c) (alone_run h.0.1)) (λ rest r. refl)
    (behind (inside_run (map statement a.1) (map print.statement a.1) indent h.1 i)
    (λ rest r. arms_leads as' (codes "elsif") indent rest elsif_opener i r)
    (arms_run as' (codes "elsif") indent h.2 elsif_opener i)))

-- indent, word, white, condition, lines, later arms
arm_shape : (i w c l m n : List ℕ) → m ++ i ≡ i ++ n → ((i ++ w) ++ ((space ++ c) ++ (l ++ m))) ++ i
    ≡ i ++ ((w ++ space) ++ (c ++ ((l ++ i) ++ n)))
arm_shape i w c l m n e = simp append_assoc (ap (λ t. i ++ (w ++ (32 ∷ (c ++ (l ++ t))))) e)

arms_bytes : (as' : List (Expr × List Stmt)) (w indent : List ℕ) → EachArm as' →
    bytes_of (arms indent w (laid as')) ++ indent ≡ indent ++ print.arms indent (w ++ space) (printed as')
arms_bytes [] w indent h = sym (append-nil indent)
arms_bytes (a ∷ as') w indent h =
    let xs : List Placed = map statement a.1 in
    let later : List Piece = arms indent (codes "elsif") (laid as') in
    let condition : List ℕ = print_expressions.alone a.0 in
    let all : bytes_of (alone a.0 ++ (inside indent xs ++ later))
    ≡ (space ++ condition) ++ (bytes_of (inside indent xs) ++ bytes_of later) =
    bytes_append (alone a.0) (inside indent xs ++ later)
    ∙ ap (λ b. b ++ bytes_of (inside indent xs ++ later)) (bytes_expression h.0.1 space false)
    ∙ ap (λ b. (space ++ condition) ++ b) (bytes_append (inside indent xs) later)
    in
    ap (λ b. ((indent ++ w) ++ b) ++ indent) all
    ∙ arm_shape indent w condition (bytes_of (inside indent xs)) (bytes_of later) _
    (arms_bytes as' (codes "elsif") indent h.2)
    ∙ ap (λ b. indent ++ ((w ++ space) ++ (condition ++ (b ++ print.arms indent (codes "elsif ") (printed as')))))
    (inside_bytes xs (map print.statement a.1) indent h.1)

utf8_arms : (as' : List (Expr × List Stmt)) (w indent : List ℕ) → EachArm as' → IsUtf8 w → IsSpaces indent →
    IsUtf8 (print.arms indent w (printed as'))
utf8_arms [] w indent h u i = IsUtf8-nil
utf8_arms (a ∷ as') w indent h u i =
    IsUtf8-append w _ u (IsUtf8-append (print_expressions.alone a.0) _ (good_expression h.0.1 false).utf8
    (IsUtf8-append _ _ (utf8_inside (map statement a.1) (map print.statement a.1) indent h.1 i)
    (utf8_arms as' (codes "elsif ") indent h.2 (utf8_ascii _ refl) i)))

-- ---- `else`

otherwise_leads : (xs : List Placed) (indent rest : List ℕ) → IsSpaces indent → NoEnds rest →
    NoEnds (bytes_of (otherwise indent xs) ++ rest)
otherwise_leads [] indent rest i e = e
otherwise_leads (x ∷ xs) indent rest i e = word_leads (codes "else") (inside indent (x ∷ xs)) indent rest else_opener i

otherwise_run : (xs : List Placed) (ys : List print.Placed) (indent : List ℕ) → EachItem xs ys → IsSpaces indent →
    Run Fresh NoEnds (otherwise indent xs) Fresh
otherwise_run [] ys indent h i = nothing NoEnds
otherwise_run (x ∷ xs) ys indent h i =
    behind (weaker (λ s f. f) (λ rest r. r) code_no_join (opener_run else_opener indent i)) (λ rest r. refl)
    (inside_run (x ∷ xs) ys indent h i)

otherwise_bytes : (xs : List Placed) (ys : List print.Placed) (indent : List ℕ) → EachItem xs ys →
    bytes_of (otherwise indent xs) ++ indent ≡ indent ++ print.otherwise indent ys
otherwise_bytes [] [] indent h = sym (append-nil indent)
otherwise_bytes [] (y ∷ ys) indent h = absurd h
otherwise_bytes (x ∷ xs) [] indent h = absurd h
otherwise_bytes (x ∷ xs) (y ∷ ys) indent h =
    append_assoc (indent ++ codes "else") (bytes_of (inside indent (x ∷ xs))) indent
    ∙ append_assoc indent (codes "else") _
    ∙ ap (λ b. indent ++ (codes "else" ++ b)) (inside_bytes (x ∷ xs) (y ∷ ys) indent h)

utf8_otherwise : (xs : List Placed) (ys : List print.Placed) (indent : List ℕ) → EachItem xs ys → IsSpaces indent →
    IsUtf8 (print.otherwise indent ys)
utf8_otherwise [] [] indent h i = IsUtf8-nil
utf8_otherwise [] (y ∷ ys) indent h i = absurd h
utf8_otherwise (x ∷ xs) [] indent h i = absurd h
utf8_otherwise (x ∷ xs) (y ∷ ys) indent h i = IsUtf8-append (codes "else") _ (utf8_ascii _ refl)
    (utf8_inside (x ∷ xs) (y ∷ ys) indent h i)

-- ---- the whole

block_shape : (i a o n m : List ℕ) → a ++ i ≡ i ++ n → o ++ i ≡ i ++ m →
    a ++ (o ++ (i ++ codes "end")) ≡ i ++ (n ++ (m ++ codes "end"))
block_shape i a o n m e f =
    let g : a ++ ((o ++ i) ++ codes "end") ≡ (a ++ i) ++ (m ++ codes "end") = rw f (simp append_assoc) in
    ap (λ t. a ++ t) (sym (append_assoc o i (codes "end"))) ∙ g ∙ ap (λ t. t ++ (m ++ codes "end")) e
    ∙ append_assoc i n (m ++ codes "end")

good_rest : (ys : List print.Placed) (indent : List ℕ) → IsUtf8 (print.otherwise indent ys) →
    Good (print.otherwise indent ys ++ codes "end")
good_rest [] indent u = good_then 101 _ refl (omega arith) (utf8_ascii _ refl)
good_rest (y ∷ ys) indent u = record { utf8 = IsUtf8-append _ (codes "end") u (utf8_ascii _ refl); first = refl }

good_block : (as' : List (Expr × List Stmt)) (indent r : List ℕ) →
    IsUtf8 (print.arms indent (codes "if ") (printed as')) → Good r →
    Good (print.arms indent (codes "if ") (printed as') ++ r)
good_block [] indent r u g = g
good_block (a ∷ as') indent r u g = record { utf8 = IsUtf8-append _ r u g.utf8; first = refl }

-- A block `if` on its lines is found, and has the bytes that are printed.
pub block_item : (as' : List (Expr × List Stmt)) (other : List Stmt) → EachArm as' →
    EachItem (map statement other) (map print.statement other) →
    Item (statement_step (s.If (laid as') (map statement other) false))
    (print.statement_step (s.If (printed as') (map print.statement other) false))
block_item as' other h g = record {
  runs = λ indent i.
      behind (arms_run as' (codes "if") indent h if_opener i) (λ rest r. all_leads indent rest i)
      (behind (otherwise_run (map statement other) (map print.statement other) indent g i)
      (λ rest r. end_leads indent rest i) (end_run indent i));
  bytes = λ indent.
      bytes_append (arms indent (codes "if") (laid as')) _
      ∙ ap (λ b. bytes_of (arms indent (codes "if") (laid as')) ++ b)
      (bytes_append (otherwise indent (map statement other)) (name indent (codes "end") ∷ []))
      ∙ ap (λ b. bytes_of (arms indent (codes "if") (laid as')) ++
      (bytes_of (otherwise indent (map statement other)) ++ b)) (append-nil (indent ++ codes "end"))
      ∙ block_shape indent _ _ _ _ (arms_bytes as' (codes "if") indent h)
      (otherwise_bytes (map statement other) (map print.statement other) indent g);
  good = λ indent i. good_block as' indent _ (utf8_arms as' (codes "if ") indent h (utf8_ascii _ refl) i)
      (good_rest (map print.statement other) indent
      (utf8_otherwise (map statement other) (map print.statement other) indent g i));
}
  where
    all_leads : (indent rest : List ℕ) → IsSpaces indent →
        NoEnds (bytes_of (otherwise indent (map statement other) ++ name indent (codes "end") ∷ []) ++ rest)
    all_leads indent rest i =
        rw (
          bytes_append (otherwise indent (map statement other)) (name indent (codes "end") ∷ []),
          append_assoc (bytes_of (otherwise indent (map statement other)))
              (bytes_of (name indent (codes "end") ∷ [])) rest,
        )
        (otherwise_leads (map statement other) indent _ i (end_leads indent rest i))
