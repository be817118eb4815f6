-- Statements of one line.
use Rattle.std.proofs.Common.{◌≡◌, ℕ, true, false, List, [], ◌∷◌, ◌++◌, refl, ap, sym, ◌∙◌, subst, arith, Some, None}
use Rattle.std.proofs.Common.{append_assoc, append-nil, IsUtf8, codes}
use Rattle.std.proofs.lemmas.Str.{IsUtf8-append, IsUtf8-nil}
use Rattle.ruby_types.specs.declared.tree.Expr.{Expr}
use Rattle.ruby_types.specs.declared.tree.Stmt.TheOpen as s
use Rattle.ruby_token.specs.State.{is_valueless}
use Rattle.ruby_grammar.specs.Rules.{Name}
use Rattle.ruby_print.specs.Expressions as print_expressions
use Rattle.ruby_print.specs.Statements as print
use Rattle.ruby_print_pieces.specs.Pieces.{bytes_of, name, space}
use Rattle.ruby_print_pieces.specs.Expressions.{alone}
use Rattle.ruby_print_pieces.specs.Formed.{Formed, one}
use Rattle.ruby_print_pieces.specs.Statements.{Placed, value, statement_step}
use Rattle.ruby_print_pieces.specs.Names.{IsPlainName, plain_name}
use Rattle.ruby_print_tokens.specs.Flows.{IsSpaces}
use Rattle.ruby_print_tokens.proofs.Reading.{bytes_append}
use Rattle.ruby_print_tokens.proofs.Utf8.{utf8_ascii, Good, good_then, good_append, good_plain}
use Rattle.ruby_print_tokens.proofs.Utf8Expressions.{good_expression}
use Rattle.ruby_print_tokens.proofs.Bytes.{bytes_expression}
use Rattle.ruby_print_tokens.proofs.StatementsRuns.{Run, behind, weaker, any, is_other, Code, Fresh, Closed, code_any}
use Rattle.ruby_print_tokens.proofs.StatementsRuns.{code_no_value, code_no_join}
use Rattle.ruby_print_tokens.proofs.StatementsWords.{Breaks, plainly, name_run, word_run, ivar_run}
use Rattle.ruby_print_tokens.proofs.StatementsMarks.{equals_run}
use Rattle.ruby_print_tokens.proofs.StatementsLines.{Behind, behind_stops, behind_breaks, placed_run, alone_run}
use Rattle.ruby_print_tokens.proofs.StatementsLines.{alone_space, alone_breaks, Item}

-- ---- an expression

-- An expression statement on its lines is found, and has the bytes that are printed.
pub expression_item : {names : List Name} {x : Expr} → Formed names one x →
    Item (statement_step (s.Expr x)) (print.statement_step (s.Expr x))
expression_item h = record {
  runs = λ indent i. weaker (λ s f. f) behind_stops (λ s c. c) (placed_run h indent i);
  bytes = λ indent. bytes_expression h indent false;
  good = λ indent i. good_expression h false;
}

-- ---- what stands behind ` = `

-- The lexer finds an assigned value.
pub value_run : {names : List Name} {x : Expr} → Formed names one x → Run (Code 0 any) Behind (value x) Closed
value_run h = behind equals_run (λ rest r. alone_space h rest) (weaker (λ s c. c) behind_stops (λ s c. c) (alone_run h))

value_bytes : {names : List Name} {x : Expr} → Formed names one x →
    bytes_of (value x) ≡ codes " = " ++ print_expressions.alone x
value_bytes h = ap (λ b. 32 ∷ 61 ∷ b) (bytes_expression h space false)

-- The text of an assigned value is UTF-8.
pub utf8_value : {names : List Name} {x : Expr} → Formed names one x → IsUtf8 (codes " = " ++ print_expressions.alone x)
utf8_value h = IsUtf8-append (codes " = ") _ (utf8_ascii _ refl) (good_expression h false).utf8

-- one piece before a value
pub set_bytes : {names : List Name} {x : Expr} → Formed names one x → (indent text : List ℕ) →
    (indent ++ text) ++ bytes_of (value x) ≡ indent ++ (text ++ (codes " = " ++ print_expressions.alone x))
set_bytes {x = x} h indent text = append_assoc indent text (bytes_of (value x))
    ∙ ap (λ b. indent ++ (text ++ b)) (value_bytes h)

-- An assignment on its lines is found, and has the bytes that are printed.
pub set_item : {names : List Name} {n : List ℕ} {x : Expr} → IsPlainName n → Formed names one x →
    Item (statement_step (s.Set n x)) (print.statement_step (s.Set n x))
set_item {n = n} p h = record {
  runs = λ indent i. behind
      (weaker (λ s f. code_any s f.code) (λ rest r. r) (λ s c. code_any s c) (name_run i (plainly p)))
      (λ rest r. refl) (value_run h);
  bytes = λ indent. set_bytes h indent n;
  good = λ indent i. good_append (good_plain p) (utf8_value h);
}

-- An instance variable on its lines is found, and has the bytes that are printed.
pub ivar_item : {names : List Name} {n : List ℕ} {x : Expr} → IsPlainName n → Formed names one x →
    Item (statement_step (s.SetIvar n x)) (print.statement_step (s.SetIvar n x))
ivar_item {n = n} p h = record {
  runs = λ indent i. behind (weaker (λ s f. code_any s f.code) (λ rest r. r) (λ s c. code_any s c) (ivar_run i p))
      (λ rest r. refl) (value_run h);
  bytes = λ indent. set_bytes h indent (64 ∷ n);
  good = λ indent i. good_then 64 _ refl (omega arith) (IsUtf8-append n _ (good_plain p).utf8 (utf8_value h));
}

-- ---- `return` and `raise`

unfoldable pub IsOpener : List ℕ → Type 0
IsOpener w = IsPlainName w × (is_valueless w ≡ true) × Good w

-- The lexer finds a word that opens.
pub opener_run : {w : List ℕ} → IsOpener w → (indent : List ℕ) → IsSpaces indent →
    Run Fresh Breaks (name indent w ∷ []) (Code 0 is_other)
unfolding IsOpener
opener_run o indent i = weaker (λ s f. code_any s f.code) (λ rest r. r) (λ s c. c) (word_run i (plainly o.0) o.1)

-- A word that opens begins a token.
pub opener_good : {w : List ℕ} → IsOpener w → Good w
unfolding IsOpener
opener_good o = o.2

return_opener : IsOpener (codes "return")
unfolding IsOpener is_valueless
return_opener = (
  plain_name refl (refl, (refl, (refl, (refl, (refl, tt))))),
  refl,
  good_then 114 _ refl (omega arith)
      (utf8_ascii _ refl),
)

raise_opener : IsOpener (codes "raise")
unfolding IsOpener is_valueless
raise_opener = (
  plain_name refl (refl, (refl, (refl, (refl, tt)))),
  refl,
  good_then 114 _ refl (omega arith)
      (utf8_ascii _ refl),
)

-- `if` opens.
pub if_opener : IsOpener (codes "if")
unfolding IsOpener is_valueless
if_opener = (plain_name refl (refl, tt), refl, good_then 105 _ refl (omega arith) (utf8_ascii _ refl))

-- `elsif` opens.
pub elsif_opener : IsOpener (codes "elsif")
unfolding IsOpener is_valueless
elsif_opener = (
  plain_name refl (refl, (refl, (refl, (refl, tt)))),
  refl,
  good_then 101 _ refl (omega arith)
      (utf8_ascii _ refl),
)

-- `else` opens.
pub else_opener : IsOpener (codes "else")
unfolding IsOpener is_valueless
else_opener = (plain_name refl (refl, (refl, (refl, tt))), refl, good_then 101 _ refl (omega arith) (utf8_ascii _ refl))

-- `return` alone on its lines is found, and has the bytes that are printed.
pub return_item : Item (statement_step (s.Return None)) (print.statement_step (s.Return None))
return_item = record {
  runs = λ indent i. weaker (λ s f. f) behind_breaks code_no_join (opener_run return_opener indent i);
  bytes = λ indent. append-nil (indent ++ codes "return");
  good = λ indent i. good_then 114 _ refl (omega arith) (utf8_ascii _ refl);
}

-- a word and an expression
word_alone_run : {names : List Name} {x : Expr} {w : List ℕ} → IsOpener w → Formed names one x → (indent : List ℕ) →
    IsSpaces indent → Run Fresh Behind (name indent w ∷ alone x) Closed
word_alone_run o h indent i = behind (opener_run o indent i) (λ rest r. alone_breaks h rest)
    (weaker code_no_value behind_stops (λ s c. c) (alone_run h))

word_alone_bytes : {names : List Name} {x : Expr} → Formed names one x → (indent w : List ℕ) →
    bytes_of (name indent w ∷ alone x) ≡ indent ++ (w ++ (space ++ print_expressions.alone x))
word_alone_bytes {x = x} h indent w = append_assoc indent w (bytes_of (alone x))
    ∙ ap (λ b. indent ++ (w ++ b)) (bytes_expression h space false)

-- `return` with its value on its lines is found, and has the bytes that are printed.
pub return_value_item : {names : List Name} {x : Expr} → Formed names one x →
    Item (statement_step (s.Return (Some x))) (print.statement_step (s.Return (Some x)))
return_value_item h = record {
  runs = λ indent i. word_alone_run return_opener h indent i;
  bytes = λ indent. word_alone_bytes h indent (codes "return");
  good = λ indent i. good_append (good_then 114 (codes "eturn ") refl (omega arith) (utf8_ascii _ refl))
      (good_expression h false).utf8;
}

-- `raise` on its lines is found, and has the bytes that are printed.
pub raise_item : {names : List Name} {x : Expr} → Formed names one x →
    Item (statement_step (s.Raise x)) (print.statement_step (s.Raise x))
raise_item h = record {
  runs = λ indent i. word_alone_run raise_opener h indent i;
  bytes = λ indent. word_alone_bytes h indent (codes "raise");
  good = λ indent i. good_append (good_then 114 (codes "aise ") refl (omega arith) (utf8_ascii _ refl))
      (good_expression h false).utf8;
}

-- ---- a condition behind a statement

if_valueless : is_valueless (codes "if") ≡ true
unfolding is_valueless
if_valueless = refl

behind_run : {names : List Name} {x : Expr} → Formed names one x →
    Run Closed Behind (name space (codes "if") ∷ alone x) Closed
behind_run h =
    behind (weaker (λ s c. code_any s c) (λ rest r. r) code_no_value
    (word_run (refl, tt) (plainly (plain_name refl (refl, tt))) if_valueless))
    (λ rest r. alone_breaks h rest) (weaker (λ s c. c) behind_stops (λ s c. c) (alone_run h))

behind_pieces : {names : List Name} {x : Expr} {f : Placed} {g : print.Placed} → Formed names one x → Item f g →
    (indent : List ℕ) →
    ((f indent ++ []) ++ (name space (codes "if") ∷ alone x)) ++ [] ≡ f indent ++ (name space (codes "if") ∷ alone x)
behind_pieces {x = x} {f = f} h t indent = append-nil _
    ∙ ap (λ ps. ps ++ (name space (codes "if") ∷ alone x)) (append-nil (f indent))

behind_text : (t e : List ℕ) → t ++ e ≡ ((t ++ []) ++ e) ++ []
behind_text t e = sym (append-nil _ ∙ ap (λ b. b ++ e) (append-nil t))

behind_bytes : {names : List Name} {x : Expr} {f : Placed} {g : print.Placed} → Formed names one x → Item f g →
    (indent : List ℕ) →
    bytes_of (f indent ++ (name space (codes "if") ∷ alone x))
    ≡ indent ++ (((g indent ++ []) ++ (codes " if " ++ print_expressions.alone x)) ++ [])
behind_bytes {x = x} {f} {g} h t indent =
    bytes_append (f indent) _
    ∙ ap (λ b. b ++ (32 ∷ 105 ∷ 102 ∷ bytes_of (alone x))) (t.bytes indent)
    ∙ ap (λ b. (indent ++ g indent) ++ (32 ∷ 105 ∷ 102 ∷ b)) (bytes_expression h space false)
    ∙ append_assoc indent (g indent) _
    ∙ ap (λ b. indent ++ b) (behind_text (g indent) _)

-- An `if` behind its statement on its lines is found, and has the bytes that are printed.
pub behind_item : {names : List Name} {x : Expr} {f : Placed} {g : print.Placed} → Formed names one x → Item f g →
    Item (statement_step (s.If ((x, f ∷ []) ∷ []) [] true)) (print.statement_step (s.If ((x, g ∷ []) ∷ []) [] true))
behind_item {x = x} {f} {g} h t = record {
  runs = λ indent i. subst (λ ps. Run Fresh Behind ps Closed) (sym (behind_pieces h t indent))
      (behind (t.runs indent i) (λ rest r. refl) (behind_run h));
  bytes = λ indent. ap bytes_of (behind_pieces h t indent) ∙ behind_bytes h t indent;
  good = λ indent i. good_append
      (good_append (good_append (t.good indent i) IsUtf8-nil)
      (IsUtf8-append (codes " if ") _ (utf8_ascii _ refl) (good_expression h false).utf8)) IsUtf8-nil;
}
