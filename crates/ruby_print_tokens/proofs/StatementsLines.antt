-- Lines of statements and definitions: how they are found, their bytes, and that these are UTF-8.
use Rattle.std.proofs.Common.{◌≡◌, ℕ, Bool, true, false, List, [], ◌∷◌, ◌++◌, ◌==◌, ◌||◌, refl, ap, sym, ◌∙◌, arith}
use Rattle.std.proofs.Common.{append_assoc, append-nil, IsUtf8, codes}
use Rattle.std.proofs.lemmas.Str.{IsUtf8-append, IsUtf8-nil}
use Rattle.std.proofs.lemmas.Bool.Decides.{nat_tests}
use Rattle.ruby_types.specs.declared.tree.Expr.{Expr}
use Rattle.ruby_token.specs.declared.state.State.{State}
use Rattle.ruby_token.specs.Opens.{text_at}
use Rattle.ruby_token.specs.State.{is_valueless}
use Rattle.ruby_token.proofs.Longest.{not_true}
use Rattle.ruby_grammar.specs.Rules.{Name}
use Rattle.ruby_print.specs.Statements.{deeper}
use Rattle.ruby_print.specs.Statements as print
use Rattle.ruby_print.specs.Definitions as print_definitions
use Rattle.ruby_print_pieces.specs.Pieces.{Piece, bytes_of, name, newline, space}
use Rattle.ruby_print_pieces.specs.Expressions.{expression, alone}
use Rattle.ruby_print_pieces.specs.Formed.{Formed, one}
use Rattle.ruby_print_pieces.specs.Statements.{Placed, line, lines, inside}
use Rattle.ruby_print_pieces.specs.Definitions.{body}
use Rattle.ruby_print_pieces.specs.Names.{plain_name}
use Rattle.ruby_print_tokens.specs.Flows.{Flows, Begins, stops, stops_by, IsSpaces}
use Rattle.ruby_print_tokens.proofs.Reading.{bytes_append}
use Rattle.ruby_print_pieces.proofs.Utf8.{utf8_cons}
use Rattle.ruby_print_tokens.proofs.Utf8.{utf8_ascii, Good}
use Rattle.ruby_print_tokens.proofs.Expressions.{flows_expression}
use Rattle.ruby_print_tokens.proofs.Bytes.{bytes_expression}
use Rattle.ruby_print_tokens.proofs.StatementsRuns.{Run, nothing, behind, weaker, no_value, Code, Fresh, Closed}
use Rattle.ruby_print_tokens.proofs.StatementsRuns.{code_any, code_no_join}
use Rattle.ruby_print_tokens.proofs.StatementsWords.{Breaks, plainly, word_run}
use Rattle.ruby_print_tokens.proofs.StatementsMarks.{NextIs, NoEnds, newline_run, spaces_no_ends, token_no_ends}

-- ---- what stands behind a statement: a line's end, white or nothing

abbrev behind_by : ℕ → Bool
behind_by b = (b == 10) || (b == 32)

abbrev behind_statement : List ℕ → Bool
behind_statement [] = true
behind_statement (b ∷ bs) = behind_by b

-- What may stand behind a statement on its line.
abbrev pub Behind : List ℕ → Type 0
Behind bs = behind_statement bs ≡ true

-- What stops an expression.
abbrev pub Stops : List ℕ → Type 0
Stops bs = stops bs ≡ true

stops_there : (b : ℕ) → behind_by b ≡ true → stops_by b ≡ true
stops_there b h = grind (arith, nat_tests)

breaks_there : (b : ℕ) → behind_by b ≡ true → Breaks (b ∷ [])
breaks_there b h = grind (arith, nat_tests)

-- What stands behind a statement stops its expression.
pub behind_stops : (bs : List ℕ) → Behind bs → Stops bs
behind_stops [] h = refl
behind_stops (b ∷ bs) h = stops_there b h

-- What stands behind a statement ends its last name.
pub behind_breaks : (bs : List ℕ) → Behind bs → Breaks bs
behind_breaks [] h = refl
behind_breaks (b ∷ bs) h = breaks_there b h

-- ---- expressions that stand alone

expression_run : {names : List Name} {x : Expr} → Formed names one x →
    (gap : List ℕ) (s : State) (n : ℕ) (rest : List ℕ) → Code 0 no_value s → Begins s gap → Stops rest →
    (end : State) × Flows rest s n (expression x gap false) end × Closed end
expression_run h gap s n rest c b r =
    let e = flows_expression h gap false s n rest b r in
    (e.0, e.1, record { opens = e.2.opens ∙ c.opens; brackets = e.2.brackets ∙ c.brackets; after = rw e.2.after refl })

-- The lexer finds an expression on its line.
pub placed_run : {names : List Name} {x : Expr} → Formed names one x → (indent : List ℕ) → IsSpaces indent →
    Run Fresh Stops (expression x indent false) Closed
placed_run h indent i s n rest f r =
    expression_run h indent s n rest f.code
    (record {
      spaces = i;
      in_code = ap text_at f.code.opens;
      no_value = not_true _ f.code.after;
      no_colon = λ _.
          f.before;
    }) r

-- The lexer finds an expression alone.
pub alone_run : {names : List Name} {x : Expr} → Formed names one x → Run (Code 0 no_value) Stops (alone x) Closed
alone_run h s n rest c r =
    expression_run h space s n rest c
    (record {
      spaces = (refl, tt);
      in_code = ap text_at c.opens;
      no_value = not_true _ c.after;
      no_colon = λ e.
          cc;
    }) r

-- A space stands before an expression alone.
pub alone_space : {names : List Name} {x : Expr} → Formed names one x → (rest : List ℕ) →
    NextIs 32 (bytes_of (alone x) ++ rest)
alone_space h rest = rw (bytes_expression h space false) refl

-- That space ends the name before it.
pub alone_breaks : {names : List Name} {x : Expr} → Formed names one x → (rest : List ℕ) →
    Breaks (bytes_of (alone x) ++ rest)
alone_breaks h rest = rw (bytes_expression h space false) refl

-- ---- one statement or definition

pub record Item (x : Placed) (y : print.Placed) : Type 0 where
  pub runs : (indent : List ℕ) → IsSpaces indent → Run Fresh Behind (x indent) Closed
  pub bytes : (indent : List ℕ) → bytes_of (x indent) ≡ indent ++ y indent
  pub good : (indent : List ℕ) → IsSpaces indent → Good (y indent)

-- no line's end stands before it
item_leads : {x : Placed} {y : print.Placed} → Item x y → (indent rest : List ℕ) → IsSpaces indent →
    NoEnds (bytes_of (x indent) ++ rest)
item_leads {y = y} t indent rest h =
    rw (t.bytes indent, append_assoc indent (y indent) rest)
    (spaces_no_ends indent (y indent ++ rest) h (token_no_ends (y indent) rest (t.good indent h).first))

leads_append : (ps qs : List Piece) (rest : List ℕ) → ((r : List ℕ) → NoEnds (bytes_of ps ++ r)) →
    NoEnds (bytes_of (ps ++ qs) ++ rest)
leads_append ps qs rest h = rw (bytes_append ps qs, append_assoc (bytes_of ps) (bytes_of qs) rest)
    (h (bytes_of qs ++ rest))

-- ---- lines

-- Each item is found, and has the bytes that it is printed as.
abbrev pub EachItem : List Placed → List print.Placed → Type 0
EachItem [] [] = Unit {0}
EachItem [] (y ∷ ys) = ⊥
EachItem (x ∷ xs) [] = ⊥
EachItem (x ∷ xs) (y ∷ ys) = Item x y × EachItem xs ys

utf8_spaces : (indent : List ℕ) → IsSpaces indent → IsUtf8 indent
utf8_spaces [] h = IsUtf8-nil
utf8_spaces (b ∷ indent) h = utf8_cons b indent (let e : b ≡ 32 = h.0 in omega arith) (utf8_spaces indent h.1)

spaces_deeper : (indent : List ℕ) → IsSpaces indent → IsSpaces (deeper indent)
spaces_deeper indent h = (refl, (refl, h))

lines_leads : (xs : List Placed) (ys : List print.Placed) (indent rest : List ℕ) → EachItem xs ys → IsSpaces indent →
    NoEnds rest → NoEnds (bytes_of (lines indent xs) ++ rest)
lines_leads [] ys indent rest h i e = e
lines_leads (x ∷ xs) [] indent rest h i e = absurd h
lines_leads (x ∷ xs) (y ∷ ys) indent rest h i e =
    leads_append (line indent x) (lines indent xs) rest
    (λ r. leads_append (x indent) (newline ∷ []) r (λ r'. item_leads h.0 indent r' i))

line_run : {x : Placed} {y : print.Placed} → Item x y → (indent : List ℕ) → IsSpaces indent →
    Run Fresh NoEnds (line indent x) Fresh
line_run t indent i = behind (t.runs indent i) (λ rest r. refl) newline_run

-- The lexer finds lines.
pub lines_run : (xs : List Placed) (ys : List print.Placed) (indent : List ℕ) → EachItem xs ys → IsSpaces indent →
    Run Fresh NoEnds (lines indent xs) Fresh
lines_run [] ys indent h i = nothing NoEnds
lines_run (x ∷ xs) [] indent h i = absurd h
lines_run (x ∷ xs) (y ∷ ys) indent h i =
    behind (line_run h.0 indent i) (λ rest r. lines_leads xs ys indent rest h.1 i r) (lines_run xs ys indent h.1 i)

line_bytes : {x : Placed} {y : print.Placed} → Item x y → (indent : List ℕ) →
    bytes_of (line indent x) ≡ print.line indent y
line_bytes {x} {y} t indent = bytes_append (x indent) (newline ∷ []) ∙ ap (λ b. b ++ 10 ∷ []) (t.bytes indent)
    ∙ append_assoc indent (y indent) (10 ∷ [])

-- The pieces of lines have the bytes that are printed.
pub lines_bytes : (xs : List Placed) (ys : List print.Placed) (indent : List ℕ) → EachItem xs ys →
    bytes_of (lines indent xs) ≡ print.lines indent ys
lines_bytes [] [] indent h = refl
lines_bytes [] (y ∷ ys) indent h = absurd h
lines_bytes (x ∷ xs) [] indent h = absurd h
lines_bytes (x ∷ xs) (y ∷ ys) indent h =
    bytes_append (line indent x) (lines indent xs)
    ∙ ap (λ b. b ++ bytes_of (lines indent xs)) (line_bytes h.0 indent)
    ∙ ap (λ b. print.line indent y ++ b) (lines_bytes xs ys indent h.1)

-- The text of lines is UTF-8.
pub utf8_lines : (xs : List Placed) (ys : List print.Placed) (indent : List ℕ) → EachItem xs ys → IsSpaces indent →
    IsUtf8 (print.lines indent ys)
utf8_lines [] [] indent h i = IsUtf8-nil
utf8_lines [] (y ∷ ys) indent h i = absurd h
utf8_lines (x ∷ xs) [] indent h i = absurd h
utf8_lines (x ∷ xs) (y ∷ ys) indent h i =
    IsUtf8-append (print.line indent y) _
    (IsUtf8-append indent _ (utf8_spaces indent i)
    (IsUtf8-append (y indent) _ (h.0.good indent i).utf8 (utf8_ascii (10 ∷ []) refl)))
    (utf8_lines xs ys indent h.1 i)

-- ---- the lines inside

-- The lexer finds what stands inside.
pub inside_run : (xs : List Placed) (ys : List print.Placed) (indent : List ℕ) → EachItem xs ys → IsSpaces indent →
    Run Closed NoEnds (inside indent xs) Fresh
inside_run xs ys indent h i =
    behind newline_run (λ rest r. lines_leads xs ys (deeper indent) rest h (spaces_deeper indent i) r)
    (lines_run xs ys (deeper indent) h (spaces_deeper indent i))

-- The pieces of what stands inside have the bytes that are printed.
pub inside_bytes : (xs : List Placed) (ys : List print.Placed) (indent : List ℕ) → EachItem xs ys →
    bytes_of (inside indent xs) ++ indent ≡ print.inside indent ys
inside_bytes xs ys indent h = ap (λ b. 10 ∷ (b ++ indent)) (lines_bytes xs ys (deeper indent) h)

-- The text of what stands inside is UTF-8.
pub utf8_inside : (xs : List Placed) (ys : List print.Placed) (indent : List ℕ) → EachItem xs ys → IsSpaces indent →
    IsUtf8 (print.inside indent ys)
utf8_inside xs ys indent h i =
    utf8_cons 10 _ (omega arith)
    (IsUtf8-append _ indent (utf8_lines xs ys (deeper indent) h (spaces_deeper indent i)) (utf8_spaces indent i))

-- ---- a body and its `end`

end_valueless : is_valueless (codes "end") ≡ true
unfolding is_valueless
end_valueless = refl

-- The lexer finds `end`.
pub end_run : (indent : List ℕ) → IsSpaces indent → Run Fresh Behind (name indent (codes "end") ∷ []) Closed
end_run indent i = weaker (λ s f. code_any s f.code) behind_breaks code_no_join
    (word_run i (plainly (plain_name refl (refl, (refl, tt)))) end_valueless)

-- `end` goes on no line's end.
pub end_leads : (indent rest : List ℕ) → IsSpaces indent → NoEnds (bytes_of (name indent (codes "end") ∷ []) ++ rest)
end_leads indent rest i = rw (append-nil (indent ++ codes "end"), append_assoc indent (codes "end") rest)
    (spaces_no_ends indent _ i (token_no_ends (codes "end") rest refl))

-- The lexer finds a body.
pub body_run : (xs : List Placed) (ys : List print.Placed) (indent : List ℕ) → EachItem xs ys → IsSpaces indent →
    Run Closed Behind (body indent xs) Closed
body_run xs ys indent h i = behind (inside_run xs ys indent h i) (λ rest r. end_leads indent rest i) (end_run indent i)

-- The pieces of a body have the bytes that are printed.
pub body_bytes : (xs : List Placed) (ys : List print.Placed) (indent : List ℕ) → EachItem xs ys →
    bytes_of (body indent xs) ≡ print_definitions.body indent ys
body_bytes xs ys indent h =
    bytes_append (inside indent xs) (name indent (codes "end") ∷ [])
    ∙ ap (λ b. bytes_of (inside indent xs) ++ b) (append-nil (indent ++ codes "end"))
    ∙ sym (append_assoc (bytes_of (inside indent xs)) indent (codes "end"))
    ∙ ap (λ b. b ++ codes "end") (inside_bytes xs ys indent h)

-- The text of a body is UTF-8.
pub utf8_body : (xs : List Placed) (ys : List print.Placed) (indent : List ℕ) → EachItem xs ys → IsSpaces indent →
    IsUtf8 (print_definitions.body indent ys)
utf8_body xs ys indent h i = IsUtf8-append _ (codes "end") (utf8_inside xs ys indent h i)
    (utf8_ascii (codes "end") refl)
