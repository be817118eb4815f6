-- Runs of one mark, and of a line's end.
use Rattle.std.proofs.Common.{◌≡◌, ℕ, Bool, true, false, List, [], ◌∷◌, ◌++◌, ◌==◌, not, length, refl, ap, ◌∙◌, arith}
use Rattle.std.proofs.Common.{codes}
use Rattle.std.proofs.lemmas.Bool.Decides.{nat_tests}
use Rattle.ruby_token.specs.declared.token.Op.{Op}
use Rattle.ruby_token.specs.declared.token.Op.TheVariants as op
use Rattle.ruby_token.specs.declared.token.TokenKind.TheVariants as k
use Rattle.ruby_token.specs.declared.state.State.{State}
use Rattle.ruby_token.specs.declared.state.After.{After}
use Rattle.ruby_token.specs.declared.lexeme.Lexeme.TheVariants as l
use Rattle.ruby_token.specs.Bytes.{is_white, next_is}
use Rattle.ruby_token.specs.Lengths.{goes_on, lines_len}
use Rattle.ruby_token.specs.declared.opens.Open.{Open}
use Rattle.ruby_token.specs.State.{joins, opens_op, brackets_op, after_op}
use Rattle.ruby_token.proofs.Longest.{not_true}
use Rattle.ruby_token.specs.Steps.{operator_at, code_lexeme}
use Rattle.ruby_token.proofs.Words.{split_if}
use Rattle.ruby_print_pieces.specs.Pieces.{mark, open_paren, close_paren, comma, dot, colons, newline, space}
use Rattle.ruby_print_tokens.specs.Flows.{behind_gap, state_behind, IsSpaces}
use Rattle.ruby_print_tokens.proofs.Utf8.{begins_token, first_begins}
use Rattle.ruby_print_tokens.proofs.StatementsRuns.{Run, any, no_join, no_value, Code, Fresh, Closed, code_gap}
use Rattle.ruby_print_tokens.proofs.StatementsRuns.{token_flow}

-- Any bytes may follow.
abbrev pub Anything : List ℕ → Type 0
Anything bs = Unit {0}

-- This byte follows.
abbrev pub NextIs : ℕ → List ℕ → Type 0
NextIs b bs = next_is b bs ≡ true

-- ---- marks

equals_at : (s : State) (r : List ℕ) → NextIs 32 r → code_lexeme s 61 r ≡ l.Token (k.Op op.Assign) 1
unfolding operator_at
equals_at s [] h = cc
equals_at s (b ∷ r) h = let e : b ≡ 32 = grind (arith, nat_tests) in rw e refl

less_at : (s : State) (r : List ℕ) → NextIs 32 r → code_lexeme s 60 r ≡ l.Token (k.Op op.Less) 1
unfolding operator_at
less_at s [] h = cc
less_at s (b ∷ r) h = let e : b ≡ 32 = grind (arith, nat_tests) in rw e refl

open_at : (s : State) (r : List ℕ) → code_lexeme s 40 r ≡ l.Token (k.Op op.OpenParen) 1
unfolding operator_at
open_at s r = refl

close_at : (s : State) (r : List ℕ) → code_lexeme s 41 r ≡ l.Token (k.Op op.CloseParen) 1
unfolding operator_at
close_at s r = refl

comma_at : (s : State) (r : List ℕ) → code_lexeme s 44 r ≡ l.Token (k.Op op.Comma) 1
unfolding operator_at
comma_at s r = refl

dot_at : (s : State) (r : List ℕ) → next_is 46 r ≡ false → code_lexeme s 46 r ≡ l.Token (k.Op op.Dot) 1
unfolding operator_at
dot_at s [] h = refl
dot_at s (b ∷ r) h = let e : (46 == b) ≡ false = grind (arith, nat_tests) in rw e refl

colons_at : (s : State) (r : List ℕ) → code_lexeme s 58 (58 ∷ r) ≡ l.Token (k.Op op.Path) 2
unfolding operator_at
colons_at s r = split_if (λ x. x ≡ l.Token (k.Op op.Path) 2) (not (s.before == 58)) _ _ (λ _. refl) (λ _. refl)

-- a mark that opens and closes nothing
mark_run : {m : ℕ} {gap : List ℕ} {R : List ℕ → Type 0} {m' : ℕ} {ok : After → Bool} (x : Op) (c : ℕ) (cs : List ℕ) →
    IsSpaces gap → is_white c ≡ false →
    ((s : State) (r : List ℕ) → R r → code_lexeme s c (cs ++ r) ≡ l.Token (k.Op x) (length (c ∷ cs))) →
    ((xs : List Open) → opens_op x xs ≡ xs) → brackets_op x m ≡ m' → ok (after_op x) ≡ true →
    Run (Code m any) R (mark gap x (c ∷ cs) ∷ []) (Code m' ok)
mark_run {m} {gap = gap} x c cs h w e o b a s i rest p r =
    let p' : Code m any (behind_gap gap s) = code_gap gap p in (
      state_behind i (mark gap x (c ∷ cs)) s,
      token_flow gap (k.Op x) c cs p.opens h w (e (behind_gap gap s) rest r) refl,
      record {
        opens = o (behind_gap gap s).opens ∙ p'.opens;
        brackets = ap (brackets_op x) p'.brackets
            ∙ b;
        after = a;
      },
    )

-- The lexer finds `=`.
pub equals_run : Run (Code 0 any) (NextIs 32) (mark space op.Assign (codes "=") ∷ []) (Code 0 no_value)
equals_run = mark_run op.Assign 61 [] (refl, tt) refl equals_at (λ _. refl) refl refl

-- The lexer finds `<`.
pub less_run : Run (Code 0 any) (NextIs 32) (mark space op.Less (codes "<") ∷ []) (Code 0 no_value)
less_run = mark_run op.Less 60 [] (refl, tt) refl less_at (λ _. refl) refl refl

-- The lexer finds `(`.
pub open_run : Run (Code 0 any) Anything (open_paren [] ∷ []) (Code 1 any)
open_run = mark_run op.OpenParen 40 [] tt refl (λ s r _. open_at s r) (λ _. refl) refl refl

-- The lexer finds `)`.
pub close_run : Run (Code 1 any) Anything (close_paren ∷ []) (Code 0 no_join)
close_run = mark_run op.CloseParen 41 [] tt refl (λ s r _. close_at s r) (λ _. refl) refl refl

-- The lexer finds `,`.
pub comma_run : {m : ℕ} → Run (Code m any) Anything (comma ∷ []) (Code m any)
comma_run = mark_run op.Comma 44 [] tt refl (λ s r _. comma_at s r) (λ _. refl) refl refl

-- The lexer finds `.`.
pub dot_run : Run (Code 0 any) (λ r. next_is 46 r ≡ false) (dot ∷ []) (Code 0 any)
dot_run = mark_run op.Dot 46 [] tt refl dot_at (λ _. refl) refl refl

-- The lexer finds `::`.
pub colons_run : {gap : List ℕ} → IsSpaces gap → Run (Code 0 any) Anything (colons gap ∷ []) (Code 0 any)
colons_run h = mark_run op.Path 58 (58 ∷ []) h refl (λ s r _. colons_at s r) (λ _. refl) refl refl

-- ---- a line's end

-- no line's end stands here behind white and comments
abbrev pub NoEnds : List ℕ → Type 0
NoEnds bs = lines_len false false bs ≡ 0

line_at : (s : State) (r : List ℕ) → Closed s → NoEnds r → code_lexeme s 10 r ≡ l.Token k.Line 1
line_at s r c h =
    let j : joins s.after ≡ false = not_true (joins s.after) c.after in
    rw (c.brackets, j, h) refl

-- The lexer finds a line's end.
pub newline_run : Run Closed NoEnds (newline ∷ []) Fresh
newline_run s i rest c r = (
  state_behind i newline s,
  token_flow [] k.Line 10 [] c.opens tt refl (line_at s rest c r) refl,
  record { code = record { opens = c.opens; brackets = c.brackets; after = refl }; before = refl },
)

-- white before it and the first byte of a token
pub spaces_no_ends : (gap r : List ℕ) → IsSpaces gap → NoEnds r → NoEnds (gap ++ r)
spaces_no_ends [] r h e = e
spaces_no_ends (b ∷ gap) r h e =
    let is : b ≡ 32 = h.0 in
    let i : lines_len false false (gap ++ r) ≡ 0 = spaces_no_ends gap r h.1 e in
    rw (is, i) refl

no_run : (b : ℕ) → begins_token b ≡ true → goes_on false false b ≡ false
no_run b h = grind (arith, nat_tests)

-- A token's first byte is no line's end.
pub token_no_ends : (t r : List ℕ) → first_begins t ≡ true → NoEnds (t ++ r)
token_no_ends [] r h = cc
token_no_ends (b ∷ t) r h = rw (no_run b h) refl
