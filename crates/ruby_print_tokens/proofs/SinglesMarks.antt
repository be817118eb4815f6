-- The lexer finds each operator and mark that is printed.
use Rattle.std.proofs.Common.{◌≡◌, ℕ, Bool, true, false, List, ◌∷◌, ◌++◌, length, refl, None, ◌==◌, arith}
use Rattle.std.proofs.lemmas.Bool.Decides.{nat_tests}
use Rattle.ruby_token.specs.declared.token.Op.{Op}
use Rattle.ruby_token.specs.declared.token.Op.TheVariants as op
use Rattle.ruby_token.specs.declared.token.TokenKind.TheVariants as k
use Rattle.ruby_token.specs.declared.lexeme.Lexeme.TheVariants as l
use Rattle.ruby_token.specs.declared.state.State.{State}
use Rattle.ruby_token.specs.declared.state.After.TheVariants as a
use Rattle.ruby_token.specs.Bytes.{is_white}
use Rattle.ruby_token.specs.Opens.{text_at, in_inside}
use Rattle.ruby_token.specs.State.{ends_value, after_op, opens_op, brackets_op}
use Rattle.ruby_token.specs.declared.opens.Open.{Open}
use Rattle.ruby_token.specs.Steps.{lexeme, operator_at}
use Rattle.ruby_print_tokens.proofs.SinglesNames.{IsInfix, times, divide, modulo, plus, minus, less, at_most, more}
use Rattle.ruby_print_tokens.proofs.SinglesNames.{at_least, same, and_also, or_else, arrow, ask, colon}

-- marks of one byte that begins no longer one
pub data IsLone : Op → ℕ → Type 0 where
  lone_open_paren : IsLone op.OpenParen 40
  lone_close_paren : IsLone op.CloseParen 41
  lone_open_bracket : IsLone op.OpenBracket 91
  lone_close_bracket : IsLone op.CloseBracket 93
  lone_open_brace : IsLone op.OpenBrace 123
  lone_comma : IsLone op.Comma 44

-- The lexer takes a mark of one byte as one token.
pub lone_lexeme : {o : Op} {b : ℕ} → IsLone o b → (s : State) (r : List ℕ) → text_at s.opens ≡ None →
    lexeme s (b ∷ r) ≡ l.Token (k.Op o) 1
unfolding lexeme operator_at
lone_lexeme lone_open_paren s r h = rw h refl
lone_lexeme lone_close_paren s r h = rw h refl
lone_lexeme lone_open_bracket s r h = rw h refl
lone_lexeme lone_close_bracket s r h = rw h refl
lone_lexeme lone_open_brace s r h = rw h refl
lone_lexeme lone_comma s r h = rw h refl

-- The lexer takes `}` outside texts as one token.
pub close_brace_lexeme : (s : State) (r : List ℕ) → text_at s.opens ≡ None → in_inside s.opens ≡ false →
    lexeme s (125 ∷ r) ≡ l.Token (k.Op op.CloseBrace) 1
unfolding lexeme operator_at
close_brace_lexeme s r h g = rw (h, g) refl

-- The lexer takes `}` that ends an inside part as one token.
pub inside_close_lexeme : (s : State) (r : List ℕ) → text_at s.opens ≡ None → in_inside s.opens ≡ true →
    lexeme s (125 ∷ r) ≡ l.Token k.InsideClose 1
unfolding lexeme operator_at
inside_close_lexeme s r h g = rw (h, g) refl

turned : (c d : ℕ) → (c == d) ≡ false → (d == c) ≡ false
turned c d h = grind (arith, nat_tests)

-- The lexer takes `.` as one token.
pub dot_lexeme : (s : State) (c : ℕ) (r : List ℕ) → text_at s.opens ≡ None → (c == 46) ≡ false →
    lexeme s (46 ∷ c ∷ r) ≡ l.Token (k.Op op.Dot) 1
unfolding lexeme operator_at
dot_lexeme s c r h g = let e : (46 == c) ≡ false = turned c 46 g in rw (h, e) refl

-- The lexer takes `!` as one token.
pub not_lexeme : (s : State) (c : ℕ) (r : List ℕ) → text_at s.opens ≡ None → (c == 61) ≡ false → (c == 126) ≡ false →
    lexeme s (33 ∷ c ∷ r) ≡ l.Token (k.Op op.Not) 1
unfolding lexeme operator_at
not_lexeme s c r h e g = let x : (61 == c) ≡ false = turned c 61 e in let y : (126 == c) ≡ false = turned c 126 g in
    rw (h, x, y) refl

colons_by : (v : Bool) (s : State) (r : List ℕ) → text_at s.opens ≡ None → (s.before == 58) ≡ v →
    lexeme s (58 ∷ 58 ∷ r) ≡ l.Token (k.Op op.Path) 2
unfolding lexeme operator_at
colons_by true s r h g = rw (h, g) refl
colons_by false s r h g = rw (h, g) refl

-- The lexer takes `::` as one token.
pub colons_lexeme : (s : State) (r : List ℕ) → text_at s.opens ≡ None →
    lexeme s (58 ∷ 58 ∷ r) ≡ l.Token (k.Op op.Path) 2
colons_lexeme s r h = colons_by (s.before == 58) s r h refl

-- ---- before a space

colon_by : (v : Bool) (s : State) (r : List ℕ) → text_at s.opens ≡ None → (s.before == 58) ≡ v →
    lexeme s (58 ∷ 32 ∷ r) ≡ l.Token (k.Op op.Colon) 1
unfolding lexeme operator_at
colon_by true s r h g = rw (h, g) refl
colon_by false s r h g = rw (h, g) refl

minus_by : (v : Bool) (s : State) (r : List ℕ) → text_at s.opens ≡ None → ends_value s.after ≡ v →
    lexeme s (45 ∷ 32 ∷ r) ≡ l.Token (k.Op op.Minus) 1
unfolding lexeme operator_at
minus_by true s r h g = rw (h, g) refl
minus_by false s r h g = rw (h, g) refl

-- The lexer takes an operator as one token.
pub infix_lexeme : {o : Op} {t : List ℕ} → IsInfix o t → (s : State) (r : List ℕ) → text_at s.opens ≡ None →
    lexeme s (t ++ 32 ∷ r) ≡ l.Token (k.Op o) (length t)
unfolding lexeme operator_at
infix_lexeme times s r h = rw h refl
infix_lexeme divide s r h = rw h refl
infix_lexeme modulo s r h = rw h refl
infix_lexeme plus s r h = rw h refl
infix_lexeme minus s r h = minus_by (ends_value s.after) s r h refl
infix_lexeme less s r h = rw h refl
infix_lexeme at_most s r h = rw h refl
infix_lexeme more s r h = rw h refl
infix_lexeme at_least s r h = rw h refl
infix_lexeme same s r h = rw h refl
infix_lexeme and_also s r h = rw h refl
infix_lexeme or_else s r h = rw h refl
infix_lexeme arrow s r h = rw h refl
infix_lexeme ask s r h = rw h refl
infix_lexeme colon s r h = colon_by (s.before == 58) s r h refl

-- behind such an operator the text goes on, and what is open stays
pub record GoesOn (o : Op) (t : List ℕ) : Type 0 where
  pub joins : after_op o ≡ a.Joins
  pub opens : (xs : List Open) → opens_op o xs ≡ xs
  pub brackets : (m : ℕ) → brackets_op o m ≡ m
  pub first : ℕ
  pub others : List ℕ
  pub whole : t ≡ first ∷ others
  pub dark : is_white first ≡ false

on : {o : Op} (b : ℕ) (t : List ℕ) → after_op o ≡ a.Joins → ((xs : List Open) → opens_op o xs ≡ xs) →
    ((m : ℕ) → brackets_op o m ≡ m) → is_white b ≡ false → GoesOn o (b ∷ t)
on b t x y z w = record { joins = x; opens = y; brackets = z; first = b; others = t; whole = refl; dark = w }

-- An operator between two sides lets the text go on.
pub goes_on : {o : Op} {t : List ℕ} → IsInfix o t → GoesOn o t
goes_on times = on _ _ refl (λ xs. refl) (λ m. refl) refl
goes_on divide = on _ _ refl (λ xs. refl) (λ m. refl) refl
goes_on modulo = on _ _ refl (λ xs. refl) (λ m. refl) refl
goes_on plus = on _ _ refl (λ xs. refl) (λ m. refl) refl
goes_on minus = on _ _ refl (λ xs. refl) (λ m. refl) refl
goes_on less = on _ _ refl (λ xs. refl) (λ m. refl) refl
goes_on at_most = on _ _ refl (λ xs. refl) (λ m. refl) refl
goes_on more = on _ _ refl (λ xs. refl) (λ m. refl) refl
goes_on at_least = on _ _ refl (λ xs. refl) (λ m. refl) refl
goes_on same = on _ _ refl (λ xs. refl) (λ m. refl) refl
goes_on and_also = on _ _ refl (λ xs. refl) (λ m. refl) refl
goes_on or_else = on _ _ refl (λ xs. refl) (λ m. refl) refl
goes_on arrow = on _ _ refl (λ xs. refl) (λ m. refl) refl
goes_on ask = on _ _ refl (λ xs. refl) (λ m. refl) refl
goes_on colon = on _ _ refl (λ xs. refl) (λ m. refl) refl
