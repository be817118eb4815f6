-- What the lexeme is, the bytes begin with.
use Rattle.std.proofs.Common.{◌≡◌, ◌≢◌, ℕ, ◌+◌, ◌<◌, List, [], ◌∷◌, ◌++◌, Option, Some, None, length, refl, ap, sym}
use Rattle.std.proofs.Common.{◌∙◌, drop, arith, true, false, Bool, subst, length-append, append_assoc, inl, inr, ◌⊎◌}
use Rattle.std.proofs.Common.{if◌then◌else◌, ◌==◌, ◌&&◌, ◌||◌, not, nat_lt, nat_eq}
use Rattle.std.proofs.lemmas.Bool.{eqb-true}
use borrow.Author.Tests.{ltb-true}
use Rattle.std.proofs.lemmas.Bool.Decides.{Decides-eqb}
use Rattle.std.proofs.lemmas.Slice.Eq.{starts_is}
use Rattle.std.specs.List.{prefix_len, starts_with, list_all}
use Rattle.std.specs.Char.{is_ascii_digit, is_ascii_uppercase}
use Rattle.ruby_token.specs.declared.token.Op.{Op}
use Rattle.ruby_token.specs.declared.token.TokenKind.TheVariants as k
use Rattle.ruby_token.specs.declared.lexeme.Lexeme.{Lexeme}
use Rattle.ruby_token.specs.declared.lexeme.Lexeme.TheVariants as l
use Rattle.ruby_token.specs.declared.state.State.{State}
use Rattle.ruby_token.specs.Bytes.{Every, is_word, is_lower, is_white, not_lf, is_line_end, is_quote, is_suffix}
use Rattle.ruby_token.specs.Bytes.{is_escape, next_is, next_passes}
use Rattle.ruby_token.specs.Operators.{operators}
use Rattle.ruby_token.specs.Opens.{in_inside}
use Rattle.ruby_token.specs.State.{ends_value, in_brackets, drops}
use Rattle.ruby_token.specs.Lexemes.{NameTail, plain, suffixed, Digits, no_more, digit, underscore, Number, zero_alone}
use Rattle.ruby_token.specs.Lexemes.{number, Ends, Row, first_row, later_row, is_close_brace, What, gap, token, InCode}
use Rattle.ruby_token.specs.Lexemes.{white, comment, dropped, line, lines, name, constant, ivar, label, symbol}
use Rattle.ruby_token.specs.Lexemes.{symbol_constant, int, negative, quote, inside_close, operator, is_plain, Plain}
use Rattle.ruby_token.specs.Lexemes.{nothing, byte, hash, escape, InDouble, piece, closing, opening, Single, InSingle}
use Rattle.ruby_token.specs.Lexemes.{piece_single, closing_single}
use Rattle.ruby_token.specs.Lengths.{name_len, digits_len, suffix_len, lines_len, piece_from, piece_len, piece_ends}
use Rattle.ruby_token.specs.Lengths.{single_len}
use Rattle.ruby_token.specs.Steps.{first_in, operator_at, double_lexeme, double_mark, single_lexeme, word_lexeme}
use Rattle.ruby_token.specs.Steps.{int_lexeme, code_lexeme, space_lexeme, mark_lexeme, line_lexeme, colon_at}
use Rattle.ruby_token.specs.Steps.{operator_lexeme, operator_by, minus_lexeme, at_lexeme, colon_lexeme}
use Rattle.ruby_token.proofs.Longest.{and_left, and_right, not_true}
use Rattle.ruby_token.proofs.Words.{split_if, front, drop_front}
use Rattle.ruby_token.proofs.Runs.{run_at}
use Rattle.ruby_token.proofs.Singles.{single_at}

pub record At (s : State) (bs : List ℕ) (w : What) (n : ℕ) : Type 0 where
  pub text : List ℕ
  pub rest : List ℕ
  pub whole : bs ≡ text ++ rest
  pub size : n ≡ length text
  pub is : InCode s w text rest

-- the bytes begin with what the lexer answers in code; of no lexeme it says nothing
abbrev pub Holds : State → List ℕ → Lexeme → Type 0
Holds s bs (l.Gap n) = At s bs gap n
Holds s bs (l.Token kind n) = At s bs (token kind) n
Holds s bs l.Nothing = Unit {0}

-- shows that the bytes begin with a lexeme, from the lexeme, what is behind it and its rule
pub at : {s : State} {w : What} (bs t r : List ℕ) (n : ℕ) → bs ≡ t ++ r → n ≡ length t → InCode s w t r → At s bs w n
at bs t r n e z h = record { text = t; rest = r; whole = e; size = z; is = h }

-- ---- names

record NameAt (bs : List ℕ) : Type 0 where
  pub text : List ℕ
  pub rest : List ℕ
  pub whole : bs ≡ text ++ rest
  pub size : name_len bs ≡ length text
  pub tail : NameTail text rest

name_more : (u : List ℕ) (q : ℕ) (v : List ℕ) (b : Bool) → Every is_word u →
    b ≡ (is_suffix q && not (next_is 61 v)) →
    name_len (u ++ q ∷ v) ≡ length u + (if (is_suffix q && not (next_is 61 v)) then 1 else 0) → NameAt (u ++ q ∷ v)
name_more u q v true e b n =
    let a : is_suffix q ≡ true = and_left (is_suffix q) (not (next_is 61 v)) (sym b) in
    let c : next_is 61 v ≡ false = not_true _ (and_right (is_suffix q) (not (next_is 61 v)) (sym b)) in
    let n' : name_len (u ++ q ∷ v) ≡ length u + 1 = rw (← b) at n in
    record {
      text = u ++ q ∷ [];
      rest = v;
      whole = sym (append_assoc u (q ∷ []) v);
      size = rw length-append n';
      tail = suffixed u q e a c;
    }
name_more u q v false e b n =
    let n' : name_len (u ++ q ∷ v) ≡ length u + 0 = rw (← b) at n in
    record { text = u; rest = q ∷ v; whole = refl; size = omega (arith, n'); tail = plain e }

name_by : (u v : List ℕ) → Every is_word u → prefix_len is_word (u ++ v) ≡ length u → NameAt (u ++ v)
name_by u [] e p =
    let d : drop (length u) (u ++ []) ≡ [] = drop_front u [] in
    record { text = u; rest = []; whole = refl; size = rw (p, d) (omega arith); tail = plain e }
name_by u (q ∷ v) e p =
    let d : drop (length u) (u ++ q ∷ v) ≡ q ∷ v = drop_front u (q ∷ v) in
    let len : name_len (u ++ q ∷ v) ≡ length u + suffix_len (q ∷ v) = rw (p, d) refl in
    name_more u q v (is_suffix q && not (next_is 61 v)) e refl len

name_at : (bs : List ℕ) → NameAt bs
name_at bs =
    let f = front is_word bs in
    let w : bs ≡ f.text ++ f.rest = f.whole in
    subst NameAt (sym w) (name_by f.text f.rest f.every (ap (prefix_len is_word) (sym w) ∙ f.size))

colon_is : (r : List ℕ) → colon_at r ≡ true → (u : List ℕ) × (r ≡ 58 ∷ u) × (next_is 58 u ≡ false)
colon_is [] h = cc
colon_is (c ∷ u) h =
    let e : c ≡ 58 = eqb-true c 58 (and_left (c == 58) (not (next_is 58 u)) h) in
    (u, ap (λ x. x ∷ u) e, not_true _ (and_right (c == 58) (not (next_is 58 u)) h))

sound_word : (s : State) (b : ℕ) (bs : List ℕ) → is_lower b ≡ true → Holds s (b ∷ bs) (word_lexeme bs)
sound_word s b bs h =
    let f = name_at bs in
    let w : bs ≡ f.text ++ f.rest = f.whole in
    let z : name_len bs ≡ length f.text = f.size in
    let d : drop (name_len bs) bs ≡ f.rest = rw z (ap (drop (length f.text)) w ∙ drop_front f.text f.rest) in
    rw d (split_if (λ x. Holds s (b ∷ bs) x) (colon_at f.rest) _ _
    (λ c. let p = colon_is f.rest c in
    let r : f.rest ≡ 58 ∷ p.0 = p.1 in
    let tail : NameTail f.text (58 ∷ p.0) = rw r at f.tail in
    at (b ∷ bs) (b ∷ (f.text ++ 58 ∷ [])) p.0 (1 + name_len bs + 1)
    (ap (λ x. b ∷ x) (w ∙ ap (λ x. f.text ++ x) r ∙ sym (append_assoc f.text (58 ∷ []) p.0)))
    (rw length-append (omega (arith, z))) (label h tail p.2))
    (λ c. at (b ∷ bs) (b ∷ f.text) f.rest (1 + name_len bs) (ap (λ x. b ∷ x) w) (omega (arith, z)) (name h f.tail)))

-- ---- numbers

record DigitsAt (bs : List ℕ) : Type 0 where
  pub text : List ℕ
  pub rest : List ℕ
  pub whole : bs ≡ text ++ rest
  pub size : digits_len bs ≡ length text
  pub digits : Digits text

-- an underscore before these digits
under : (t : List ℕ) (d : ℕ) (ds r : List ℕ) → Digits t → d ∷ ds ≡ t ++ r → is_ascii_digit d ≡ true → length t ≢ 0 →
    Digits (95 ∷ t)
under t d ds r no_more w h n = absurd (n refl)
under t d ds r (digit e u) w h n = underscore e u
under t d ds r (underscore {b = b} e u) w h n =
    let z : is_ascii_digit 95 ≡ true = (let y : d ≡ 95 = (cc) in rw y at h) in
    cc

digits_more : (b : ℕ) (bs : List ℕ) (v u : Bool) → v ≡ is_ascii_digit b →
    u ≡ ((b == 95) && next_passes is_ascii_digit bs) → DigitsAt bs → DigitsAt (b ∷ bs)
digits_more b bs true u e g f =
    let h : is_ascii_digit b ≡ true = sym e in
    let z : digits_len bs ≡ length f.text = f.size in
    record {
      text = b ∷ f.text;
      rest = f.rest;
      whole = ap (λ x. b ∷ x) f.whole;
      size = rw h (omega (arith, z));
      digits = digit h f.digits;
    }
digits_more b bs false false e g f =
    let h : is_ascii_digit b ≡ false = sym e in
    let h' : ((b == 95) && next_passes is_ascii_digit bs) ≡ false = sym g in
    record { text = []; rest = b ∷ bs; whole = refl; size = rw (h, h') refl; digits = no_more }
digits_more b [] false true e g f =
    let h' : ((b == 95) && false) ≡ true = sym g in
    let z : false ≡ true = and_right (b == 95) false h' in
    cc
digits_more b (d ∷ ds) false true e g f =
    let h : is_ascii_digit b ≡ false = sym e in
    let h' : ((b == 95) && is_ascii_digit d) ≡ true = sym g in
    let c : b ≡ 95 = eqb-true b 95 (and_left (b == 95) _ h') in
    let i : is_ascii_digit d ≡ true = and_right (b == 95) _ h' in
    let z : digits_len (d ∷ ds) ≡ length f.text = f.size in
    let y : digits_len (d ∷ ds) ≡ 1 + digits_len ds = rw i refl in
    let n : length f.text ≢ 0 = λ x. omega (arith, x, z, y) in
    record {
      text = 95 ∷ f.text;
      rest = f.rest;
      whole = ap (λ x. x ∷ d ∷ ds) c ∙ ap (λ x. 95 ∷ x) f.whole;
      size = rw (h, h') (omega (arith, z));
      digits = under f.text d ds f.rest f.digits f.whole i n;
    }

digits_at : (bs : List ℕ) → DigitsAt bs
digits_at [] = record { text = []; rest = []; whole = refl; size = refl; digits = no_more }
digits_at (b ∷ bs) = digits_more b bs (is_ascii_digit b) ((b == 95) && next_passes is_ascii_digit bs) refl refl
    (digits_at bs)

-- a sign, and a number behind it
sound_int : (s : State) (sign : List ℕ) (b : ℕ) (bs : List ℕ) → is_ascii_digit b ≡ true →
    ((t r : List ℕ) → Number t → InCode s (token k.Int) (sign ++ t) r) →
    Holds s (sign ++ b ∷ bs) (int_lexeme (length sign) b bs)
sound_int s sign b bs h f =
    let g = digits_at bs in
    let z : digits_len bs ≡ length g.text = g.size in
    split_if (λ x. Holds s (sign ++ b ∷ bs) x) (b == 48) _ _
    (λ c. let e : b ≡ 48 = eqb-true b 48 c in
    at (sign ++ b ∷ bs) (sign ++ 48 ∷ []) bs (length sign + 1) (ap (λ x. sign ++ x ∷ bs) e
    ∙ sym (append_assoc sign (48 ∷ []) bs)) (rw length-append (omega arith)) (f (48 ∷ []) bs zero_alone))
    (λ c. at (sign ++ b ∷ bs) (sign ++ b ∷ g.text) g.rest (length sign + 1 + digits_len bs)
    (ap (λ x. sign ++ b ∷ x) g.whole ∙ sym (append_assoc sign (b ∷ g.text) g.rest))
    (rw length-append (omega (arith, z))) (f (b ∷ g.text) g.rest (number h c g.digits)))

-- ---- operators

record RowAt (rs : List (List ℕ × Op)) (bs : List ℕ) (f : Op × ℕ) : Type 0 where
  pub text : List ℕ
  pub rest : List ℕ
  pub whole : bs ≡ text ++ rest
  pub size : f.1 ≡ length text
  pub row : Row rs text f.0

abbrev RowFound : List (List ℕ × Op) → List ℕ → Option (Op × ℕ) → Type 0
RowFound rs bs None = Unit {0}
RowFound rs bs (Some f) = RowAt rs bs f

row_later : (q : List ℕ × Op) (rs : List (List ℕ × Op)) (bs : List ℕ) (o : Option (Op × ℕ)) → RowFound rs bs o →
    RowFound (q ∷ rs) bs o
row_later q rs bs None h = tt
row_later q rs bs (Some f) h =
    record { text = h.text; rest = h.rest; whole = h.whole; size = h.size; row = later_row h.row }

row_at : (rs : List (List ℕ × Op)) (bs : List ℕ) → RowFound rs bs (first_in rs bs)
row_at [] bs = tt
row_at (q ∷ rs) bs = split_if (λ x. RowFound (q ∷ rs) bs x) (starts_with nat_eq bs q.0) _ _
    (λ h. record {
      text = q.0;
      rest = drop (length q.0) bs;
      whole =
          (starts_is Decides-eqb bs q.0 (starts_with nat_eq bs q.0) refl).0 h;
      size = refl;
      row = first_row;
    })
    (λ h. row_later q rs bs (first_in rs bs) (row_at rs bs))

operator_found : (bs : List ℕ) → RowFound operators bs (operator_at bs)
unfolding operator_at
operator_found bs = row_at operators bs

row_all : (p : List ℕ × Op → Bool) (rs : List (List ℕ × Op)) (t : List ℕ) (x : Op) → Row rs t x →
    list_all p rs ≡ true → p (t, x) ≡ true
row_all p _ t x (first_row {rs = rs}) h = and_left (p (t, x)) (list_all p rs) h
row_all p _ t x (later_row {q = q} {rs = rs} m) h = row_all p rs t x m (and_right (p q) (list_all p rs) h)

abbrev is_single : List ℕ → Bool
is_single [] = false
is_single (b ∷ []) = b == 125
is_single (b ∷ c ∷ bs) = false

single_is : (t : List ℕ) → is_single t ≡ true → t ≡ 125 ∷ []
single_is [] h = cc
single_is (b ∷ []) h = ap (λ x. x ∷ []) (eqb-true b 125 h)
single_is (b ∷ c ∷ bs) h = cc

second : (a b : Bool) → a ≡ false → (a || b) ≡ true → b ≡ true
second true b e h = cc
second false b e h = h

brace_is : (x : Op) (t : List ℕ) → Row operators t x → is_close_brace x ≡ true → t ≡ 125 ∷ []
brace_is x t h c = single_is t
    (second (not (is_close_brace x)) (is_single t) (ap not c)
    (row_all (λ q. not (is_close_brace q.1) || is_single q.0) operators t x h refl))

sound_found : (s : State) (bs : List ℕ) (o : Option (Op × ℕ)) → RowFound operators bs o →
    Holds s bs (operator_by s.opens o)
sound_found s bs None h = tt
sound_found s bs (Some f) h = split_if (λ x. Holds s bs x) (is_close_brace f.0 && in_inside s.opens) _ _
    (λ c. let e : h.text ≡ 125 ∷ [] = brace_is f.0 h.text h.row (and_left (is_close_brace f.0) _ c) in
    at bs (125 ∷ []) h.rest f.1 (h.whole ∙ ap (λ x. x ++ h.rest) e) (h.size ∙ ap length e)
    (inside_close (and_right (is_close_brace f.0) _ c)))
    (λ c. at bs h.text h.rest f.1 h.whole h.size (operator h.row c))

sound_operator : (s : State) (bs : List ℕ) → Holds s bs (operator_lexeme s.opens bs)
sound_operator s bs = sound_found s bs (operator_at bs) (operator_found bs)

sound_minus : (s : State) (bs : List ℕ) → ends_value s.after ≡ false → Holds s (45 ∷ bs) (minus_lexeme s.opens bs)
sound_minus s [] v = sound_operator s (45 ∷ [])
sound_minus s (b ∷ bs) v = split_if (λ x. Holds s (45 ∷ b ∷ bs) x) (is_ascii_digit b) _ _
    (λ h. sound_int s (45 ∷ []) b bs h (λ t r n. negative v n))
    (λ h. sound_operator s (45 ∷ b ∷ bs))

sound_at : (s : State) (bs : List ℕ) → Holds s (64 ∷ bs) (at_lexeme s.opens bs)
sound_at s [] = sound_operator s (64 ∷ [])
sound_at s (b ∷ bs) =
    let f = front is_word bs in
    let z : prefix_len is_word bs ≡ length f.text = f.size in
    split_if (λ x. Holds s (64 ∷ b ∷ bs) x) (is_lower b) _ _
    (λ h. at (64 ∷ b ∷ bs) (64 ∷ b ∷ f.text) f.rest (2 + prefix_len is_word bs) (ap (λ x. 64 ∷ b ∷ x) f.whole)
    (omega (arith, z)) (ivar h f.every))
    (λ h. sound_operator s (64 ∷ b ∷ bs))

sound_colon : (s : State) (bs : List ℕ) → (s.before == 58) ≡ false → Holds s (58 ∷ bs) (colon_lexeme s.opens bs)
sound_colon s [] c = sound_operator s (58 ∷ [])
sound_colon s (b ∷ bs) c =
    let f = front is_word bs in
    let z : prefix_len is_word bs ≡ length f.text = f.size in
    let g = name_at bs in
    let y : name_len bs ≡ length g.text = g.size in
    split_if (λ x. Holds s (58 ∷ b ∷ bs) x) (is_lower b) _ _
    (λ h. at (58 ∷ b ∷ bs) (58 ∷ b ∷ g.text) g.rest (2 + name_len bs) (ap (λ x. 58 ∷ b ∷ x) g.whole)
    (omega (arith, y)) (symbol c h g.tail))
    (λ a. split_if (λ x. Holds s (58 ∷ b ∷ bs) x) (is_ascii_uppercase b) _ _
    (λ h. at (58 ∷ b ∷ bs) (58 ∷ b ∷ f.text) f.rest (2 + prefix_len is_word bs) (ap (λ x. 58 ∷ b ∷ x) f.whole)
    (omega (arith, z)) (symbol_constant c h f.every))
    (λ h. sound_operator s (58 ∷ b ∷ bs)))

-- ---- lines and spaces

dropped_is : (s : State) (b : ℕ) → drops s b ≡ true → b ≡ 10
dropped_is s b h = eqb-true b 10 (and_left (b == 10) _ h)

line_by : (s : State) (b : ℕ) (bs t r : List ℕ) (n : ℕ) → is_line_end b ≡ true → drops s b ≡ false → bs ≡ t ++ r →
    n ≡ length t → (t ≡ []) ⊎ (Ends (in_brackets s) t) → At s (b ∷ bs) (token k.Line) (1 + n)
line_by s b bs t r n h d w z (inl e) =
    let w' : bs ≡ r = w ∙ ap (λ x. x ++ r) e in
    let z' : n ≡ 0 = z ∙ ap length e in
    at (b ∷ bs) (b ∷ []) r (1 + n) (ap (λ x. b ∷ x) w') (omega (arith, z')) (line h d)
line_by s b bs t r n h d w z (inr e) = at (b ∷ bs) (b ∷ t) r (1 + n) (ap (λ x. b ∷ x) w) (omega (arith, z))
    (lines h d e)

sound_line : (s : State) (b : ℕ) (bs : List ℕ) → is_line_end b ≡ true → Holds s (b ∷ bs) (line_lexeme s b bs)
sound_line s b bs h = split_if (λ x. Holds s (b ∷ bs) x) (drops s b) _ _
    (λ c. let e : b ≡ 10 = dropped_is s b c in
    let c' : drops s 10 ≡ true = subst (λ x. drops s x ≡ true) e c in
    at (b ∷ bs) (10 ∷ []) bs 1 (ap (λ x. x ∷ bs) e) refl (dropped c'))
    (λ c. let f = run_at (in_brackets s) bs in
    line_by s b bs f.text f.rest (lines_len (in_brackets s) false bs) h c f.whole f.size f.run)

sound_mark : (s : State) (b : ℕ) (bs : List ℕ) → Holds s (b ∷ bs) (mark_lexeme s b bs)
sound_mark s b bs =
    let P : Lexeme → Type 0 = λ x. Holds s (b ∷ bs) x in
    split_if P ((b == 45) && not (ends_value s.after)) _ _
    (λ h. let e : b ≡ 45 = eqb-true b 45 (and_left (b == 45) _ h) in
    subst (λ x. Holds s (x ∷ bs) (minus_lexeme s.opens bs)) (sym e)
    (sound_minus s bs (not_true _ (and_right (b == 45) _ h))))
    (λ a1. split_if P (b == 64) _ _
    (λ h. subst (λ x. Holds s (x ∷ bs) (at_lexeme s.opens bs)) (sym (eqb-true b 64 h)) (sound_at s bs))
    (λ a2. split_if P ((b == 58) && not (s.before == 58)) _ _
    (λ h. let e : b ≡ 58 = eqb-true b 58 (and_left (b == 58) _ h) in
    subst (λ x. Holds s (x ∷ bs) (colon_lexeme s.opens bs)) (sym e)
    (sound_colon s bs (not_true _ (and_right (b == 58) _ h))))
    (λ a3. sound_operator s (b ∷ bs))))

sound_space : (s : State) (b : ℕ) (bs : List ℕ) → Holds s (b ∷ bs) (space_lexeme s b bs)
sound_space s b bs =
    let P : Lexeme → Type 0 = λ x. Holds s (b ∷ bs) x in
    let f = front not_lf bs in
    let z : prefix_len not_lf bs ≡ length f.text = f.size in
    let g = front is_white bs in
    let y : prefix_len is_white bs ≡ length g.text = g.size in
    split_if P (is_white b) _ _
    (λ h. at (b ∷ bs) (b ∷ g.text) g.rest (1 + prefix_len is_white bs) (ap (λ x. b ∷ x) g.whole)
    (omega (arith, y)) (white h g.every))
    (λ a. split_if P (b == 35) _ _ (λ h. let e : b ≡ 35 = eqb-true b 35 h in
    at (b ∷ bs) (35 ∷ f.text) f.rest (1 + prefix_len not_lf bs) (ap (λ x. x ∷ bs) e ∙ ap (λ x. 35 ∷ x) f.whole)
    (omega (arith, z)) (comment f.every))
    (λ a1. split_if P (is_line_end b) _ _ (λ h. sound_line s b bs h)
    (λ a2. split_if P (is_quote b) _ _ (λ h. at (b ∷ bs) (b ∷ []) bs 1 refl refl (quote h))
    (λ a3. sound_mark s b bs))))

-- in code the bytes begin with the lexeme that the lexer answers
pub sound_outside : (s : State) (b : ℕ) (bs : List ℕ) → Holds s (b ∷ bs) (code_lexeme s b bs)
sound_outside s b bs =
    let P : Lexeme → Type 0 = λ x. Holds s (b ∷ bs) x in
    let f = front is_word bs in
    let z : prefix_len is_word bs ≡ length f.text = f.size in
    split_if P (is_lower b) _ _ (λ h. sound_word s b bs h)
    (λ a. split_if P (is_ascii_uppercase b) _ _
    (λ h. at (b ∷ bs) (b ∷ f.text) f.rest (1 + prefix_len is_word bs) (ap (λ x. b ∷ x) f.whole)
    (omega (arith, z)) (constant h f.every))
    (λ a1. split_if P (is_ascii_digit b) _ _ (λ h. sound_int s [] b bs h (λ t r n. int n))
    (λ a2. sound_space s b bs)))

-- ---- in double quotes

or_left : (a b : Bool) → (a || b) ≡ false → a ≡ false
or_left true b h = h
or_left false b h = refl

or_right : (a b : Bool) → (a || b) ≡ false → b ≡ false
or_right true b h = cc
or_right false b h = h

not_false : (a : Bool) → not a ≡ false → a ≡ true
not_false true h = refl
not_false false h = cc

record PlainAt (bs : List ℕ) : Type 0 where
  pub text : List ℕ
  pub rest : List ℕ
  pub whole : bs ≡ text ++ rest
  pub size : piece_from false bs ≡ length text
  pub plain_text : Plain text rest

no_quote : (b : ℕ) (bs : List ℕ) → piece_ends b bs ≡ false → (b == 34) ≡ false
no_quote b bs h = or_left (b == 34) _ h

no_inside : (b : ℕ) (bs : List ℕ) → piece_ends b bs ≡ false → ((b == 35) && next_is 123 bs) ≡ false
no_inside b bs h = or_left ((b == 35) && next_is 123 bs) _ (or_right (b == 34) _ h)

no_wrong : (b : ℕ) (bs : List ℕ) → piece_ends b bs ≡ false → ((b == 92) && not (next_passes is_escape bs)) ≡ false
no_wrong b bs h = or_right ((b == 35) && next_is 123 bs) _ (or_right (b == 34) _ h)

plain_none : (b : ℕ) (bs : List ℕ) → piece_ends b bs ≡ true → PlainAt (b ∷ bs)
plain_none b bs h = record { text = []; rest = b ∷ bs; whole = refl; size = rw h refl; plain_text = nothing }

-- no backslash
plain_byte : (b : ℕ) (bs : List ℕ) (v : Bool) → v ≡ (b == 35) → piece_ends b bs ≡ false → (b == 92) ≡ false →
    PlainAt bs → PlainAt (b ∷ bs)
plain_byte b bs true e h n f =
    let z : piece_from false bs ≡ length f.text = f.size in
    let c : b ≡ 35 = eqb-true b 35 (sym e) in
    let o : ((b == 35) && next_is 123 bs) ≡ false = no_inside b bs h in
    let o' : next_is 123 bs ≡ false = rw (← e) at o in
    let o2 : next_is 123 (f.text ++ f.rest) ≡ false = ap (next_is 123) (sym f.whole) ∙ o' in
    record {
      text = 35 ∷ f.text;
      rest = f.rest;
      whole = ap (λ x. x ∷ bs) c ∙ ap (λ x. 35 ∷ x) f.whole;
      size =
          rw (h, n) (omega (arith, z));
      plain_text = hash o2 f.plain_text;
    }
plain_byte b bs false e h n f =
    let z : piece_from false bs ≡ length f.text = f.size in
    let a : (b == 34) ≡ false = no_quote b bs h in
    let y : (b == 35) ≡ false = sym e in
    let p : is_plain b ≡ true = rw (a, y, n) refl in
    record {
      text = b ∷ f.text;
      rest = f.rest;
      whole = ap (λ x. b ∷ x) f.whole;
      size = rw (h, n) (omega (arith, z));
      plain_text = byte p f.plain_text;
    }

plain_escape : (b e : ℕ) (bs : List ℕ) → piece_ends b (e ∷ bs) ≡ false → (b == 92) ≡ true → PlainAt bs →
    PlainAt (b ∷ e ∷ bs)
plain_escape b e bs h n f =
    let z : piece_from false bs ≡ length f.text = f.size in
    let c : b ≡ 92 = eqb-true b 92 n in
    let o : ((b == 92) && not (is_escape e)) ≡ false = no_wrong b (e ∷ bs) h in
    let o' : not (is_escape e) ≡ false = rw n at o in
    let o2 : is_escape e ≡ true = not_false (is_escape e) o' in
    record {
      text = 92 ∷ e ∷ f.text;
      rest = f.rest;
      whole = ap (λ x. x ∷ e ∷ bs) c
          ∙ ap (λ x. 92 ∷ e ∷ x) f.whole;
      size = rw (h, n) (omega (arith, z));
      plain_text = escape o2 f.plain_text;
    }

plain_lone : (b : ℕ) → piece_ends b [] ≡ false → (b == 92) ≡ true → PlainAt (b ∷ [])
plain_lone b h n =
    let o : ((b == 92) && true) ≡ false = no_wrong b [] h in
    let o' : true ≡ false = rw n at o in
    cc

plain_one : (b : ℕ) (v u : Bool) → v ≡ piece_ends b [] → u ≡ (b == 92) → PlainAt (b ∷ [])
plain_one b true u e g = plain_none b [] (sym e)
plain_one b false true e g = plain_lone b (sym e) (sym g)
plain_one b false false e g = plain_byte b [] (b == 35) refl (sym e) (sym g)
    (record { text = []; rest = []; whole = refl; size = refl; plain_text = nothing })

plain_two : (b e : ℕ) (bs : List ℕ) (v u : Bool) → v ≡ piece_ends b (e ∷ bs) → u ≡ (b == 92) → PlainAt (e ∷ bs) →
    PlainAt bs → PlainAt (b ∷ e ∷ bs)
plain_two b e bs true u h g p q = plain_none b (e ∷ bs) (sym h)
plain_two b e bs false true h g p q = plain_escape b e bs (sym h) (sym g) q
plain_two b e bs false false h g p q = plain_byte b (e ∷ bs) (b == 35) refl (sym h) (sym g) p

plain_at : (bs : List ℕ) → PlainAt bs
plain_at [] = record { text = []; rest = []; whole = refl; size = refl; plain_text = nothing }
plain_at (b ∷ []) = plain_one b (piece_ends b []) (b == 92) refl refl
plain_at (b ∷ e ∷ bs) = plain_two b e bs (piece_ends b (e ∷ bs)) (b == 92) refl refl (plain_at (e ∷ bs)) (plain_at bs)

pub record AtDouble (bs : List ℕ) (w : What) (n : ℕ) : Type 0 where
  pub text : List ℕ
  pub rest : List ℕ
  pub whole : bs ≡ text ++ rest
  pub size : n ≡ length text
  pub is : InDouble w text rest

-- the same in double quotes: the bytes begin with what the lexer answers there
abbrev pub HoldsDouble : List ℕ → Lexeme → Type 0
HoldsDouble bs (l.Gap n) = AtDouble bs gap n
HoldsDouble bs (l.Token kind n) = AtDouble bs (token kind) n
HoldsDouble bs l.Nothing = Unit {0}

at_double : {w : What} (bs t r : List ℕ) (n : ℕ) → bs ≡ t ++ r → n ≡ length t → InDouble w t r → AtDouble bs w n
at_double bs t r n e z h = record { text = t; rest = r; whole = e; size = z; is = h }

-- a piece that isn't empty
sound_piece : (bs : List ℕ) (n : ℕ) → n ≡ piece_len bs → 0 < n → (t r : List ℕ) → bs ≡ t ++ r →
    piece_len bs ≡ length t → Plain t r → AtDouble bs (token k.TextPiece) n
sound_piece bs n e h [] r w z p = absurd (omega (arith, e, z, h))
sound_piece bs n e h (b ∷ t) r w z p = at_double bs (b ∷ t) r n w (e ∙ z) (piece p)

brace_next : (bs : List ℕ) → next_is 123 bs ≡ true → (r : List ℕ) × (bs ≡ 123 ∷ r)
brace_next [] h = cc
brace_next (b ∷ bs) h = (bs, ap (λ x. x ∷ bs) (eqb-true b 123 h))

sound_double_mark : (b : ℕ) (bs : List ℕ) → HoldsDouble (b ∷ bs) (double_mark (b ∷ bs))
sound_double_mark b bs = split_if (λ x. HoldsDouble (b ∷ bs) x) (b == 34) _ _
    (λ c. at_double (b ∷ bs) (34 ∷ []) bs 1 (ap (λ x. x ∷ bs) (eqb-true b 34 c)) refl closing)
    (λ c. split_if (λ x. HoldsDouble (b ∷ bs) x) ((b == 35) && next_is 123 bs) _ _
    (λ h. let e : b ≡ 35 = eqb-true b 35 (and_left (b == 35) _ h) in
    let p = brace_next bs (and_right (b == 35) _ h) in
    let w : bs ≡ 123 ∷ p.0 = p.1 in
    at_double (b ∷ bs) (35 ∷ 123 ∷ []) p.0 2 (ap (λ x. x ∷ bs) e ∙ ap (λ x. 35 ∷ x) w) refl opening)
    (λ h. tt))

-- in double quotes the bytes begin with the lexeme that the lexer answers
pub sound_double : (b : ℕ) (bs : List ℕ) → HoldsDouble (b ∷ bs) (double_lexeme (b ∷ bs))
sound_double b bs =
    let f = plain_at (b ∷ bs) in
    split_if (λ x. HoldsDouble (b ∷ bs) x) (nat_lt 0 (piece_len (b ∷ bs))) _ _
    (λ h. sound_piece (b ∷ bs) (piece_len (b ∷ bs)) refl (ltb-true 0 (piece_len (b ∷ bs)) h) f.text f.rest f.whole
    f.size f.plain_text)
    (λ h. sound_double_mark b bs)

-- ---- in single quotes

pub record AtSingle (bs : List ℕ) (w : What) (n : ℕ) : Type 0 where
  pub text : List ℕ
  pub rest : List ℕ
  pub whole : bs ≡ text ++ rest
  pub size : n ≡ length text
  pub is : InSingle w text rest

-- the same in single quotes: the bytes begin with what the lexer answers there
abbrev pub HoldsSingle : List ℕ → Lexeme → Type 0
HoldsSingle bs (l.Gap n) = AtSingle bs gap n
HoldsSingle bs (l.Token kind n) = AtSingle bs (token kind) n
HoldsSingle bs l.Nothing = Unit {0}

at_single : {w : What} (bs t r : List ℕ) (n : ℕ) → bs ≡ t ++ r → n ≡ length t → InSingle w t r → AtSingle bs w n
at_single bs t r n e z h = record { text = t; rest = r; whole = e; size = z; is = h }

sound_single_piece : (bs : List ℕ) (n : ℕ) → n ≡ single_len bs → 0 < n → (t r : List ℕ) → bs ≡ t ++ r →
    single_len bs ≡ length t → Single t r → AtSingle bs (token k.TextPiece) n
sound_single_piece bs n e h [] r w z p = absurd (omega (arith, e, z, h))
sound_single_piece bs n e h (b ∷ t) r w z p = at_single bs (b ∷ t) r n w (e ∙ z) (piece_single p)

-- in single quotes the bytes begin with the lexeme that the lexer answers
pub sound_single : (b : ℕ) (bs : List ℕ) → HoldsSingle (b ∷ bs) (single_lexeme (b ∷ bs))
sound_single b bs =
    let f = single_at (b ∷ bs) in
    split_if (λ x. HoldsSingle (b ∷ bs) x) (nat_lt 0 (single_len (b ∷ bs))) _ _
    (λ h. sound_single_piece (b ∷ bs) (single_len (b ∷ bs)) refl (ltb-true 0 (single_len (b ∷ bs)) h) f.text f.rest
    f.whole f.size f.plain)
    (λ h. split_if (λ x. HoldsSingle (b ∷ bs) x) (b == 39) _ _
    (λ c. at_single (b ∷ bs) (39 ∷ []) bs 1 (ap (λ x. x ∷ bs) (eqb-true b 39 c)) refl closing_single)
    (λ c. tt))
