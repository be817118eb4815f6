-- Nothing that the bytes may begin with is longer than the lexeme.
use Rattle.std.proofs.Common.{◌≡◌, ℕ, suc, ◌+◌, ◌<◌, ◌≤◌, List, [], ◌∷◌, ◌++◌, length, refl, ap, sym, ◌∙◌, drop, arith}
use Rattle.std.proofs.Common.{true, false, subst, length-append, append_assoc, inl, inr, ◌⊎◌, Option, Some, ◌==◌, ◌&&◌}
use Rattle.std.proofs.Common.{not, nat_lt}
use Rattle.std.proofs.lemmas.Bool.{eqb-true}
use Rattle.std.proofs.lemmas.Bool.Decides.{nat_tests}
use Rattle.std.specs.List.{prefix_len}
use Rattle.std.specs.Char.{is_ascii_digit, is_ascii_uppercase}
use Rattle.ruby_token.specs.declared.token.Op.{Op}
use Rattle.ruby_token.specs.declared.token.TokenKind.{TokenKind}
use Rattle.ruby_token.specs.declared.token.TokenKind.TheVariants as k
use Rattle.ruby_token.specs.declared.opens.Open.{Open}
use Rattle.ruby_token.specs.declared.lexeme.Lexeme.{Lexeme}
use Rattle.ruby_token.specs.declared.lexeme.Lexeme.TheVariants as l
use Rattle.ruby_token.specs.declared.state.State.{State}
use Rattle.ruby_token.specs.Bytes.{is_word, is_lower, is_white, not_lf, is_line_end, is_quote, is_suffix, next_is}
use Rattle.ruby_token.specs.Bytes.{next_passes}
use Rattle.ruby_token.specs.Operators.{operators}
use Rattle.ruby_token.specs.Opens.{in_inside}
use Rattle.ruby_token.specs.State.{ends_value, in_brackets, drops}
use Rattle.ruby_token.specs.Lexemes.{NameTail, plain, suffixed, Digits, no_more, digit, underscore, Number, zero_alone}
use Rattle.ruby_token.specs.Lexemes.{number, Row, is_close_brace, What, gap, token, InCode, white, comment, dropped}
use Rattle.ruby_token.specs.Lexemes.{line, lines, name, constant, ivar, label, symbol, symbol_constant, int, negative}
use Rattle.ruby_token.specs.Lexemes.{quote, inside_close, operator, Plain, nothing, byte, hash, escape, InDouble, piece}
use Rattle.ruby_token.specs.Lexemes.{closing, opening, InSingle, piece_single, closing_single}
use Rattle.ruby_token.specs.Lengths.{name_len, digits_len, lines_len, piece_from, piece_len, single_len}
use Rattle.ruby_token.specs.Steps.{operator_at, double_lexeme, single_lexeme, word_lexeme, int_lexeme, code_lexeme}
use Rattle.ruby_token.specs.Steps.{mark_lexeme, colon_at, operator_lexeme, operator_by, minus_lexeme, at_lexeme}
use Rattle.ruby_token.specs.Steps.{colon_lexeme}
use Rattle.ruby_token.proofs.Longest.{le_cases, and_left, Found, operator_longest, operator_ok, text_ok, Mark, ok_mark}
use Rattle.ruby_token.proofs.Longest.{ok_next}
use Rattle.ruby_token.proofs.Words.{split_if, at_most, exactly, drop_front}
use Rattle.ruby_token.proofs.Runs.{run_len, white_is}
use Rattle.ruby_token.proofs.Singles.{single_longest}

-- how many bytes a lexeme has; none where no lexeme begins
abbrev pub size : Lexeme → ℕ
size (l.Gap n) = n
size (l.Token kind n) = n
size l.Nothing = 0

-- the lexer's answer for a lexeme of this kind and length
abbrev pub as_is : What → ℕ → Lexeme
as_is gap n = l.Gap n
as_is (token kind) n = l.Token kind n

-- it's shorter than the lexeme, or it's the lexeme
abbrev pub Best : Lexeme → What → ℕ → Type 0
Best x w n = (n < size x) ⊎ (x ≡ as_is w n)

-- a token of this kind that is as long as this, or longer
best_token : (kind : TokenKind) (n m : ℕ) → n ≤ m → Best (l.Token kind m) (token kind) n
best_token kind n m h = elim (le_cases n m h) [ inl a ↦ inl a | inr e ↦ inr (ap (λ x. l.Token kind x) (sym e)) ]

best_gap : (n m : ℕ) → n ≤ m → Best (l.Gap m) gap n
best_gap n m h = elim (le_cases n m h) [ inl a ↦ inl a | inr e ↦ inr (ap (λ x. l.Gap x) (sym e)) ]

-- ---- names

-- a name that is as long as this, or shorter
best_name : (bs : List ℕ) (n : ℕ) → n ≤ name_len bs → Best (word_lexeme bs) (token k.Name) (suc n)
best_name bs n h = split_if (λ x. Best x (token k.Name) (suc n)) (colon_at (drop (name_len bs) bs)) _ _
    (λ c. inl (omega arith))
    (λ c. best_token k.Name (suc n) (1 + name_len bs) (omega arith))

suffix_not_word : (q : ℕ) → is_suffix q ≡ true → is_word q ≡ false
suffix_not_word q h = grind (arith, nat_tests)

tail_len : (t r : List ℕ) → NameTail t r → length t ≤ name_len (t ++ r)
tail_len t r (plain e) = let h : length t ≤ prefix_len is_word (t ++ r) = at_most is_word t r e in omega arith
tail_len t r (suffixed u q e s n) =
    let a : (u ++ q ∷ []) ++ r ≡ u ++ q ∷ r = append_assoc u (q ∷ []) r in
    let p : prefix_len is_word (u ++ q ∷ r) ≡ length u = exactly is_word u q r e (suffix_not_word q s) in
    let d : drop (length u) (u ++ q ∷ r) ≡ q ∷ r = drop_front u (q ∷ r) in
    rw (a, p, d, s, n, length-append) (omega arith)

-- the name before a colon ends there
tail_exact : (t r : List ℕ) → NameTail t (58 ∷ r) → name_len (t ++ 58 ∷ r) ≡ length t
tail_exact t r (plain e) =
    let p : prefix_len is_word (t ++ 58 ∷ r) ≡ length t = exactly is_word t 58 r e refl in
    let d : drop (length t) (t ++ 58 ∷ r) ≡ 58 ∷ r = drop_front t (58 ∷ r) in
    rw (p, d) (omega arith)
tail_exact t r (suffixed u q e s n) =
    let a : (u ++ q ∷ []) ++ 58 ∷ r ≡ u ++ q ∷ 58 ∷ r = append_assoc u (q ∷ []) (58 ∷ r) in
    let p : prefix_len is_word (u ++ q ∷ 58 ∷ r) ≡ length u = exactly is_word u q (58 ∷ r) e (suffix_not_word q s) in
    let d : drop (length u) (u ++ q ∷ 58 ∷ r) ≡ q ∷ 58 ∷ r = drop_front u (q ∷ 58 ∷ r) in
    rw (a, p, d, s, length-append) refl

best_label : (t r : List ℕ) → NameTail t (58 ∷ r) → next_is 58 r ≡ false →
    word_lexeme (t ++ 58 ∷ r) ≡ l.Token k.Label (1 + length t + 1)
best_label t r h n =
    let e : name_len (t ++ 58 ∷ r) ≡ length t = tail_exact t r h in
    let d : drop (length t) (t ++ 58 ∷ r) ≡ 58 ∷ r = drop_front t (58 ∷ r) in
    rw (e, d, n) refl

-- ---- numbers

digits_longest : (t r : List ℕ) → Digits t → length t ≤ digits_len (t ++ r)
digits_longest t r no_more = omega arith
digits_longest t r (digit {b = b} {t = u} h d) =
    let i : length u ≤ digits_len (u ++ r) = digits_longest u r d in
    rw h (omega (arith, i))
digits_longest t r (underscore {b = b} {t = u} h d) =
    let i : length u ≤ digits_len (u ++ r) = digits_longest u r d in
    rw h (omega (arith, i))

best_number : (sign n : ℕ) (b : ℕ) (t r : List ℕ) → Number (b ∷ t) → n ≡ sign + suc (length t) →
    Best (int_lexeme sign b (t ++ r)) (token k.Int) n
best_number sign n b t r zero_alone e = best_token k.Int n (sign + 1) (omega arith)
best_number sign n b t r (number h z d) e =
    let i : length t ≤ digits_len (t ++ r) = digits_longest t r d in
    rw z (best_token k.Int n (sign + 1 + digits_len (t ++ r)) (omega arith))

-- ---- classes of bytes

upper_not_lower : (b : ℕ) → is_ascii_uppercase b ≡ true → is_lower b ≡ false
upper_not_lower b h = grind (arith, nat_tests)

digit_not_lower : (b : ℕ) → is_ascii_digit b ≡ true → is_lower b ≡ false
digit_not_lower b h = grind (arith, nat_tests)

digit_not_upper : (b : ℕ) → is_ascii_digit b ≡ true → is_ascii_uppercase b ≡ false
digit_not_upper b h = grind (arith, nat_tests)

word_of_digit : (b : ℕ) → is_word b ≡ false → is_ascii_digit b ≡ false
word_of_digit b h = grind (arith, nat_tests)

word_of_lower : (b : ℕ) → is_word b ≡ false → is_lower b ≡ false
word_of_lower b h = grind (arith, nat_tests)

word_of_upper : (b : ℕ) → is_word b ≡ false → is_ascii_uppercase b ≡ false
word_of_upper b h = grind (arith, nat_tests)

line_is : (b : ℕ) → is_line_end b ≡ true → (b ≡ 10) ⊎ (b ≡ 59)
line_is b h = grind (arith, nat_tests)

quote_is : (b : ℕ) → is_quote b ≡ true → (b ≡ 34) ⊎ (b ≡ 39)
quote_is b h = grind (arith, nat_tests)

-- ---- operators

-- the lexer's answer in code as a function of all the bytes at hand, none of them included
abbrev pub front_code : State → List ℕ → Lexeme
front_code s [] = l.Nothing
front_code s (b ∷ bs) = code_lexeme s b bs

best_found : (opens : List Open) (o : Option (Op × ℕ)) (t : List ℕ) (x : Op) → Found o t x →
    (is_close_brace x && in_inside opens) ≡ false → Best (operator_by opens o) (token (k.Op x)) (length t)
best_found opens o t x f c =
    let g : o ≡ Some f.what = f.is in
    rw g (elim f.best [
      | inl a ↦ split_if (λ y. Best y (token (k.Op x)) (length t)) (is_close_brace f.what.0 && in_inside opens) _ _
          (λ v. inl a) (λ v. inl a)
      | inr e ↦ inr (rw (e, c) refl)
    ])

-- after a minus
best_minus : (opens : List Open) (x : Op) (cs r : List ℕ) → next_passes is_word cs ≡ false →
    Best (operator_lexeme opens (45 ∷ (cs ++ r))) (token (k.Op x)) (suc (length cs)) →
    Best (minus_lexeme opens (cs ++ r)) (token (k.Op x)) (suc (length cs))
best_minus opens x [] [] d h = h
best_minus opens x [] (b ∷ r) d h = split_if (λ y. Best y (token (k.Op x)) 1) (is_ascii_digit b) _ _
    (λ v. split_if (λ y. Best y (token (k.Op x)) 1) (b == 48) _ _ (λ z. inl (omega arith)) (λ z. inl (omega arith)))
    (λ v. h)
best_minus opens x (b ∷ cs) r d h = let d' : is_ascii_digit b ≡ false = word_of_digit b d in rw d' h

-- after a `@`
best_at : (opens : List Open) (x : Op) (cs r : List ℕ) → next_passes is_word cs ≡ false →
    Best (operator_lexeme opens (64 ∷ (cs ++ r))) (token (k.Op x)) (suc (length cs)) →
    Best (at_lexeme opens (cs ++ r)) (token (k.Op x)) (suc (length cs))
best_at opens x [] [] d h = h
best_at opens x [] (b ∷ r) d h = split_if (λ y. Best y (token (k.Op x)) 1) (is_lower b) _ _ (λ v. inl (omega arith))
    (λ v. h)
best_at opens x (b ∷ cs) r d h = let d' : is_lower b ≡ false = word_of_lower b d in rw d' h

-- after a colon
best_colon : (opens : List Open) (x : Op) (cs r : List ℕ) → next_passes is_word cs ≡ false →
    Best (operator_lexeme opens (58 ∷ (cs ++ r))) (token (k.Op x)) (suc (length cs)) →
    Best (colon_lexeme opens (cs ++ r)) (token (k.Op x)) (suc (length cs))
best_colon opens x [] [] d h = h
best_colon opens x [] (b ∷ r) d h = split_if (λ y. Best y (token (k.Op x)) 1) (is_lower b) _ _
    (λ v. inl (omega arith))
    (λ v. split_if (λ y. Best y (token (k.Op x)) 1) (is_ascii_uppercase b) _ _ (λ z. inl (omega arith)) (λ z. h))
best_colon opens x (b ∷ cs) r d h =
    let d1 : is_lower b ≡ false = word_of_lower b d in
    let d2 : is_ascii_uppercase b ≡ false = word_of_upper b d in
    rw (d1, d2) h

best_mark : (s : State) (x : Op) (c : ℕ) (cs r : List ℕ) → next_passes is_word cs ≡ false →
    Best (operator_lexeme s.opens (c ∷ (cs ++ r))) (token (k.Op x)) (suc (length cs)) →
    Best (mark_lexeme s c (cs ++ r)) (token (k.Op x)) (suc (length cs))
best_mark s x c cs r d h =
    let P : Lexeme → Type 0 = λ y. Best y (token (k.Op x)) (suc (length cs)) in
    let by : (b : ℕ) → c ≡ b → Best (operator_lexeme s.opens (b ∷ (cs ++ r))) (token (k.Op x)) (suc (length cs)) =
    λ b e. subst (λ y. Best (operator_lexeme s.opens (y ∷ (cs ++ r))) (token (k.Op x)) (suc (length cs))) e h in
    split_if P ((c == 45) && not (ends_value s.after)) _ _
    (λ v. best_minus s.opens x cs r d (by 45 (eqb-true c 45 (and_left (c == 45) _ v))))
    (λ v1. split_if P (c == 64) _ _
    (λ v. best_at s.opens x cs r d (by 64 (eqb-true c 64 v)))
    (λ v2. split_if P ((c == 58) && not (s.before == 58)) _ _
    (λ v. best_colon s.opens x cs r d (by 58 (eqb-true c 58 (and_left (c == 58) _ v))))
    (λ v3. h)))

best_code : (s : State) (x : Op) (c : ℕ) (cs r : List ℕ) → Mark c → next_passes is_word cs ≡ false →
    Best (operator_lexeme s.opens (c ∷ (cs ++ r))) (token (k.Op x)) (suc (length cs)) →
    Best (code_lexeme s c (cs ++ r)) (token (k.Op x)) (suc (length cs))
best_code s x c cs r m d h =
    let a1 : is_lower c ≡ false = m.lower in
    let a2 : is_ascii_uppercase c ≡ false = m.upper in
    let a3 : is_ascii_digit c ≡ false = m.digit in
    let a4 : is_white c ≡ false = m.white in
    let a5 : (c == 35) ≡ false = m.comment in
    let a6 : is_line_end c ≡ false = m.line in
    let a7 : is_quote c ≡ false = m.quote in
    rw (a1, a2, a3, a4, a5, a6, a7) (best_mark s x c cs r d h)

best_row : (s : State) (x : Op) (t r : List ℕ) → Row operators t x → text_ok t ≡ true →
    (is_close_brace x && in_inside s.opens) ≡ false → Best (front_code s (t ++ r)) (token (k.Op x)) (length t)
best_row s x [] r h o c = cc
best_row s x (b ∷ cs) r h o c = best_code s x b cs r (ok_mark b cs o) (ok_next b cs o)
    (best_found s.opens (operator_at (b ∷ (cs ++ r))) (b ∷ cs) x (operator_longest (b ∷ cs) r x h) c)

close_brace_is : (opens : List Open) (r : List ℕ) → in_inside opens ≡ true →
    operator_lexeme opens (125 ∷ r) ≡ l.Token k.InsideClose 1
unfolding operator_at
close_brace_is opens r h = rw h refl

-- ---- in code

best_line : (s : State) (b n : ℕ) (x : List ℕ) → is_line_end b ≡ true → drops s b ≡ false →
    n ≤ lines_len (in_brackets s) false x → Best (code_lexeme s b x) (token k.Line) (suc n)
best_line s b n x h d i = elim (line_is b h) [
  | inl e ↦ let d' : drops s 10 ≡ false = rw e at d in
      rw (e, d') (best_token k.Line (suc n) (1 + lines_len (in_brackets s) false x) (omega arith))
  | inr e ↦ rw e (best_token k.Line (suc n) (1 + lines_len (in_brackets s) false x) (omega arith))
]

best_white : (s : State) (b n : ℕ) (x : List ℕ) → is_white b ≡ true → n ≤ prefix_len is_white x →
    Best (code_lexeme s b x) gap (suc n)
best_white s b n x h i = elim (white_is b h) [
  | inl e ↦ elim e [
    | inl e' ↦ rw e' (best_gap (suc n) (1 + prefix_len is_white x) (omega arith))
    | inr e' ↦ rw e' (best_gap (suc n) (1 + prefix_len is_white x) (omega arith))
  ]
  | inr e' ↦ rw e' (best_gap (suc n) (1 + prefix_len is_white x) (omega arith))
]

-- in code whatever lexeme may stand at the place is shorter than the lexer's answer, or is that answer
pub best_outside : (s : State) (w : What) (t r : List ℕ) → InCode s w t r → Best (front_code s (t ++ r)) w (length t)
best_outside s w t r (white {b = b} {t = u} h e) = best_white s b (length u) (u ++ r) h (at_most is_white u r e)
best_outside s w t r (comment {t = u} h) =
    best_gap _ _ (let i : length u ≤ prefix_len not_lf (u ++ r) = at_most not_lf u r h in omega (arith, i))
best_outside s w t r (dropped d) = rw d (inr refl)
best_outside s w t r (line {b = b} h d) = best_line s b 0 r h d (omega arith)
best_outside s w t r (lines {b = b} {t = u} h d e) = best_line s b (length u) (u ++ r) h d
    (run_len (in_brackets s) u r e)
best_outside s w t r (name {b = b} {t = u} h n) = rw h (best_name (u ++ r) (length u) (tail_len u r n))
best_outside s w t r (label {b = b} {t = u} h n m) =
    let a : (u ++ 58 ∷ []) ++ r ≡ u ++ 58 ∷ r = append_assoc u (58 ∷ []) r in
    let e : 1 + length u + 1 ≡ suc (length (u ++ 58 ∷ [])) = rw length-append (omega arith) in
    rw (a, h) (inr (best_label u r n m ∙ ap (λ x. l.Token k.Label x) e))
best_outside s w t r (constant {b = b} {t = u} h e) =
    let i : length u ≤ prefix_len is_word (u ++ r) = at_most is_word u r e in
    let z : is_lower b ≡ false = upper_not_lower b h in
    rw (z, h) (best_token k.Const _ _ (omega (arith, i)))
best_outside s w t r (ivar {b = b} {t = u} h e) =
    let i : length u ≤ prefix_len is_word (u ++ r) = at_most is_word u r e in
    rw h (best_token k.Ivar _ _ (omega (arith, i)))
best_outside s w t r (symbol {b = b} {t = u} c h n) =
    let i : length u ≤ name_len (u ++ r) = tail_len u r n in
    rw (c, h) (best_token k.Sym _ _ (omega (arith, i)))
best_outside s w t r (symbol_constant {b = b} {t = u} c h e) =
    let i : length u ≤ prefix_len is_word (u ++ r) = at_most is_word u r e in
    let z : is_lower b ≡ false = upper_not_lower b h in
    rw (c, z, h) (best_token k.Sym _ _ (omega (arith, i)))
best_outside s w t r (int zero_alone) = inr refl
best_outside s w t r (int (number {b = b} {t = u} h z d)) =
    let l : is_lower b ≡ false = digit_not_lower b h in
    let p : is_ascii_uppercase b ≡ false = digit_not_upper b h in
    rw (l, p, h) (best_number 0 (suc (length u)) b u r (number h z d) (omega arith))
best_outside s w t r (negative v zero_alone) = rw v (inr refl)
best_outside s w t r (negative v (number {b = b} {t = u} h z d)) =
    rw (v, h) (best_number 1 (suc (suc (length u))) b u r (number h z d) (omega arith))
best_outside s w t r (quote {b = b} h) = elim (quote_is b h) [ inl e ↦ rw e (inr refl) | inr e ↦ rw e (inr refl) ]
best_outside s w t r (inside_close h) = inr (close_brace_is s.opens r h)
best_outside s w t r (operator {x = x} h c) = best_row s x t r h (operator_ok t x h) c

-- ---- in a text

plain_len : (t r : List ℕ) → Plain t r → length t ≤ piece_from false (t ++ r)
plain_len t r nothing = omega arith
plain_len t r (byte {b = b} {t = u} h p) =
    let i : length u ≤ piece_from false (u ++ r) = plain_len u r p in
    let a : (b == 34) ≡ false = grind (arith, nat_tests) in
    let c : (b == 35) ≡ false = grind (arith, nat_tests) in
    let d : (b == 92) ≡ false = grind (arith, nat_tests) in
    rw (a, c, d) (omega (arith, i))
plain_len t r (hash {t = u} h p) =
    let i : length u ≤ piece_from false (u ++ r) = plain_len u r p in
    rw h (omega arith)
plain_len t r (escape {e = e} {t = u} h p) =
    let i : length u ≤ piece_from false (u ++ r) = plain_len u r p in
    rw h (omega arith)

some_more : (n m : ℕ) → suc n ≤ m → nat_lt 0 m ≡ true
some_more n m h = grind (arith, nat_tests)

-- the same inside a text in double quotes
pub best_double : (w : What) (t r : List ℕ) → InDouble w t r → Best (double_lexeme (t ++ r)) w (length t)
best_double w t r (piece {b = b} {t = u} p) =
    let i : length (b ∷ u) ≤ piece_len (b ∷ (u ++ r)) = plain_len (b ∷ u) r p in
    let e : nat_lt 0 (piece_len (b ∷ (u ++ r))) ≡ true = some_more (length u) _ i in
    rw e (best_token k.TextPiece _ _ i)
best_double w t r closing = inr refl
best_double w t r opening = inr refl

-- the same inside a text in single quotes
pub best_single : (w : What) (t r : List ℕ) → InSingle w t r → Best (single_lexeme (t ++ r)) w (length t)
best_single w t r (piece_single {b = b} {t = u} p) =
    let i : length (b ∷ u) ≤ single_len (b ∷ (u ++ r)) = single_longest (b ∷ u) r p in
    let e : nat_lt 0 (single_len (b ∷ (u ++ r))) ≡ true = some_more (length u) _ i in
    rw e (best_token k.TextPiece _ _ i)
best_single w t r closing_single = inr refl
