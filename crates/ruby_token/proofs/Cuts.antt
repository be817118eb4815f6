-- The cut by longest lexemes is what reading gives.
use Rattle.std.proofs.Common.{◌≡◌, ℕ, zero, suc, ◌+◌, ◌<◌, ◌≤◌, List, [], ◌∷◌, ◌++◌, length, refl, ap, sym, ◌∙◌, take}
use Rattle.std.proofs.Common.{drop, arith, true, false, Bool, subst, length-append, add-zero, inl, inr, Option, Some}
use Rattle.std.proofs.Common.{None}
use Rattle.ruby_token.specs.declared.token.TokenKind.{TokenKind}
use Rattle.ruby_token.specs.declared.opens.Quote.{Quote}
use Rattle.ruby_token.specs.declared.opens.Quote.TheVariants as q
use Rattle.ruby_token.specs.declared.lexeme.Lexeme.{Lexeme}
use Rattle.ruby_token.specs.declared.lexeme.Lexeme.TheVariants as l
use Rattle.ruby_token.specs.declared.state.State.{State}
use Rattle.ruby_token.specs.Opens.{text_at}
use Rattle.ruby_token.specs.State.{start, state_past, state_after}
use Rattle.ruby_token.specs.Steps.{lexeme, lexeme_in, double_lexeme, single_lexeme, code_lexeme}
use Rattle.ruby_token.specs.Lexemes.{What, gap, token, zero_alone, number, InCode, white, comment, dropped, line, lines}
use Rattle.ruby_token.specs.Lexemes.{name, constant, ivar, label, symbol, symbol_constant, int, negative, quote}
use Rattle.ruby_token.specs.Lexemes.{inside_close, operator, InDouble, piece, closing, opening, InSingle, piece_single}
use Rattle.ruby_token.specs.Lexemes.{closing_single, IsIn, Is}
use Rattle.ruby_token.specs.Cut.{Outcome, put, Longest, NoLexeme, at_end, is_big, Cut, ends, passes, gives, big, stuck}
use Rattle.ruby_token.specs.Reading.{read, outcome_of}
use Rattle.ruby_token.proofs.Longest.{operator_ok, text_ok}
use Rattle.ruby_token.proofs.Best.{Best, size, as_is, best_outside, best_double, best_single, front_code}
use Rattle.ruby_token.proofs.Sound.{Holds, sound_outside, HoldsDouble, sound_double, HoldsSingle, sound_single}
use Rattle.ruby_token.proofs.Words.{drop_front}
use Rattle.ruby_token.proofs.ReadingLaws.{skip, read_gap, read_token, read_big, read_nothing, token_at}

-- ---- no lexeme is empty

row_some : (t : List ℕ) → text_ok t ≡ true → 0 < length t
row_some [] h = cc
row_some (b ∷ t) h = omega arith

code_some : (s : State) (w : What) (t r : List ℕ) → InCode s w t r → 0 < length t
code_some s w t r (white h e) = omega arith
code_some s w t r (comment h) = omega arith
code_some s w t r (dropped d) = omega arith
code_some s w t r (line h d) = omega arith
code_some s w t r (lines h d e) = omega arith
code_some s w t r (name h n) = omega arith
code_some s w t r (constant h e) = omega arith
code_some s w t r (ivar h e) = omega arith
code_some s w t r (label h n m) = omega arith
code_some s w t r (symbol c h n) = omega arith
code_some s w t r (symbol_constant c h e) = omega arith
code_some s w t r (int zero_alone) = omega arith
code_some s w t r (int (number h z d)) = omega arith
code_some s w t r (negative v n) = omega arith
code_some s w t r (quote h) = omega arith
code_some s w t r (inside_close h) = omega arith
code_some s w t r (operator {x = x} h c) = row_some t (operator_ok t x h)

double_some : (w : What) (t r : List ℕ) → InDouble w t r → 0 < length t
double_some w t r (piece p) = omega arith
double_some w t r closing = omega arith
double_some w t r opening = omega arith

single_some : (w : What) (t r : List ℕ) → InSingle w t r → 0 < length t
single_some w t r (piece_single p) = omega arith
single_some w t r closing_single = omega arith

some_in : (m : Option Quote) (s : State) (w : What) (t r : List ℕ) → IsIn m s w t r → 0 < length t
some_in None s w t r h = code_some s w t r h
some_in (Some q.Double) s w t r h = double_some w t r h
some_in (Some q.Single) s w t r h = single_some w t r h

-- no rule lets a lexeme be empty, so each step of a cut goes on in the bytes
pub some_text : (s : State) (w : What) (t r : List ℕ) → Is s w t r → 0 < length t
some_text s w t r h = some_in (text_at s.opens) s w t r h

-- ---- the lexeme, by the place where it stands

-- the lexer's answer before a byte turns on the text that the place stands in; unfolds `lexeme` in one step
pub lexeme_by : (s : State) (b : ℕ) (bs : List ℕ) → lexeme s (b ∷ bs) ≡ lexeme_in (text_at s.opens) s b bs
unfolding lexeme
lexeme_by s b bs = refl

pub record Holding (m : Option Quote) (s : State) (bs : List ℕ) (w : What) (n : ℕ) : Type 0 where
  pub text : List ℕ
  pub rest : List ℕ
  pub whole : bs ≡ text ++ rest
  pub size : n ≡ length text
  pub is : IsIn m s w text rest

abbrev HoldsBy : Option Quote → State → List ℕ → Lexeme → Type 0
HoldsBy m s bs (l.Gap n) = Holding m s bs gap n
HoldsBy m s bs (l.Token kind n) = Holding m s bs (token kind) n
HoldsBy m s bs l.Nothing = Unit {0}

of_code : (s : State) (bs : List ℕ) (x : Lexeme) → Holds s bs x → HoldsBy None s bs x
of_code s bs (l.Gap n) h = record { text = h.text; rest = h.rest; whole = h.whole; size = h.size; is = h.is }
of_code s bs (l.Token kind n) h = record { text = h.text; rest = h.rest; whole = h.whole; size = h.size; is = h.is }
of_code s bs l.Nothing h = tt

of_double : (s : State) (bs : List ℕ) (x : Lexeme) → HoldsDouble bs x → HoldsBy (Some q.Double) s bs x
of_double s bs (l.Gap n) h = record { text = h.text; rest = h.rest; whole = h.whole; size = h.size; is = h.is }
of_double s bs (l.Token kind n) h = record { text = h.text; rest = h.rest; whole = h.whole; size = h.size; is = h.is }
of_double s bs l.Nothing h = tt

of_single : (s : State) (bs : List ℕ) (x : Lexeme) → HoldsSingle bs x → HoldsBy (Some q.Single) s bs x
of_single s bs (l.Gap n) h = record { text = h.text; rest = h.rest; whole = h.whole; size = h.size; is = h.is }
of_single s bs (l.Token kind n) h = record { text = h.text; rest = h.rest; whole = h.whole; size = h.size; is = h.is }
of_single s bs l.Nothing h = tt

sound_in : (m : Option Quote) (s : State) (b : ℕ) (bs : List ℕ) → HoldsBy m s (b ∷ bs) (lexeme_in m s b bs)
sound_in None s b bs = of_code s (b ∷ bs) (code_lexeme s b bs) (sound_outside s b bs)
sound_in (Some q.Double) s b bs = of_double s (b ∷ bs) (double_lexeme (b ∷ bs)) (sound_double b bs)
sound_in (Some q.Single) s b bs = of_single s (b ∷ bs) (single_lexeme (b ∷ bs)) (sound_single b bs)

sound : (s : State) (b : ℕ) (bs : List ℕ) → HoldsBy (text_at s.opens) s (b ∷ bs) (lexeme s (b ∷ bs))
sound s b bs = rw (lexeme_by s b bs) (sound_in (text_at s.opens) s b bs)

best_in : (m : Option Quote) (s : State) (w : What) (t r : List ℕ) (b : ℕ) (bs : List ℕ) → t ++ r ≡ b ∷ bs →
    IsIn m s w t r → Best (lexeme_in m s b bs) w (length t)
best_in None s w t r b bs e h = subst (λ x. Best (front_code s x) w (length t)) e (best_outside s w t r h)
best_in (Some q.Double) s w t r b bs e h = subst (λ x. Best (double_lexeme x) w (length t)) e (best_double w t r h)
best_in (Some q.Single) s w t r b bs e h = subst (λ x. Best (single_lexeme x) w (length t)) e (best_single w t r h)

best : (s : State) (w : What) (t r : List ℕ) (b : ℕ) (bs : List ℕ) → t ++ r ≡ b ∷ bs → Is s w t r →
    Best (lexeme s (b ∷ bs)) w (length t)
best s w t r b bs e h = rw (lexeme_by s b bs) (best_in (text_at s.opens) s w t r b bs e h)

-- ---- the longest is the lexeme

no_longer : (m : Option Quote) (s : State) (b : ℕ) (bs : List ℕ) (x : Lexeme) (n : ℕ) → HoldsBy m s (b ∷ bs) x →
    ((w' : What) (t' r' : List ℕ) → IsIn m s w' t' r' → t' ++ r' ≡ b ∷ bs → length t' ≤ n) → n < size x → ⊥
no_longer v s b bs (l.Gap m) n h g a = let i = g gap h.text h.rest h.is (sym h.whole) in let z : m ≡ length h.text =
    h.size in omega arith
no_longer v s b bs (l.Token kind m) n h g a = let i = g (token kind) h.text h.rest h.is (sym h.whole) in let z : m
    ≡ length h.text = h.size in omega arith
no_longer v s b bs l.Nothing n h g a = omega arith

longest_is : (s : State) (w : What) (t r : List ℕ) (b : ℕ) (bs : List ℕ) → Longest s w t r → t ++ r ≡ b ∷ bs →
    lexeme s (b ∷ bs) ≡ as_is w (length t)
longest_is s w t r b bs h q = elim (best s w t r b bs q h.is) [
  | inl a ↦ absurd (no_longer (text_at s.opens) s b bs (lexeme s (b ∷ bs)) (length t) (sound s b bs)
      (λ w' t' r' i e. h.longest w' t' r' i (e ∙ sym q)) a)
  | inr e ↦ e
]

-- ---- a cut is what is read

shape : (s : State) (w : What) (t r bs : List ℕ) → Is s w t r → bs ≡ t ++ r → (c : ℕ) × (cs : List ℕ) × (bs ≡ c ∷ cs)
shape s w t r [] h e = absurd (let z : 0 < length t = some_text s w t r h in let y : 0 ≡ length t + length r =
    rw length-append at (ap length e) in omega arith)
shape s w t r (b ∷ bs) h e = (b, bs, refl)

-- as many bytes as the front has are the front
pub take_front : (t r : List ℕ) → take (length t) (t ++ r) ≡ t
take_front [] r = refl
take_front (b ∷ t) r = ap (λ x. b ∷ x) (take_front t r)

after_front : (t r bs : List ℕ) → bs ≡ t ++ r → drop (length t) bs ≡ r
after_front t r bs e = ap (drop (length t)) e ∙ drop_front t r

at_front : (t r bs : List ℕ) → bs ≡ t ++ r → take (length t) bs ≡ t
at_front t r bs e = ap (take (length t)) e ∙ take_front t r

lexeme_is : (s : State) (w : What) (t r bs : List ℕ) → Longest s w t r → bs ≡ t ++ r →
    (lexeme s bs ≡ as_is w (length t)) × (0 < length t) × (0 < length bs)
lexeme_is s w t r bs h e =
    let p = shape s w t r bs h.is e in
    let q : bs ≡ p.0 ∷ p.1 = p.2 in
    let z : 0 < length bs = rw q (omega arith) in
    (ap (lexeme s) q ∙ longest_is s w t r p.0 p.1 h (sym e ∙ q), some_text s w t r h.is, z)

none_nothing : (m : Option Quote) (s : State) (b : ℕ) (bs : List ℕ) (x : Lexeme) → HoldsBy m s (b ∷ bs) x →
    ((w : What) (t r : List ℕ) → IsIn m s w t r → t ++ r ≡ b ∷ bs → ⊥) → x ≡ l.Nothing
none_nothing v s b bs (l.Gap n) h g = absurd (g gap h.text h.rest h.is (sym h.whole))
none_nothing v s b bs (l.Token kind n) h g = absurd (g (token kind) h.text h.rest h.is (sym h.whole))
none_nothing v s b bs l.Nothing h g = refl

-- a cut can have no outcome but what reading gives (uniqueness)
pub cut_read : {v : Bool} {s : State} {n : ℕ} {bs : List ℕ} {o : Outcome} → Cut v s n bs o → o ≡ read v s n 0 bs
cut_read (ends {s = s} {n = n}) = ap (at_end _ s) (sym (add-zero n))
cut_read {v = v} (passes {s = s} {n = n} {t = t} {r = r} {bs = bs} h e c) =
    let p = lexeme_is s gap t r bs h e in
    cut_read c
    ∙ ap (λ x. read v (state_past t s) (n + length t) 0 x) (sym (after_front t r bs e))
    ∙ ap (λ x. read v (state_past x s) (n + length t) 0 (drop (length t) bs)) (sym (at_front t r bs e))
    ∙ sym (read_gap v s n (length t) bs p.0 p.1 p.2)
cut_read {v = v} (gives {s = s} {n = n} {kind = kind} {t = t} {r = r} {bs = bs} h e i c) =
    let p = lexeme_is s (token kind) t r bs h e in
    let i' : is_big kind (take (length t) bs) ≡ false = ap (is_big kind) (at_front t r bs e) ∙ i in
    let q : read v s n 0 bs ≡ put (token_at kind n (length t) ∷ [])
    (read v (state_after kind (take (length t) bs) n s) (n + length t) 0 (drop (length t) bs)) =
    read_token v s n (length t) kind bs p.0 p.1 p.2 i' in
    ap (put (token_at kind n (length t) ∷ [])) (cut_read c
    ∙ ap (λ x. read v (state_after kind t n s) (n + length t) 0 x) (sym (after_front t r bs e))
    ∙ ap (λ x. read v (state_after kind x n s) (n + length t) 0 (drop (length t) bs)) (sym (at_front t r bs e)))
    ∙ sym q
cut_read {v = v} (big {s = s} {n = n} {kind = kind} {t = t} {r = r} {bs = bs} h e i) =
    let p = lexeme_is s (token kind) t r bs h e in
    let i' : is_big kind (take (length t) bs) ≡ true = ap (is_big kind) (at_front t r bs e) ∙ i in
    sym (read_big v s n (length t) kind bs p.0 p.2 i')
cut_read {v = v} (stuck {s = s} {n = n} {b = b} {bs = bs} h) =
    let x : lexeme s (b ∷ bs) ≡ l.Nothing = none_nothing (text_at s.opens) s b bs (lexeme s (b ∷ bs))
    (sound s b bs) h in
    sym (read_nothing v s n (b ∷ bs) x (omega arith))

-- ---- what is read is a cut

size_as : (w : What) (n : ℕ) → size (as_is w n) ≡ n
size_as gap n = refl
size_as (token kind) n = refl

best_le : (x : Lexeme) (w : What) (n : ℕ) → Best x w n → n ≤ size x
best_le x w n (inl a) = omega arith
best_le x w n (inr e) = rw (e, size_as w n) (omega arith)

to_longest : (s : State) (w : What) (t r : List ℕ) (b : ℕ) (bs : List ℕ) → Is s w t r → b ∷ bs ≡ t ++ r →
    size (lexeme s (b ∷ bs)) ≡ length t → Longest s w t r
to_longest s w t r b bs h e z = record {
  is = h;
  longest = λ w' t' r' i q. let y : length t' ≤ size (lexeme s (b ∷ bs)) = best_le (lexeme s (b ∷ bs)) w' (length t')
      (best s w' t' r' b bs (q ∙ sym e) i) in omega (arith, y, z);
}

-- reading on behind a lexeme
onward : (v : Bool) (s : State) (n : ℕ) (bs t r : List ℕ) → bs ≡ t ++ r →
    ((s' : State) (m j : ℕ) → Cut v s' (m + j) (drop j bs) (read v s' m j bs)) →
    Cut v s (n + suc (length t)) r (read v s (n + suc (length t)) 0 r)
onward v s n bs t r e ih =
    let i : Cut v s (n + 1 + length t) (drop (length t) bs) (read v s (n + 1) (length t) bs) =
    ih s (n + 1) (length t) in
    let i2 : Cut v s (n + 1 + length t) (drop (length t) bs) (read v s (n + 1 + length t) 0 (drop (length t) bs)) =
    subst (λ x. Cut v s (n + 1 + length t) (drop (length t) bs) x) (skip v s (n + 1) (length t) bs) i in
    let i3 : Cut v s (n + 1 + length t) r (read v s (n + 1 + length t) 0 r) =
    subst (λ x. Cut v s (n + 1 + length t) x (read v s (n + 1 + length t) 0 x)) (after_front t r bs e) i2 in
    let g : n + 1 + length t ≡ n + suc (length t) = omega arith in
    subst (λ x. Cut v s x r (read v s x 0 r)) g i3

one_gap : (v : Bool) (s : State) (n b m : ℕ) (bs t r : List ℕ) → lexeme s (b ∷ bs) ≡ l.Gap m → Is s gap t r →
    b ∷ bs ≡ t ++ r → m ≡ length t → ((s' : State) (m j : ℕ) → Cut v s' (m + j) (drop j bs) (read v s' m j bs)) →
    Cut v s n (b ∷ bs) (read v s n 0 (b ∷ bs))
one_gap v s n b m bs [] r e h w z ih = absurd (let y : 0 < length {A = ℕ} [] = some_text s gap [] r h in omega arith)
one_gap v s n b m bs (c ∷ t) r e h w z ih =
    let e' : lexeme s (b ∷ bs) ≡ l.Gap (suc (length t)) = e ∙ ap (λ x. l.Gap x) z in
    let w' : bs ≡ t ++ r = (cc) in
    let q : read v s n 0 (b ∷ bs) ≡ read v (state_past (take (suc (length t)) (b ∷ bs)) s) (n + suc (length t)) 0
    (drop (length t) bs) = read_gap v s n (suc (length t)) (b ∷ bs) e' (omega arith) (omega arith) in
    let q2 : read v s n 0 (b ∷ bs) ≡ read v (state_past (c ∷ t) s) (n + suc (length t)) 0 r =
    q ∙ ap (λ x. read v (state_past x s) (n + suc (length t)) 0 (drop (length t) bs)) (at_front (c ∷ t) r (b ∷ bs) w)
    ∙ ap (λ x. read v (state_past (c ∷ t) s) (n + suc (length t)) 0 x) (after_front t r bs w') in
    rw q2 (passes (to_longest s gap (c ∷ t) r b bs h w (ap size e')) w (onward v (state_past (c ∷ t) s) n bs t r w' ih))

one_token : (v : Bool) (s : State) (n b m : ℕ) (kind : TokenKind) (bs t r : List ℕ) (i : Bool) → i ≡ is_big kind t →
    lexeme s (b ∷ bs) ≡ l.Token kind m → Is s (token kind) t r → b ∷ bs ≡ t ++ r → m ≡ length t →
    ((s' : State) (m j : ℕ) → Cut v s' (m + j) (drop j bs) (read v s' m j bs)) →
    Cut v s n (b ∷ bs) (read v s n 0 (b ∷ bs))
one_token v s n b m kind bs [] r i g e h w z ih =
    absurd (let y : 0 < length {A = ℕ} [] = some_text s (token kind) [] r h in omega arith)
one_token v s n b m kind bs (c ∷ t) r true g e h w z ih =
    let e' : lexeme s (b ∷ bs) ≡ l.Token kind (suc (length t)) = e ∙ ap (λ x. l.Token kind x) z in
    let g' : is_big kind (take (suc (length t)) (b ∷ bs)) ≡ true = ap (is_big kind) (at_front (c ∷ t) r (b ∷ bs) w)
    ∙ sym g in
    rw (read_big v s n (suc (length t)) kind (b ∷ bs) e' (omega arith) g')
    (big (to_longest s (token kind) (c ∷ t) r b bs h w (ap size e')) w (sym g))
one_token v s n b m kind bs (c ∷ t) r false g e h w z ih =
    let e' : lexeme s (b ∷ bs) ≡ l.Token kind (suc (length t)) = e ∙ ap (λ x. l.Token kind x) z in
    let g' : is_big kind (take (suc (length t)) (b ∷ bs)) ≡ false = ap (is_big kind) (at_front (c ∷ t) r (b ∷ bs) w)
    ∙ sym g in
    let w' : bs ≡ t ++ r = (cc) in
    let q : read v s n 0 (b ∷ bs) ≡ put (token_at kind n (suc (length t)) ∷ [])
    (read v (state_after kind (take (suc (length t)) (b ∷ bs)) n s) (n + suc (length t)) 0
    (drop (length t) bs)) = read_token v s n (suc (length t)) kind (b ∷ bs) e' (omega arith) (omega arith) g' in
    let q2 : read v s n 0 (b ∷ bs) ≡ put (token_at kind n (suc (length t)) ∷ [])
    (read v (state_after kind (c ∷ t) n s) (n + suc (length t)) 0 r) =
    q ∙ ap (λ x. put (token_at kind n (suc (length t)) ∷ [])
    (read v (state_after kind x n s) (n + suc (length t)) 0 (drop (length t) bs))) (at_front (c ∷ t) r (b ∷ bs) w)
    ∙ ap (λ x. put (token_at kind n (suc (length t)) ∷ [])
    (read v (state_after kind (c ∷ t) n s) (n + suc (length t)) 0 x)) (after_front t r bs w') in
    rw q2 (gives (to_longest s (token kind) (c ∷ t) r b bs h w (ap size e')) w (sym g)
    (onward v (state_after kind (c ∷ t) n s) n bs t r w' ih))

to_none : (s : State) (b : ℕ) (bs : List ℕ) → lexeme s (b ∷ bs) ≡ l.Nothing → NoLexeme s (b ∷ bs)
to_none s b bs e = λ w t r h q. let y : length t ≤ size (lexeme s (b ∷ bs)) =
    best_le (lexeme s (b ∷ bs)) w (length t) (best s w t r b bs q h) in let z : size
    (lexeme s (b ∷ bs)) ≡ 0 = ap size e in let x : 0 < length t = some_text s w t r h in omega (arith, x, y, z)

one_step : (v : Bool) (s : State) (n b : ℕ) (bs : List ℕ) (x : Lexeme) → lexeme s (b ∷ bs) ≡ x →
    HoldsBy (text_at s.opens) s (b ∷ bs) x →
    ((s' : State) (m j : ℕ) → Cut v s' (m + j) (drop j bs) (read v s' m j bs)) →
    Cut v s n (b ∷ bs) (read v s n 0 (b ∷ bs))
one_step v s n b bs (l.Gap m) e h ih = one_gap v s n b m bs h.text h.rest e h.is h.whole h.size ih
one_step v s n b bs (l.Token kind m) e h ih = one_token v s n b m kind bs h.text h.rest
    (is_big kind h.text) refl e h.is h.whole h.size ih
one_step v s n b bs l.Nothing e h ih = rw (read_nothing v s n (b ∷ bs) e (omega arith)) (stuck (to_none s b bs e))

-- what reading gives is a cut, also from inside a lexeme of which j bytes are left
pub read_cut : (v : Bool) (bs : List ℕ) (s : State) (n j : ℕ) → Cut v s (n + j) (drop j bs) (read v s n j bs)
read_cut v [] s n zero = ends
read_cut v [] s n (suc j) = ends
read_cut v (b ∷ bs) s n zero =
    subst (λ x. Cut v s x (b ∷ bs) (read v s n 0 (b ∷ bs))) (sym (add-zero n))
    (one_step v s n b bs (lexeme s (b ∷ bs)) refl (sound s b bs) (λ s' m j. read_cut v bs s' m j))
read_cut v (b ∷ bs) s n (suc j) =
    let g : n + 1 + j ≡ n + suc j = omega arith in
    subst (λ x. Cut v s x (drop j bs) (read v s (n + 1) j bs)) g (read_cut v bs s (n + 1) j)

-- what reading gives from a file's first byte on is a cut of the file
pub is_cut : (v : Bool) (bs : List ℕ) → Cut v start 0 bs (outcome_of v bs)
unfolding outcome_of
is_cut v bs = read_cut v bs start 0 0

-- a file is cut in one way: as reading cuts it
pub one_cut : (v : Bool) (bs : List ℕ) (o : Outcome) → Cut v start 0 bs o → o ≡ outcome_of v bs
unfolding outcome_of
one_cut v bs o h = cut_read h
