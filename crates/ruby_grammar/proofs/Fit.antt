-- The numbers of a file that is cut into tokens are in range.
use Rattle.std.proofs.Common.{◌≡◌, ℕ, ◌+◌, ◌-◌, ◌==◌, Bool, true, false, ◌&&◌, not, List, [], ◌∷◌, ◌++◌, Option, Some}
use Rattle.std.proofs.Common.{None, length, take, drop, refl, sym, ap, ◌∙◌, subst, append_assoc, length-append, arith}
use Rattle.std.proofs.Common.{bytes_eq}
use Rattle.std.proofs.lemmas.List.{take-append-drop}
use Rattle.ruby_token.specs.declared.fault.LexFault.{LexFault}
use Rattle.ruby_token.specs.declared.token.Op.{Op}
use Rattle.ruby_token.specs.declared.token.Op.TheVariants as op
use Rattle.ruby_token.specs.declared.token.Token.{Token}
use Rattle.ruby_token.specs.declared.token.TokenKind.{TokenKind}
use Rattle.ruby_token.specs.declared.token.TokenKind.TheVariants as k
use Rattle.ruby_token.specs.declared.opens.Quote.{Quote}
use Rattle.ruby_token.specs.declared.state.State.{State}
use Rattle.ruby_token.specs.Opens.{text_at, outermost}
use Rattle.ruby_token.specs.Number.{is_in_range}
use Rattle.ruby_token.specs.Cut.{Outcome, done, fault, put, open_text, at_end, is_last, stuck_in, Cut, ends, passes}
use Rattle.ruby_token.specs.Cut.{gives, big, stuck, is_big, Lexes, with_fault}
use Rattle.std.specs.Str.Lossy.{utf8_valid_len}
use Rattle.ruby_token.proofs.Words.{split_if, drop_front}
use Rattle.ruby_token.proofs.Cuts.{take_front}
use Rattle.ruby_token.proofs.SpanLaws.{tokens_in, tokens_with}
use Rattle.ruby_words.specs.Words.{word_rows}
use Rattle.ruby_token.specs.Spans.{text_of}
use Rattle.ruby_grammar.specs.Words.{words_behind, words_of}
use Rattle.ruby_grammar.specs.Terminals.{code_in, op_terminal, kind_terminal}
use Rattle.ruby_grammar.specs.Numbers.{NumbersFit}
use Rattle.ruby_grammar.proofs.Tools.{not_true, and_true}

-- ---- only a number has the terminal of a number

abbrev lacks : ℕ → List (List ℕ × ℕ) → Bool
lacks n [] = not (0 == n)
lacks n (row ∷ rows) = not (row.1 == n) && lacks n rows

lacking : (n : ℕ) (rows : List (List ℕ × ℕ)) (name : List ℕ) → lacks n rows ≡ true → (code_in rows name == n) ≡ false
lacking n [] name h = not_true (0 == n) h
lacking n (row ∷ rows) name h = split_if (λ c. (c == n) ≡ false) (bytes_eq row.0 name) row.1 (code_in rows name)
    (λ e. not_true (row.1 == n) (and_true _ _ h).0) (λ e. lacking n rows name (and_true _ _ h).1)

true_false : (b : Bool) → b ≡ true → b ≡ false → ⊥
true_false b h k = cc

no_operator : (o : Op) → (op_terminal o == 55) ≡ true → ⊥
no_operator op.OrElse h = cc
no_operator op.AndAlso h = cc
no_operator op.Not h = cc
no_operator op.Same h = cc
no_operator op.Differs h = cc
no_operator op.Less h = cc
no_operator op.AtMost h = cc
no_operator op.More h = cc
no_operator op.AtLeast h = cc
no_operator op.Plus h = cc
no_operator op.Minus h = cc
no_operator op.Times h = cc
no_operator op.Divide h = cc
no_operator op.Modulo h = cc
no_operator op.Ask h = cc
no_operator op.Colon h = cc
no_operator op.Path h = cc
no_operator op.Dot h = cc
no_operator op.Comma h = cc
no_operator op.Assign h = cc
no_operator op.Arrow h = cc
no_operator op.OpenParen h = cc
no_operator op.CloseParen h = cc
no_operator op.OpenBracket h = cc
no_operator op.CloseBracket h = cc
no_operator op.OpenBrace h = cc
no_operator op.CloseBrace h = cc
no_operator op.Bar h = cc
no_operator op.Compare h = cc
no_operator op.Power h = cc
no_operator op.Matches h = cc
no_operator op.MatchesNot h = cc
no_operator op.SafeDot h = cc
no_operator op.Range h = cc
no_operator op.OpenRange h = cc
no_operator op.ShiftLeft h = cc
no_operator op.ShiftRight h = cc
no_operator op.PlusAssign h = cc
no_operator op.MinusAssign h = cc
no_operator op.TimesAssign h = cc
no_operator op.DivideAssign h = cc
no_operator op.OrAssign h = cc
no_operator op.AndAssign h = cc
no_operator op.Lambda h = cc
no_operator op.CaseSame h = cc
no_operator op.BitAnd h = cc
no_operator op.BitXor h = cc
no_operator op.BitNot h = cc
no_operator op.ClassVariable h = cc
no_operator op.GlobalVariable h = cc

in_range : (b : Bool) → not b ≡ false → b ≡ true
in_range true h = refl
in_range false h = cc

number_fits : (kind : TokenKind) (text : List ℕ) → is_big kind text ≡ false → (kind_terminal kind text == 55) ≡ true →
    is_in_range text ≡ true
number_fits k.Int text b h = in_range (is_in_range text) b
number_fits k.Name text b h = absurd (true_false _ h (lacking 55 word_rows text refl))
number_fits (k.Op o) text b h = absurd (no_operator o h)
number_fits k.Line text b h = cc
number_fits k.Const text b h = cc
number_fits k.Ivar text b h = cc
number_fits k.Label text b h = cc
number_fits k.Sym text b h = cc
number_fits k.TextOpen text b h = cc
number_fits k.TextPiece text b h = cc
number_fits k.InsideOpen text b h = cc
number_fits k.InsideClose text b h = cc
number_fits k.TextClose text b h = cc

-- ---- the tokens of a cut

abbrev TokensFit : List ℕ → List Token → Type 0
TokensFit bytes [] = Unit {0}
TokensFit bytes (t ∷ ts) = (is_big t.kind (text_of bytes t) ≡ false) × TokensFit bytes ts

none_open : (o : Option ℕ) → tokens_in (open_text o) ≡ []
none_open None = refl
none_open (Some q) = refl

none_at_end : (v : Bool) (s : State) (n : ℕ) → tokens_in (at_end v s n) ≡ []
none_at_end true s n = none_open (outermost s.opens)
none_at_end false s n = refl

none_stuck : (m : Option Quote) (v : Bool) (s : State) (n : ℕ) (bs : List ℕ) → tokens_in (stuck_in m v s n bs) ≡ []
none_stuck None v s n bs = refl
none_stuck (Some q) v s n bs = split_if (λ x. tokens_in x ≡ []) (v && is_last bs) _ _ (λ h. none_at_end v s n)
    (λ h. refl)

put_in : (t : Token) (o : Outcome) → tokens_in (put (t ∷ []) o) ≡ t ∷ tokens_in o
put_in t (done ts) = refl
put_in t (fault ts kind n) = refl

fit_none : (bytes : List ℕ) (ts : List Token) → ts ≡ [] → TokensFit bytes ts
fit_none bytes ts e = subst (λ l. TokensFit bytes l) (sym e) tt

slice : (p t r : List ℕ) (n m : ℕ) → n ≡ length p → m ≡ length t → take m (drop n (p ++ (t ++ r))) ≡ t
slice p t r n m e f = rw (e, f, drop_front p (t ++ r)) (take_front t r)

-- what stands before these bytes and behind them
behind : (p t r q bs : List ℕ) → bs ≡ t ++ r → (p ++ t) ++ (r ++ q) ≡ p ++ (bs ++ q)
behind p t r q bs e = append_assoc p t (r ++ q) ∙ ap (λ l. p ++ l) (sym (append_assoc t r q) ∙ ap (λ l. l ++ q) (sym e))

fits : {v : Bool} {s : State} {n : ℕ} {bs : List ℕ} {o : Outcome} → Cut v s n bs o → (p q : List ℕ) → n ≡ length p →
    TokensFit (p ++ (bs ++ q)) (tokens_in o)
fits {v = v} (ends {s = s} {n = n}) p q e = fit_none _ _ (none_at_end v s n)
fits (passes {n = n} {t = t} {r = r} {bs = bs} {o = o} h w c) p q e =
    subst (λ l. TokensFit l (tokens_in o)) (behind p t r q bs w)
    (fits c (p ++ t) q (ap (λ x. x + length t) e ∙ sym (length-append p t)))
fits (gives {n = n} {kind = kind} {t = t} {r = r} {bs = bs} {o = o} h w b c) p q e =
    let i = subst (λ l. TokensFit l (tokens_in o)) (behind p t r q bs w)
    (fits c (p ++ t) q (ap (λ x. x + length t) e ∙ sym (length-append p t))) in
    let x : take (n + length t - n) (drop n (p ++ (bs ++ q))) ≡ t =
    subst (λ l. take (n + length t - n) (drop n (p ++ l)) ≡ t) (sym (append_assoc t r q)
    ∙ ap (λ l. l ++ q) (sym w)) (slice p t (r ++ q) n (n + length t - n) e (omega arith)) in
    subst (λ l. TokensFit (p ++ (bs ++ q)) l) (sym (put_in (record { kind = kind; from = n; to = n + length t }) o))
    (subst (λ l. is_big kind l ≡ false) (sym x) b, i)
fits (big h w b) p q e = tt
fits {v = v} (stuck {s = s} {n = n} {b = b} {bs = bs} h) p q e =
    fit_none _ _ (none_stuck (text_at s.opens) v s n (b ∷ bs))

-- ---- their words

words_fit : (bytes : List ℕ) (end : ℕ) (ts : List Token) → TokensFit bytes ts → NumbersFit (words_behind bytes end ts)
words_fit bytes end [] h = tt
words_fit bytes end (t ∷ ts) h = (λ i. number_fits t.kind (text_of bytes t) h.0 i, words_fit bytes t.to ts h.1)

-- the words of a file's tokens have no number out of range, since a cut ends in a fault before one
pub numbers_fit : (bytes : List ℕ) (o : Outcome) → Lexes bytes o → NumbersFit (words_of bytes (tokens_in o))
numbers_fit bytes o l =
    let h = fits l [] (drop (utf8_valid_len bytes) bytes) refl in
    words_fit bytes 0 (tokens_in o)
    (subst (λ l. TokensFit l (tokens_in o)) (take-append-drop (utf8_valid_len bytes) bytes) h)

-- of the tokens that the lexer gives, before a fault too
pub fit_of : (bytes : List ℕ) (ts : List Token) (e : Option LexFault) → Lexes bytes (with_fault ts e) →
    NumbersFit (words_of bytes ts)
fit_of bytes ts e l = subst (λ us. NumbersFit (words_of bytes us)) (tokens_with ts e)
    (numbers_fit bytes (with_fault ts e) l)
