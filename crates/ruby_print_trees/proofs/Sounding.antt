-- The words of a file that is cut into tokens are sound.
use Rattle.std.proofs.Common.{◌≡◌, ℕ, ◌+◌, ◌-◌, ◌==◌, Bool, true, false, ◌&&◌, List, [], ◌∷◌, ◌++◌, Option, Some, None}
use Rattle.std.proofs.Common.{length, take, drop, refl, sym, ap, ◌∙◌, subst, append_assoc, length-append, arith, IsUtf8}
use Rattle.std.proofs.lemmas.List.{take-append-drop}
use Rattle.std.specs.Str.Lossy.{utf8_valid_len}
use Rattle.ruby_token.specs.declared.token.Token.{Token}
use Rattle.ruby_token.specs.declared.token.TokenKind.TheVariants as k
use Rattle.ruby_token.specs.declared.opens.Quote.{Quote}
use Rattle.ruby_token.specs.declared.state.State.{State}
use Rattle.ruby_token.specs.Opens.{text_at, outermost}
use Rattle.ruby_token.specs.Lexemes.{token, Is}
use Rattle.ruby_token.specs.Cut.{Outcome, done, fault, put, open_text, at_end, is_last, stuck_in, Cut, ends, passes}
use Rattle.ruby_token.specs.Cut.{gives, big, stuck, Longest, is_big, Lexes}
use Rattle.ruby_token.proofs.Words.{split_if, drop_front}
use Rattle.ruby_token.proofs.Cuts.{take_front}
use Rattle.ruby_token.proofs.SpanLaws.{tokens_in}
use Rattle.ruby_grammar.specs.Words.{Word, words_behind, words_of}
use Rattle.ruby_token.specs.Spans.{text_of}
use Rattle.ruby_grammar.specs.Terminals.{is_text_piece}
use Rattle.ruby_print_trees.proofs.Meaning.{Sound, Beside, SoundWords}
use Rattle.ruby_print_trees.proofs.WordKinds.{kind_is}
use Rattle.ruby_print_trees.proofs.Boundaries.{rest_utf8, piece_utf8, PieceEnds, piece_ends, no_gap, front_utf8}

abbrev BehindPiece : Option Word → Type 0
BehindPiece None = ⊥
BehindPiece (Some w) = is_text_piece w ≡ true

none_open : (o : Option ℕ) → tokens_in (open_text o) ≡ []
none_open None = refl
none_open (Some q) = refl

none_at_end : (v : Bool) (s : State) (n : ℕ) → tokens_in (at_end v s n) ≡ []
none_at_end true s n = none_open (outermost s.opens)
none_at_end false s n = refl

none_stuck : (m : Option Quote) (v : Bool) (s : State) (n : ℕ) (bs : List ℕ) → tokens_in (stuck_in m v s n bs) ≡ []
none_stuck None v s n bs = refl
none_stuck (Some q) v s n bs = split_if (λ x. tokens_in x ≡ []) (v && is_last bs) _ _ (λ h. none_at_end v s n)
    (λ h. refl)

put_in : (t : Token) (o : Outcome) → tokens_in (put (t ∷ []) o) ≡ t ∷ tokens_in o
put_in t (done ts) = refl
put_in t (fault ts kind n) = refl

no_words : (a : Option Word) (bytes : List ℕ) (end : ℕ) (ts : List Token) → ts ≡ [] →
    SoundWords a (words_behind bytes end ts)
no_words a bytes end ts e = subst (λ l. SoundWords a (words_behind bytes end l)) (sym e) tt

slice : (p t r : List ℕ) (n m : ℕ) → n ≡ length p → m ≡ length t → take m (drop n (p ++ (t ++ r))) ≡ t
slice p t r n m e f = rw (e, f, drop_front p (t ++ r)) (take_front t r)

-- what stands before these bytes and behind them
around : (p t r q bs : List ℕ) → bs ≡ t ++ r → (p ++ t) ++ (r ++ q) ≡ p ++ (bs ++ q)
around p t r q bs e = append_assoc p t (r ++ q) ∙ ap (λ l. p ++ l) (sym (append_assoc t r q) ∙ ap (λ l. l ++ q) (sym e))

further : (n : ℕ) (p t : List ℕ) → n ≡ length p → n + length t ≡ length (p ++ t)
further n p t e = ap (λ x. x + length t) e ∙ sym (length-append p t)

piece_kind : (w : Word) → is_text_piece w ≡ true → w.kind ≡ k.TextPiece
piece_kind w h = kind_is w.kind w.text 57 h (omega arith) (omega arith)

sound_word : (w : Word) (s : State) (t r : List ℕ) → w.text ≡ t → Longest s (token w.kind) t r →
    is_big w.kind t ≡ false → IsUtf8 (t ++ r) → Sound w
sound_word w s t r e h b u = record {
  state = s;
  rest = r;
  spelled = subst (λ x. Is s (token w.kind) x r) (sym e) h.is;
  fits = subst (λ x. is_big w.kind x ≡ false) (sym e) b;
  utf8 = λ g. subst (λ x. IsUtf8 x) (sym e) (piece_utf8 s t r (subst (λ x. Longest s (token x) t r) g h) u);
}

beside : (a : Option Word) (w : Word) (s : State) (t r bs : List ℕ) → Longest s (token w.kind) t r → bs ≡ t ++ r →
    (BehindPiece a → PieceEnds s bs) → Beside a w
beside None w s t r bs h e f = tt
beside (Some v) w s t r bs h e f = λ p g. (f p).no_piece t r (subst (λ x. Is s (token x) t r) (piece_kind w g) h.is)
    (sym e)

abbrev word_at : List ℕ → ℕ → Token → Word
word_at bytes end t = record { kind = t.kind; text = text_of bytes t; tight = end == t.from; at = t.from }

words_more : (a : Option Word) (bytes : List ℕ) (end : ℕ) (t : Token) (o : Outcome) → Sound (word_at bytes end t) →
    Beside a (word_at bytes end t) → SoundWords (Some (word_at bytes end t)) (words_behind bytes t.to (tokens_in o)) →
    SoundWords a (words_behind bytes end (tokens_in (put (t ∷ []) o)))
words_more a bytes end t o h i j = subst (λ l. SoundWords a (words_behind bytes end l)) (sym (put_in t o)) (h, i, j)

sound : {v : Bool} {s : State} {n : ℕ} {bs : List ℕ} {o : Outcome} → Cut v s n bs o → (p q : List ℕ) → n ≡ length p →
    IsUtf8 bs → (a : Option Word) (end : ℕ) → (BehindPiece a → PieceEnds s bs) →
    SoundWords a (words_behind (p ++ (bs ++ q)) end (tokens_in o))
sound {v = v} (ends {s = s} {n = n}) p q e u a end f = no_words a (p ++ q) end _ (none_at_end v s n)
sound (passes {s = s} {n = n} {t = t} {r = r} {bs = bs} {o = o} h w c) p q e u a end f =
    subst (λ l. SoundWords a (words_behind l end (tokens_in o))) (around p t r q bs w)
    (sound c (p ++ t) q (further n p t e) (rest_utf8 s _ t r h (subst (λ x. IsUtf8 x) w u)) a end
    (λ b. absurd (no_gap s t r bs h (f b))))
sound (gives {s = s} {n = n} {kind = kind} {t = t} {r = r} {bs = bs} {o = o} h w b c) p q e u a end f =
    let here : Token = record { kind = kind; from = n; to = n + length t } in
    let whole : List ℕ = p ++ (bs ++ q) in
    let w' : Word = word_at whole end here in
    let x : text_of whole here ≡ t = subst (λ l. take (n + length t - n) (drop n (p ++ l)) ≡ t)
    (sym (append_assoc t r q) ∙ ap (λ l. l ++ q) (sym w))
    (slice p t (r ++ q) n (n + length t - n) e (omega arith)) in
    let u' : IsUtf8 (t ++ r) = subst (λ x. IsUtf8 x) w u in
    words_more a whole end here o (sound_word w' s t r x h b u') (beside a w' s t r bs h w f)
    (subst (λ l. SoundWords (Some w') (words_behind l (n + length t) (tokens_in o))) (around p t r q bs w)
    (sound c (p ++ t) q (further n p t e) (rest_utf8 s (token kind) t r h u') (Some w') (n + length t)
    (λ g. piece_ends s n kind t r (piece_kind w' g) h)))
sound (big {n = n} {bs = bs} h w b) p q e u a end f = tt
sound {v = v} (stuck {s = s} {n = n} {b = b} {bs = bs} h) p q e u a end f = no_words a (p ++ ((b ∷ bs) ++ q)) end _
    (none_stuck (text_at s.opens) v s n (b ∷ bs))

-- The words of a file that is cut into tokens are spelled as their kinds say.
pub sound_words : (bytes : List ℕ) (o : Outcome) → Lexes bytes o → SoundWords None (words_of bytes (tokens_in o))
sound_words bytes o l =
    subst (λ x. SoundWords None (words_of x (tokens_in o))) (take-append-drop (utf8_valid_len bytes) bytes)
    (sound l [] (drop (utf8_valid_len bytes) bytes) refl (front_utf8 bytes) None 0 (λ b. absurd b))
