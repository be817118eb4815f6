-- What a piece of a text stands for is UTF-8 and not empty, as the piece is.
use Rattle.std.proofs.Common.{◌≡◌, ◌≢◌, ◌⊎◌, inl, inr, ℕ, ◌<◌, ◌≤◌, Bool, true, false, ◌&&◌, ◌||◌, List, [], ◌∷◌, ◌++◌}
use Rattle.std.proofs.Common.{length, get_or, ◌==◌, refl, sym, ap, ◌∙◌, subst, arith, IsUtf8, cond, ltb}
use Rattle.std.proofs.lemmas.Bool.Decides.{nat_tests}
use Rattle.std.proofs.lemmas.Str.{IsUtf8-append, IsUtf8-encode, IsUtf8-nil, IsUtf8-drop, IsUtf8-take}
use Rattle.std.proofs.lemmas.Str.{IsCharBoundary-after_ascii, IsCharBoundary-before_ascii, encode_ascii}
use Rattle.std.proofs.lemmas.Bool.{eqb-true}
use lib.Utf8.{scalar, scalars, encode, encodes}
use Rattle.ruby_token.proofs.Words.{split_if, drop_front}
use Rattle.ruby_token.proofs.Cuts.{take_front}
use Rattle.ruby_grammar.proofs.Tools.{and_true}
use Rattle.ruby_print_pieces.proofs.Utf8.{utf8_byte, utf8_cons}
use Rattle.ruby_grammar.specs.Values.{escaped, double_text, single_text, text_bytes}

-- ---- cuts beside bytes below 128

-- UTF-8 stays so without a first byte below 128.
pub utf8_behind : (b : ℕ) (bs : List ℕ) → b < 128 → IsUtf8 (b ∷ bs) → IsUtf8 bs
utf8_behind b bs h u = IsUtf8-drop (b ∷ bs) 1 u (IsCharBoundary-after_ascii (b ∷ bs) 0 u (omega arith) h)

at_byte : (t : List ℕ) (b : ℕ) (r : List ℕ) → get_or (t ++ b ∷ r) (length t) 0 ≡ b
at_byte [] b r = refl
at_byte (c ∷ t) b r = at_byte t b r

in_list : (t : List ℕ) (b : ℕ) (r : List ℕ) → length t < length (t ++ b ∷ r)
in_list [] b r = omega arith
in_list (c ∷ t) b r = let i = in_list t b r in omega arith

-- where a byte below 128 stands, both parts are UTF-8
pub utf8_parts : (t : List ℕ) (b : ℕ) (r : List ℕ) → b < 128 → IsUtf8 (t ++ b ∷ r) → IsUtf8 t × IsUtf8 (b ∷ r)
utf8_parts t b r h u =
    let g = IsCharBoundary-before_ascii (t ++ b ∷ r) (length t) (in_list t b r)
    (subst (λ x. x < 128) (sym (at_byte t b r)) h) in (
      subst (λ x. IsUtf8 x) (take_front t (b ∷ r)) (IsUtf8-take (t ++ b ∷ r) (length t) u g),
      subst (λ x. IsUtf8 x) (drop_front t (b ∷ r)) (IsUtf8-drop (t ++ b ∷ r) (length t) u g),
    )

-- ---- escapes

-- Text is read so: a backslash stands for itself, or it and the byte behind it stand for a byte below 128, or it
-- stands for nothing.
pub record Unescapes (f : List ℕ → List ℕ) : Type 0 where
  pub none : f [] ≡ []
  pub plain : (b : ℕ) (bs : List ℕ) → (b == 92) ≡ false → f (b ∷ bs) ≡ b ∷ f bs
  pub lone : f (92 ∷ []) ≡ 92 ∷ []
  pub pair : (c : ℕ) (bs : List ℕ) → (f (92 ∷ c ∷ bs) ≡ 92 ∷ f (c ∷ bs))
      ⊎ (((d : ℕ) × (d < 128) × (c < 128) × (f (92 ∷ c ∷ bs) ≡ d ∷ f bs)) ⊎ (f (92 ∷ c ∷ bs) ≡ f (c ∷ bs)))

-- bytes from 128 on
abbrev Wide : List ℕ → Type 0
Wide [] = Unit {0}
Wide (b ∷ bs) = (128 ≤ b) × Wide bs

-- a character from 128 on
record WideChar (t : List ℕ) : Type 0 where
  head : ℕ
  tail : List ℕ
  whole : t ≡ head ∷ tail
  wide : Wide (head ∷ tail)

by_cond : (P : List ℕ → Type 0) (b : Bool) (x y : List ℕ) → (b ≡ true → P x) → P y → P (cond b x y)
by_cond P true x y h g = h refl
by_cond P false x y h g = g

not_small : (c : ℕ) → 128 ≤ c → ltb c 128 ≡ true → ⊥
not_small c h e = grind (arith, nat_tests)

wide_encode : (c : ℕ) → 128 ≤ c → WideChar (encode c)
unfolding encode
wide_encode c h =
    by_cond WideChar (ltb c 128) (c ∷ []) _ (λ e. absurd (not_small c h e))
    (by_cond WideChar (ltb c 2048) _ _
    (λ e. record { head = _; tail = _; whole = refl; wide = (omega arith, (omega arith, tt)) })
    (by_cond WideChar (ltb c 65536) _ _
    (λ e. record { head = _; tail = _; whole = refl; wide = (omega arith, (omega arith, (omega arith, tt))) })
    (record {
      head = _;
      tail = _;
      whole = refl;
      wide =
          (omega arith, (omega arith, (omega arith, (omega arith, tt))));
    })))

no_backslash : (b : ℕ) → 128 ≤ b → (b == 92) ≡ false
no_backslash b h = grind (arith, nat_tests)

through_wide : (f : List ℕ → List ℕ) → Unescapes f → (t r : List ℕ) → Wide t → f (t ++ r) ≡ t ++ f r
through_wide f u [] r h = refl
through_wide f u (b ∷ t) r h = u.plain b (t ++ r) (no_backslash b h.0) ∙ ap (λ x. b ∷ x) (through_wide f u t r h.1)

-- characters, one by one
data Chars : List ℕ → Type 0 where
  no_char : Chars []
  ascii : {b : ℕ} {bs : List ℕ} → b < 128 → Chars bs → Chars (b ∷ bs)
  wide : {b : ℕ} {t bs : List ℕ} → IsUtf8 (b ∷ t) → Wide (b ∷ t) → Chars bs → Chars (b ∷ (t ++ bs))

chars_more : (c : ℕ) (bs : List ℕ) → scalar c ≡ true → Chars bs → (c < 128) ⊎ (128 ≤ c) → Chars (encode c ++ bs)
chars_more c bs e h (inl l) = subst (λ t. Chars (t ++ bs)) (sym (encode_ascii c l)) (ascii l h)
chars_more c bs e h (inr l) =
    let w = wide_encode c l in
    subst (λ t. Chars (t ++ bs)) (sym w.whole) (wide (subst (λ x. IsUtf8 x) w.whole (IsUtf8-encode c e)) w.wide h)

chars_of : (cs : List ℕ) → scalars cs ≡ true → Chars (encodes cs)
chars_of [] h = no_char
chars_of (c ∷ cs) h = chars_more c (encodes cs) (and_true _ _ h).0 (chars_of cs (and_true _ _ h).1) (grind arith)

utf8_chars : (bs : List ℕ) → IsUtf8 bs → Chars bs
utf8_chars bs u = subst Chars u.1.1 (chars_of u.0 u.1.0)

-- also behind a backslash
abbrev Both : (List ℕ → List ℕ) → List ℕ → Type 0
Both f bs = IsUtf8 (f bs) × IsUtf8 (f (92 ∷ bs))

by_pair : (f : List ℕ → List ℕ) → Unescapes f → (c : ℕ) (bs : List ℕ) → IsUtf8 (f (c ∷ bs)) →
    (c < 128 → IsUtf8 (f bs)) → IsUtf8 (f (92 ∷ c ∷ bs))
by_pair f u c bs h g = elim (u.pair c bs) [
  | inl e ↦ subst (λ x. IsUtf8 x) (sym e) (utf8_cons 92 (f (c ∷ bs)) (omega arith) h)
  | inr (inl p) ↦ subst (λ x. IsUtf8 x) (sym p.3) (utf8_cons p.0 (f bs) p.1 (g p.2))
  | inr (inr e) ↦ subst (λ x. IsUtf8 x) (sym e) h
]

by_first : (f : List ℕ → List ℕ) → Unescapes f → (b : ℕ) (bs : List ℕ) → b < 128 → Both f bs → (v : Bool) →
    (b == 92) ≡ v → IsUtf8 (f (b ∷ bs))
by_first f u b bs h i true e = subst (λ x. IsUtf8 (f (x ∷ bs))) (sym (eqb-true b 92 e)) i.1
by_first f u b bs h i false e = subst (λ x. IsUtf8 x) (sym (u.plain b bs e)) (utf8_cons b (f bs) h i.0)

unescaped : (f : List ℕ → List ℕ) → Unescapes f → {bs : List ℕ} → Chars bs → Both f bs
unescaped f u no_char = (
  subst (λ x. IsUtf8 x) (sym u.none) IsUtf8-nil,
  subst (λ x. IsUtf8 x) (sym u.lone)
      (utf8_byte 92 (omega arith)),
)
unescaped f u (ascii {b = b} {bs = bs} h c) =
    let i = unescaped f u c in
    let first = by_first f u b bs h i (b == 92) refl in
    (first, by_pair f u b bs first (λ _. i.0))
unescaped f u (wide {b = b} {t = t} {bs = bs} h w c) =
    let i = unescaped f u c in
    let first = subst (λ x. IsUtf8 x) (sym (through_wide f u (b ∷ t) bs w)) (IsUtf8-append (b ∷ t) (f bs) h i.0) in
    (first, by_pair f u b (t ++ bs) first (λ l. absurd (omega (arith, l, w.0))))

unescaped_utf8 : (f : List ℕ → List ℕ) → Unescapes f → (bs : List ℕ) → IsUtf8 bs → IsUtf8 (f bs)
unescaped_utf8 f u bs h = (unescaped f u (utf8_chars bs h)).0

-- ---- both kinds of texts

plain_double : (b : ℕ) (bs : List ℕ) → (b == 92) ≡ false → double_text (b ∷ bs) ≡ b ∷ double_text bs
plain_double b [] e = refl
plain_double b (c ∷ bs) e = rw e refl

plain_single : (b : ℕ) (bs : List ℕ) → (b == 92) ≡ false → single_text (b ∷ bs) ≡ b ∷ single_text bs
plain_single b [] e = refl
plain_single b (c ∷ bs) e = rw e refl

escaped_small : (c : ℕ) → c < 128 → escaped c < 128
escaped_small c h =
    split_if (λ x. x < 128) (c == 110) 10 _ (λ e. omega arith) (λ e.
    split_if (λ x. x < 128) (c == 116) 9 _ (λ e. omega arith) (λ e.
    split_if (λ x. x < 128) (c == 114) 13 _ (λ e. omega arith) (λ e.
    split_if (λ x. x < 128) (c == 101) 27 c (λ e. omega arith) (λ e. h))))

not_byte : (c n : ℕ) → n < 128 → 128 ≤ c → (c == n) ≡ false
not_byte c n l h = grind (arith, nat_tests)

escaped_wide : (c : ℕ) → 128 ≤ c → escaped c ≡ c
escaped_wide c h = rw (
  not_byte c 110 (omega arith) h,
  not_byte c 116 (omega arith) h,
  not_byte c 114 (omega arith) h,
  not_byte c 101 (omega arith) h,
) refl

-- A byte is below 128 or not: the two cases of UTF-8.
pub small_or_wide : (c : ℕ) → (c < 128) ⊎ (128 ≤ c)
small_or_wide c = grind arith

abbrev Pair : (List ℕ → List ℕ) → ℕ → List ℕ → Type 0
Pair f c bs = (f (92 ∷ c ∷ bs) ≡ 92 ∷ f (c ∷ bs))
    ⊎ (((d : ℕ) × (d < 128) × (c < 128) × (f (92 ∷ c ∷ bs) ≡ d ∷ f bs)) ⊎ (f (92 ∷ c ∷ bs) ≡ f (c ∷ bs)))

pair_double : (c : ℕ) (bs : List ℕ) → (c < 128) ⊎ (128 ≤ c) → Pair double_text c bs
pair_double c bs (inl l) = inr (inl (escaped c, escaped_small c l, l, refl))
pair_double c bs (inr l) =
    inr (inr (ap (λ x. x ∷ double_text bs) (escaped_wide c l) ∙ sym (plain_double c bs (no_backslash c l))))

quote_small : (c : ℕ) → ((c == 39) || (c == 92)) ≡ true → c < 128
quote_small c h = grind (arith, nat_tests)

pair_single : (c : ℕ) (bs : List ℕ) (v : Bool) → ((c == 39) || (c == 92)) ≡ v → Pair single_text c bs
pair_single c bs true e = inr (inl (c, quote_small c e, quote_small c e, rw e refl))
pair_single c bs false e = inl (rw e refl)

double_unescapes : Unescapes double_text
double_unescapes = record {
  none = refl;
  plain = plain_double;
  lone = refl;
  pair = λ c bs.
      pair_double c bs (small_or_wide c);
}

single_unescapes : Unescapes single_text
single_unescapes = record {
  none = refl;
  plain = plain_single;
  lone = refl;
  pair = λ c bs.
      pair_single c bs ((c == 39) || (c == 92)) refl;
}

-- What a piece of UTF-8 stands for is UTF-8.
pub text_utf8 : (double : Bool) (text : List ℕ) → IsUtf8 text → IsUtf8 (text_bytes double text)
text_utf8 true text h = unescaped_utf8 double_text double_unescapes text h
text_utf8 false text h = unescaped_utf8 single_text single_unescapes text h

double_some : (b : ℕ) (bs : List ℕ) → double_text (b ∷ bs) ≢ []
double_some b [] = λ e. cc
double_some b (c ∷ bs) = split_if (λ x. x ≢ []) (b == 92) _ _ (λ v e. cc) (λ v e. cc)

single_some : (b : ℕ) (bs : List ℕ) → single_text (b ∷ bs) ≢ []
single_some b [] = λ e. cc
single_some b (c ∷ bs) = split_if (λ x. x ≢ []) ((b == 92) && ((c == 39) || (c == 92))) _ _ (λ v e. cc) (λ v e. cc)

-- What a piece stands for is never empty.
pub text_some : (double : Bool) (b : ℕ) (bs : List ℕ) → text_bytes double (b ∷ bs) ≢ []
text_some true b bs = double_some b bs
text_some false b bs = single_some b bs
