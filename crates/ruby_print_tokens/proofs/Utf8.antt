-- Texts that are UTF-8, and those whose first byte begins a token on its line.
use Rattle.std.proofs.Common.{◌≡◌, ℕ, zero, suc, ◌+◌, ◌<◌, ◌≤◌, Bool, true, false, ◌&&◌, ◌||◌, not, nat_lt, ◌==◌, List}
use Rattle.std.proofs.Common.{[], ◌∷◌, ◌++◌, length, get_or, IsUtf8, inl, inr, refl, sym, ap₂, subst, arith, append-nil}
use Rattle.std.proofs.Common.{ltb-true}
use Rattle.std.specs.Prelude.{◌/◌, ◌%◌, ℤ, pos, negsuc, if◌then◌else◌}
use Rattle.std.specs.List.{flat_map, AllByRecursion}
use Rattle.std.specs.Char.{is_ascii_uppercase}
use Rattle.std.specs.Fmt.{signed_decimal, decimal, digits, digits_onto, digit_glyph}
use Rattle.std.proofs.lemmas.Bool.{and_parts, cases_lt, cases_eq}
use Rattle.std.proofs.lemmas.Bool.Decides.{nat_tests}
use Rattle.std.proofs.lemmas.Str.{IsUtf8-append, IsUtf8-nil, IsUtf8-encode, encode_ascii, inside_one}
use Rattle.std.proofs.lemmas.Grind.{flat_map-append}
use lib.Utf8.{scalar, scalars, encode, encodes}
use Rattle.ruby_token.specs.Bytes.{Every, is_word, is_lower, is_white, is_line_end, is_suffix}
use Rattle.ruby_token.proofs.Words.{split_if}
use Rattle.ruby_types.specs.Paths.{path_text}
use Rattle.ruby_types.specs.declared.tree.ConstRef.{ConstRef}
use Rattle.ruby_print.specs.Pieces.{escaped, joined, constant_text, grouped}
use Rattle.ruby_print_pieces.proofs.Utf8.{utf8_cons}
use Rattle.ruby_print_pieces.specs.Names.{IsPlainName, plain_name, IsName, unmarked, suffixed, IsConstName, capital}
use Rattle.ruby_print_pieces.specs.Names.{IsSymbolName, of_name, of_constant, EachConst, IsPath}

-- ---- bytes below 128

-- Whether all bytes are below 128.
abbrev pub are_ascii : List ℕ → Bool
are_ascii [] = true
are_ascii (x ∷ xs) = nat_lt x 128 && are_ascii xs

-- The text of bytes below 128 is UTF-8.
pub utf8_ascii : (xs : List ℕ) → are_ascii xs ≡ true → IsUtf8 xs
utf8_ascii [] e = IsUtf8-nil
utf8_ascii (x ∷ xs) e = let p = and_parts _ _ e in utf8_cons x xs (ltb-true _ _ p.0) (utf8_ascii xs p.1)

word_below : (b : ℕ) → is_word b ≡ true → b < 128
word_below b h = grind (arith, nat_tests)

utf8_word : (t : List ℕ) → Every is_word t → IsUtf8 t
utf8_word [] h = IsUtf8-nil
utf8_word (b ∷ t) h = utf8_cons b t (word_below b h.0) (utf8_word t h.1)

-- ---- escaped texts

abbrev escapes_below : ℕ → Bool
escapes_below zero = true
escapes_below (suc n) = are_ascii (escaped n) && escapes_below n

escape_below : (n : ℕ) → escapes_below n ≡ true → (x : ℕ) → x < n → are_ascii (escaped x) ≡ true
escape_below zero e x h = absurd (omega arith)
escape_below (suc n) e x h =
    let p = and_parts _ _ e in
    elim (cases_eq x n) [ inl same ↦ rw same p.0 | inr other ↦ escape_below n p.1 x (omega arith) ]

all_below : escapes_below 128 ≡ true
all_below = refl

plain : (x : ℕ) → 128 ≤ x → escaped x ≡ x ∷ []
plain x h = grind (arith, nat_tests)

escape_high : (xs : List ℕ) → ((k : ℕ) → k < length xs → 128 ≤ get_or xs k 0) → flat_map escaped xs ≡ xs
escape_high [] h = refl
escape_high (x ∷ xs) h = ap₂ (λ (a b : List ℕ). a ++ b) (plain x (h 0 (omega arith)))
    (escape_high xs (λ k below. h (suc k) (omega arith)))

one_char : (c : ℕ) → scalar c ≡ true → IsUtf8 (flat_map escaped (encode c))
one_char c ok = elim (cases_lt c 128) [
  | inl small ↦ rw (encode_ascii c small, append-nil) (utf8_ascii _ (escape_below 128 all_below c small))
  | inr big ↦
      let high : (k : ℕ) → k < length (encode c) → 128 ≤ get_or (encode c) k 0 = λ k below.
      elim (cases_lt (get_or (encode c) k 0) 128) [
        | inl low ↦ absurd (omega (arith, inside_one c [] (encode c) k (sym (append-nil _)) below low))
        | inr h ↦ h
      ] in
      subst IsUtf8 (sym (escape_high (encode c) high)) (IsUtf8-encode c ok)
]

all_chars : (cs : List ℕ) → scalars cs ≡ true → IsUtf8 (flat_map escaped (encodes cs))
all_chars [] e = IsUtf8-nil
all_chars (c ∷ cs) e =
    let p = and_parts _ _ e in
    subst IsUtf8 (sym (flat_map-append escaped (encode c) (encodes cs)))
    (IsUtf8-append _ _ (one_char c p.0) (all_chars cs p.1))

-- The text of escaped bytes is UTF-8.
pub utf8_escaped : (text : List ℕ) → IsUtf8 text → IsUtf8 (flat_map escaped text)
utf8_escaped text u = subst (λ l. IsUtf8 (flat_map escaped l)) u.1.1 (all_chars u.0 u.1.0)

-- ---- texts of tokens

-- Whether a byte begins a token on its line.
abbrev pub begins_token : ℕ → Bool
begins_token b = not (is_white b || ((b == 35) || is_line_end b))

-- Whether the first byte begins a token on its line.
abbrev pub first_begins : List ℕ → Bool
first_begins [] = false
first_begins (b ∷ bs) = begins_token b

pub record Good (t : List ℕ) : Type 0 where
  pub utf8 : IsUtf8 t
  pub first : first_begins t ≡ true

-- A byte below 128 that begins a token, and UTF-8 behind it, make a good text.
pub good_then : (b : ℕ) (t : List ℕ) → begins_token b ≡ true → b < 128 → IsUtf8 t → Good (b ∷ t)
good_then b t h l u = record { utf8 = utf8_cons b t l u; first = h }

first_append : (t r : List ℕ) → first_begins t ≡ true → first_begins (t ++ r) ≡ true
first_append [] r h = cc
first_append (b ∷ t) r h = h

-- A good text stays so before UTF-8.
pub good_append : {t r : List ℕ} → Good t → IsUtf8 r → Good (t ++ r)
good_append {t} {r} g u = record { utf8 = IsUtf8-append t r g.utf8 u; first = first_append t r g.first }

-- ---- decimals

glyph_is : (d : ℕ) → d < 10 → digit_glyph false d ≡ 48 + d
glyph_is d h = grind (arith, nat_tests)

digit_begins : (d : ℕ) → d < 10 → begins_token (48 + d) ≡ true
digit_begins d h = grind (arith, nat_tests)

digit_good : (d : ℕ) (acc : List ℕ) → d < 10 → IsUtf8 acc → Good (digit_glyph false d ∷ acc)
digit_good d acc small u = rw (glyph_is d small) (good_then (48 + d) acc (digit_begins d small) (omega arith) u)

digits_good : (k n : ℕ) (acc : List ℕ) → Good acc → Good (digits_onto k 10 false n acc)
digits_good zero n acc g = g
digits_good (suc k) n acc g =
    let more : Good (digit_glyph false (n % 10) ∷ acc) = digit_good (n % 10) acc (omega arith) g.utf8 in
    split_if Good (n / 10 == 0) _ _ (λ _. more) (λ _. digits_good k (n / 10) _ more)

digits_begin : (k n : ℕ) → Good (digits_onto (suc k) 10 false n [])
digits_begin k n =
    let more : Good (digit_glyph false (n % 10) ∷ []) = digit_good (n % 10) [] (omega arith) IsUtf8-nil in
    split_if Good (n / 10 == 0) _ _ (λ _. more) (λ _. digits_good k (n / 10) _ more)

decimal_good : (n : ℕ) → Good (decimal n)
unfolding digits
decimal_good n = digits_begin 63 n

-- The text of a decimal number is UTF-8 and begins a token.
pub good_decimal : (z : ℤ) → Good (signed_decimal z)
good_decimal (pos n) = decimal_good n
good_decimal (negsuc n) = good_then 45 _ refl (omega arith) (decimal_good (suc n)).utf8

-- ---- names

begins_lower : (b : ℕ) → is_lower b ≡ true → (begins_token b ≡ true) × (b < 128)
begins_lower b h = grind (arith, nat_tests)

begins_upper : (b : ℕ) → is_ascii_uppercase b ≡ true → (begins_token b ≡ true) × (b < 128)
begins_upper b h = grind (arith, nat_tests)

suffix_below : (b : ℕ) → is_suffix b ≡ true → b < 128
suffix_below b h = grind (arith, nat_tests)

-- The text of a plain name is UTF-8 and begins a token.
pub good_plain : {n : List ℕ} → IsPlainName n → Good n
good_plain (plain_name {b} {t} l w) = let p = begins_lower b l in good_then b t p.0 p.1 (utf8_word t w)

-- The text of a name is UTF-8 and begins a token.
pub good_name : {n : List ℕ} → IsName n → Good n
good_name (unmarked p) = good_plain p
good_name (suffixed q p h) = good_append (good_plain p) (utf8_cons q [] (suffix_below q h) IsUtf8-nil)

-- The text of a constant name is UTF-8 and begins a token.
pub good_const : {n : List ℕ} → IsConstName n → Good n
good_const (capital {b} {t} l w) = let p = begins_upper b l in good_then b t p.0 p.1 (utf8_word t w)

-- The text of a symbol is UTF-8 and begins a token.
pub good_symbol : {n : List ℕ} → IsSymbolName n → Good (58 ∷ n)
good_symbol (of_name h) = good_then 58 _ refl (omega arith) (good_name h).utf8
good_symbol (of_constant h) = good_then 58 _ refl (omega arith) (good_const h).utf8

-- ---- constants

more_names : (n : List ℕ) (ns : List (List ℕ)) → IsConstName n → EachConst ns → Good (path_text (n ∷ ns))
more_names n [] h hs = good_const h
more_names n (m ∷ ns) h hs =
    good_append (good_const h)
    (utf8_cons 58 _ (omega arith) (utf8_cons 58 _ (omega arith) (more_names m ns hs.0 hs.1).utf8))

-- The text of a path is UTF-8 and begins a token.
pub good_path : (ns : List (List ℕ)) → IsPath ns → Good (path_text ns)
good_path [] h = absurd h
good_path (n ∷ ns) h = more_names n ns h.0 h.1

-- The text of a constant is UTF-8 and begins a token.
pub good_constant : (c : ConstRef) → IsPath c.path → Good (constant_text c)
good_constant c h = from_top c.top (good_path c.path h)
  where
    from_top : (b : Bool) → Good (path_text c.path) → Good ((if b then 58 ∷ 58 ∷ [] else []) ++ path_text c.path)
    from_top true g = good_then 58 _ refl (omega arith) (utf8_cons 58 _ (omega arith) g.utf8)
    from_top false g = g

-- ---- texts with commas between them

-- The text of texts with commas between is UTF-8.
pub utf8_joined : (xs : List (List ℕ)) → AllByRecursion IsUtf8 xs → IsUtf8 (joined xs)
utf8_joined [] h = IsUtf8-nil
utf8_joined (x ∷ []) h = h.0
utf8_joined (x ∷ y ∷ ys) h =
    IsUtf8-append x _ h.0 (utf8_cons 44 _ (omega arith) (utf8_cons 32 _ (omega arith) (utf8_joined (y ∷ ys) h.1)))

-- The text of what stands in parentheses is UTF-8 and begins a token.
pub good_grouped : {t : List ℕ} → IsUtf8 t → Good (grouped t)
good_grouped {t} u = good_then 40 _ refl (omega arith) (IsUtf8-append t _ u (utf8_ascii (41 ∷ []) refl))
