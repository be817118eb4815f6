-- The lexer finds each name, constant, instance variable and symbol that is printed.
use Rattle.std.proofs.Common.{◌≡◌, ℕ, Bool, true, false, List, [], ◌∷◌, ◌++◌, length, refl, ap, ◌∙◌, drop, arith}
use Rattle.std.proofs.Common.{append_assoc, length-append, None, ◌==◌, not}
use Rattle.std.specs.List.{prefix_len}
use Rattle.std.specs.Char.{is_ascii_uppercase}
use Rattle.std.proofs.lemmas.Bool.Decides.{nat_tests}
use Rattle.ruby_token.specs.declared.token.TokenKind.TheVariants as k
use Rattle.ruby_token.specs.declared.lexeme.Lexeme.TheVariants as l
use Rattle.ruby_token.specs.declared.state.State.{State}
use Rattle.ruby_token.specs.Bytes.{Every, is_word, is_lower, is_white, is_suffix, next_is, next_passes}
use Rattle.ruby_token.specs.Opens.{text_at}
use Rattle.ruby_token.specs.State.{last_of}
use Rattle.ruby_token.specs.Lengths.{suffix_len, name_len}
use Rattle.ruby_token.specs.Steps.{lexeme, colon_at}
use Rattle.ruby_token.proofs.Words.{exactly, drop_front}
use Rattle.ruby_token.proofs.Longest.{not_true}
use Rattle.ruby_print_tokens.specs.Flows.{stops_by, stops}
use Rattle.ruby_print_tokens.proofs.SinglesNames.{Tail, bare, marked}
use Rattle.ruby_print_tokens.proofs.SinglesFlows.{exact_front, last_passes, last_more}

-- What may stand behind a name: no byte of a name, no `?` or `!`, no `=` and no `:`.
pub record EndsName (r : List ℕ) : Type 0 where
  pub no_word : next_passes is_word r ≡ false
  pub no_suffix : suffix_len r ≡ 0
  pub no_assign : next_is 61 r ≡ false
  pub no_colon : next_is 58 r ≡ false

word_stop : (b : ℕ) → stops_by b ≡ true → is_word b ≡ false
word_stop b h = grind (arith, nat_tests)

suffix_stop : (b : ℕ) → stops_by b ≡ true → is_suffix b ≡ false
suffix_stop b h = grind (arith, nat_tests)

assign_stop : (b : ℕ) → stops_by b ≡ true → (b == 61) ≡ false
assign_stop b h = grind (arith, nat_tests)

colon_stop : (b : ℕ) → stops_by b ≡ true → (b == 58) ≡ false
colon_stop b h = grind (arith, nat_tests)

-- A byte that goes on no name ends one.
pub ends_by_stop : (r : List ℕ) → stops r ≡ true → EndsName r
ends_by_stop [] h = record { no_word = refl; no_suffix = refl; no_assign = refl; no_colon = refl }
ends_by_stop (b ∷ r) h =
    let e : is_suffix b ≡ false = suffix_stop b h in
    record { no_word = word_stop b h; no_suffix = rw e refl; no_assign = assign_stop b h; no_colon = colon_stop b h }

-- `(` ends a name.
pub ends_by_paren : (r : List ℕ) → EndsName (40 ∷ r)
ends_by_paren r = record { no_word = refl; no_suffix = refl; no_assign = refl; no_colon = refl }

suffix_not_word : (q : ℕ) → is_suffix q ≡ true → is_word q ≡ false
suffix_not_word q h = grind (arith, nat_tests)

-- A name's tail is as long as the lexer takes it.
pub tail_exact : {t : List ℕ} (r : List ℕ) → Tail t → EndsName r → name_len (t ++ r) ≡ length t
tail_exact r (bare {t = t} e) n =
    let p : prefix_len is_word (t ++ r) ≡ length t = exact_front is_word t r e n.no_word in
    let d : drop (length t) (t ++ r) ≡ r = drop_front t r in
    let s : suffix_len r ≡ 0 = n.no_suffix in
    rw (p, d, s) (omega arith)
tail_exact r (marked t q e s) n =
    let a : (t ++ q ∷ []) ++ r ≡ t ++ q ∷ r = append_assoc t (q ∷ []) r in
    let p : prefix_len is_word (t ++ q ∷ r) ≡ length t = exactly is_word t q r e (suffix_not_word q s) in
    let d : drop (length t) (t ++ q ∷ r) ≡ q ∷ r = drop_front t (q ∷ r) in
    let g : next_is 61 r ≡ false = n.no_assign in
    rw (a, p, d, s, g, length-append) refl

no_label : (r : List ℕ) → next_is 58 r ≡ false → colon_at r ≡ false
no_label r h = rw h refl

-- The lexer takes a name as one token.
pub name_lexeme : (s : State) (b : ℕ) (t r : List ℕ) → text_at s.opens ≡ None → is_lower b ≡ true → Tail t →
    EndsName r → lexeme s ((b ∷ t) ++ r) ≡ l.Token k.Name (length (b ∷ t))
unfolding lexeme
name_lexeme s b t r c h i n =
    let e : name_len (t ++ r) ≡ length t = tail_exact r i n in
    let d : drop (length t) (t ++ r) ≡ r = drop_front t r in
    let g : colon_at r ≡ false = no_label r n.no_colon in
    rw (c, h, e, d, g) (ap (λ m. l.Token k.Name m) (omega arith))

upper_not_lower : (b : ℕ) → is_ascii_uppercase b ≡ true → is_lower b ≡ false
upper_not_lower b h = grind (arith, nat_tests)

-- The lexer takes a constant name as one token.
pub const_lexeme : (s : State) (b : ℕ) (t r : List ℕ) → text_at s.opens ≡ None → is_ascii_uppercase b ≡ true →
    Every is_word t → next_passes is_word r ≡ false → lexeme s ((b ∷ t) ++ r) ≡ l.Token k.Const (length (b ∷ t))
unfolding lexeme
const_lexeme s b t r c h i n =
    let e : prefix_len is_word (t ++ r) ≡ length t = exact_front is_word t r i n in
    let z : is_lower b ≡ false = upper_not_lower b h in
    rw (c, z, h, e) (ap (λ m. l.Token k.Const m) (omega arith))

-- The lexer takes an instance variable as one token.
pub ivar_lexeme : (s : State) (b : ℕ) (t r : List ℕ) → text_at s.opens ≡ None → is_lower b ≡ true → Every is_word t →
    next_passes is_word r ≡ false → lexeme s ((64 ∷ b ∷ t) ++ r) ≡ l.Token k.Ivar (length (64 ∷ b ∷ t))
unfolding lexeme
ivar_lexeme s b t r c h i n =
    let e : prefix_len is_word (t ++ r) ≡ length t = exact_front is_word t r i n in
    rw (c, h, e) (ap (λ m. l.Token k.Ivar m) (omega arith))

-- The lexer takes a symbol as one token.
pub symbol_lexeme : (s : State) (b : ℕ) (t r : List ℕ) → text_at s.opens ≡ None → (s.before == 58) ≡ false →
    is_lower b ≡ true → Tail t → EndsName r → lexeme s ((58 ∷ b ∷ t) ++ r) ≡ l.Token k.Sym (length (58 ∷ b ∷ t))
unfolding lexeme
symbol_lexeme s b t r c z h i n =
    let e : name_len (t ++ r) ≡ length t = tail_exact r i n in
    rw (c, z, h, e) (ap (λ m. l.Token k.Sym m) (omega arith))

-- The lexer takes a symbol of a constant name as one token.
pub symbol_const_lexeme : (s : State) (b : ℕ) (t r : List ℕ) → text_at s.opens ≡ None → (s.before == 58) ≡ false →
    is_ascii_uppercase b ≡ true → Every is_word t → next_passes is_word r ≡ false →
    lexeme s ((58 ∷ b ∷ t) ++ r) ≡ l.Token k.Sym (length (58 ∷ b ∷ t))
unfolding lexeme
symbol_const_lexeme s b t r c z h i n =
    let e : prefix_len is_word (t ++ r) ≡ length t = exact_front is_word t r i n in
    let y : is_lower b ≡ false = upper_not_lower b h in
    rw (c, z, y, h, e) (ap (λ m. l.Token k.Sym m) (omega arith))

-- ---- none ends in a colon

abbrev no_colon_byte : ℕ → Bool
no_colon_byte b = not (b == 58)

word_no_colon : (b : ℕ) → is_word b ≡ true → no_colon_byte b ≡ true
word_no_colon b h = grind (arith, nat_tests)

suffix_no_colon : (b : ℕ) → is_suffix b ≡ true → no_colon_byte b ≡ true
suffix_no_colon b h = grind (arith, nat_tests)

words_no_colon : (t : List ℕ) → Every is_word t → Every no_colon_byte t
words_no_colon [] h = tt
words_no_colon (b ∷ t) h = (word_no_colon b h.0, words_no_colon t h.1)

marked_no_colon : (t : List ℕ) (q : ℕ) → Every is_word t → is_suffix q ≡ true → Every no_colon_byte (t ++ q ∷ [])
marked_no_colon [] q h s = (suffix_no_colon q s, tt)
marked_no_colon (b ∷ t) q h s = (word_no_colon b h.0, marked_no_colon t q h.1 s)

tail_no_colon : {t : List ℕ} → Tail t → Every no_colon_byte t
tail_no_colon (bare {t = t} e) = words_no_colon t e
tail_no_colon (marked t q e s) = marked_no_colon t q e s

lower_no_colon : (b : ℕ) → is_lower b ≡ true → no_colon_byte b ≡ true
lower_no_colon b h = grind (arith, nat_tests)

upper_no_colon : (b : ℕ) → is_ascii_uppercase b ≡ true → no_colon_byte b ≡ true
upper_no_colon b h = grind (arith, nat_tests)

-- A name ends in no colon.
pub name_last : (b : ℕ) (t : List ℕ) → is_lower b ≡ true → Tail t → (last_of (b ∷ t) == 58) ≡ false
name_last b t h i = not_true _ (last_passes no_colon_byte b t (lower_no_colon b h) (tail_no_colon i))

-- A constant name ends in no colon.
pub const_last : (b : ℕ) (t : List ℕ) → is_ascii_uppercase b ≡ true → Every is_word t → (last_of (b ∷ t) == 58) ≡ false
const_last b t h i = not_true _ (last_passes no_colon_byte b t (upper_no_colon b h) (words_no_colon t i))

-- A word ends in no colon.
pub word_last : (c b : ℕ) (t : List ℕ) → is_word b ≡ true → Every is_word t → (last_of (c ∷ b ∷ t) == 58) ≡ false
word_last c b t h i = ap (λ m. m == 58) (last_more c b t)
    ∙ not_true _ (last_passes no_colon_byte b t (word_no_colon b h) (words_no_colon t i))

-- A symbol ends in no colon.
pub symbol_last : (c b : ℕ) (t : List ℕ) → is_lower b ≡ true → Tail t → (last_of (c ∷ b ∷ t) == 58) ≡ false
symbol_last c b t h i = ap (λ m. m == 58) (last_more c b t) ∙ name_last b t h i

-- ---- none begins with white

-- A small letter is not white.
pub lower_dark : (b : ℕ) → is_lower b ≡ true → is_white b ≡ false
lower_dark b h = grind (arith, nat_tests)

-- A capital letter is not white.
pub upper_dark : (b : ℕ) → is_ascii_uppercase b ≡ true → is_white b ≡ false
upper_dark b h = grind (arith, nat_tests)

-- A small letter stands in words.
pub word_of_lower : (b : ℕ) → is_lower b ≡ true → is_word b ≡ true
word_of_lower b h = grind (arith, nat_tests)

-- A capital letter stands in words.
pub word_of_upper : (b : ℕ) → is_ascii_uppercase b ≡ true → is_word b ≡ true
word_of_upper b h = grind (arith, nat_tests)
