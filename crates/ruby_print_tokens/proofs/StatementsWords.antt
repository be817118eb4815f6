-- Runs of one name, constant, instance variable or symbol.
use Rattle.std.proofs.Common.{◌≡◌, ℕ, Bool, true, false, List, [], ◌∷◌, ◌++◌, ◌==◌, ◌||◌, length, refl, ap, arith}
use Rattle.std.proofs.Common.{append_assoc, add-zero, length-append}
use Rattle.std.specs.List.{prefix_len}
use Rattle.std.specs.Char.{is_ascii_uppercase}
use Rattle.std.proofs.lemmas.Bool.Decides.{nat_tests}
use Rattle.ruby_token.specs.declared.token.TokenKind.TheVariants as k
use Rattle.ruby_token.specs.declared.state.State.{State}
use Rattle.ruby_token.specs.declared.state.After.TheVariants as a
use Rattle.ruby_token.specs.declared.lexeme.Lexeme.TheVariants as l
use Rattle.ruby_token.specs.Bytes.{Every, is_word, is_lower, is_white, is_suffix, next_is, next_passes}
use Rattle.ruby_token.specs.Lengths.{suffix_len, name_len}
use Rattle.ruby_token.specs.State.{is_valueless, after_token}
use Rattle.ruby_token.specs.Steps.{colon_at, code_lexeme}
use Rattle.ruby_token.proofs.Words.{split_if, drop_front}
use Rattle.ruby_print_pieces.specs.Names.{IsPlainName, plain_name, IsName, unmarked, suffixed, IsConstName, capital}
use Rattle.ruby_print_pieces.specs.Names.{IsSymbolName, of_name, of_constant}
use Rattle.ruby_print_pieces.specs.Pieces.{piece, name, const, space}
use Rattle.ruby_print_tokens.specs.Flows.{behind_gap, state_behind, Flows, IsSpaces}
use Rattle.ruby_print_tokens.proofs.StatementsRuns.{Run, any, no_join, is_other, Code, code_gap, token_flow}

-- ---- what stands behind a word

abbrev breaks_by : ℕ → Bool
breaks_by b = (b == 10) || (b == 32) || (b == 40) || (b == 41) || (b == 44) || (b == 46)

abbrev breaks : List ℕ → Bool
breaks [] = true
breaks (b ∷ bs) = breaks_by b

-- What ends a name.
abbrev pub Breaks : List ℕ → Type 0
Breaks bs = breaks bs ≡ true

-- What goes on no word.
abbrev pub NoWord : List ℕ → Type 0
NoWord bs = next_passes is_word bs ≡ false

by_word : (b : ℕ) → breaks_by b ≡ true → is_word b ≡ false
by_word b h = grind (arith, nat_tests)

by_suffix : (b : ℕ) → breaks_by b ≡ true → is_suffix b ≡ false
by_suffix b h = grind (arith, nat_tests)

by_marks : (b : ℕ) → breaks_by b ≡ true → ((b == 61) ≡ false) × ((b == 58) ≡ false)
by_marks b h = grind (arith, nat_tests)

-- What ends a name goes on no word.
pub breaks_no_word : (bs : List ℕ) → Breaks bs → NoWord bs
breaks_no_word [] h = refl
breaks_no_word (b ∷ bs) h = by_word b h

no_suffix : (bs : List ℕ) → Breaks bs → suffix_len bs ≡ 0
no_suffix [] h = refl
no_suffix (b ∷ bs) h = rw (by_suffix b h) refl

no_equals : (bs : List ℕ) → Breaks bs → next_is 61 bs ≡ false
no_equals [] h = refl
no_equals (b ∷ bs) h = (by_marks b h).0

no_colon : (bs : List ℕ) → Breaks bs → colon_at bs ≡ false
no_colon [] h = refl
no_colon (b ∷ bs) h = rw (by_marks b h).1 refl

-- ---- how long a word is

word_len : (t r : List ℕ) → Every is_word t → NoWord r → prefix_len is_word (t ++ r) ≡ length t
word_len [] [] h n = refl
word_len [] (q ∷ r) h n = rw n refl
word_len (b ∷ t) r h n =
    let g : is_word b ≡ true = h.0 in
    let i : prefix_len is_word (t ++ r) ≡ length t = word_len t r h.1 n in
    rw g (omega (arith, i))

plain_len : (t r : List ℕ) → Every is_word t → Breaks r → name_len (t ++ r) ≡ length t
plain_len t r h b = rw (word_len t r h (breaks_no_word r b), drop_front t r, no_suffix r b) (add-zero (length t))

suffix_no_word : (q : ℕ) → is_suffix q ≡ true → is_word q ≡ false
suffix_no_word q h = grind (arith, nat_tests)

suffixed_len : (t r : List ℕ) (q : ℕ) → Every is_word t → is_suffix q ≡ true → Breaks r →
    name_len ((t ++ q ∷ []) ++ r) ≡ length (t ++ q ∷ [])
suffixed_len t r q h s b =
    rw (
      append_assoc t (q ∷ []) r,
      word_len t (q ∷ r) h (suffix_no_word q s),
      drop_front t (q ∷ r),
      s,
      no_equals r b,
      length-append,
    ) refl

-- a name, as a first byte and the bytes behind it
pub record Worded (n : List ℕ) : Type 0 where
  pub first : ℕ
  pub more : List ℕ
  pub whole : n ≡ first ∷ more
  pub lower : is_lower first ≡ true
  pub size : (r : List ℕ) → Breaks r → name_len (more ++ r) ≡ length more

-- A plain name is a worded one.
pub plainly : {n : List ℕ} → IsPlainName n → Worded n
plainly (plain_name {b} {t} h w) = record { first = b; more = t; whole = refl; lower = h; size = λ r. plain_len t r w }

suffixly : {n : List ℕ} (q : ℕ) → IsPlainName n → is_suffix q ≡ true → Worded (n ++ q ∷ [])
suffixly q (plain_name {b} {t} h w) s =
    record { first = b; more = t ++ q ∷ []; whole = refl; lower = h; size = λ r. suffixed_len t r q w s }

-- A name is a worded one.
pub worded : {n : List ℕ} → IsName n → Worded n
worded (unmarked p) = plainly p
worded (suffixed q p s) = suffixly q p s

-- ---- names

lower_no_white : (b : ℕ) → is_lower b ≡ true → is_white b ≡ false
lower_no_white b h = grind (arith, nat_tests)

name_lexeme : (s : State) (b : ℕ) (t r : List ℕ) → is_lower b ≡ true → name_len (t ++ r) ≡ length t → Breaks r →
    code_lexeme s b (t ++ r) ≡ l.Token k.Name (length (b ∷ t))
name_lexeme s b t r h e g = rw (h, e, drop_front t r, no_colon r g) (ap (l.Token k.Name) (omega arith))

name_after : (n : List ℕ) → no_join (after_token k.Name n) ≡ true
name_after n = split_if (λ x. no_join x ≡ true) (is_valueless n) a.Other a.Value (λ _. refl) (λ _. refl)

-- The lexer finds a name.
pub name_run : {m : ℕ} {n : List ℕ} {gap : List ℕ} → IsSpaces gap → Worded n →
    Run (Code m any) Breaks (name gap n ∷ []) (Code m no_join)
name_run {m} {n} {gap} h w s i rest c r =
    let flow : Flows rest s i (name gap (w.first ∷ w.more) ∷ []) (state_behind i (name gap (w.first ∷ w.more)) s) =
    token_flow gap k.Name w.first w.more c.opens h (lower_no_white w.first w.lower)
    (name_lexeme (behind_gap gap s) w.first w.more rest w.lower (w.size rest r) r) refl
    in
    let c' : Code m any (behind_gap gap s) = code_gap gap c in (
      state_behind i (name gap n) s,
      rw w.whole flow,
      record { opens = c'.opens; brackets = c'.brackets; after = name_after n },
    )

-- a word that stands for no value
pub word_run : {m : ℕ} {n : List ℕ} {gap : List ℕ} → IsSpaces gap → Worded n → is_valueless n ≡ true →
    Run (Code m any) Breaks (name gap n ∷ []) (Code m is_other)
unfolding name_run
word_run {m} {n} {gap} h w v s i rest c r =
    let x = name_run h w s i rest c r in
    let c' : Code m any (behind_gap gap s) = code_gap gap c in
    (state_behind i (name gap n) s, x.1, record { opens = c'.opens; brackets = c'.brackets; after = rw v refl })

-- ---- constants

upper_class : (b : ℕ) → is_ascii_uppercase b ≡ true → (is_lower b ≡ false) × (is_white b ≡ false)
upper_class b h = grind (arith, nat_tests)

const_lexeme : (s : State) (b : ℕ) (t r : List ℕ) → is_ascii_uppercase b ≡ true → Every is_word t → NoWord r →
    code_lexeme s b (t ++ r) ≡ l.Token k.Const (length (b ∷ t))
const_lexeme s b t r h w n = rw ((upper_class b h).0, h, word_len t r w n) (ap (l.Token k.Const) (omega arith))

-- The lexer finds a constant name.
pub const_run : {m : ℕ} {n : List ℕ} {gap : List ℕ} → IsSpaces gap → IsConstName n →
    Run (Code m any) NoWord (const gap n ∷ []) (Code m no_join)
const_run {m} {gap = gap} h (capital {b} {t} u w) s i rest c r =
    let c' : Code m any (behind_gap gap s) = code_gap gap c in (
      state_behind i (const gap (b ∷ t)) s,
      token_flow gap k.Const b t c.opens h (upper_class b u).1 (const_lexeme (behind_gap gap s) b t rest u w r) refl,
      record { opens = c'.opens; brackets = c'.brackets; after = refl },
    )

-- ---- instance variables

ivar_lexeme : (s : State) (b : ℕ) (t r : List ℕ) → is_lower b ≡ true → Every is_word t → NoWord r →
    code_lexeme s 64 ((b ∷ t) ++ r) ≡ l.Token k.Ivar (length (64 ∷ b ∷ t))
ivar_lexeme s b t r h w n = rw (h, word_len t r w n) (ap (l.Token k.Ivar) (omega arith))

-- The lexer finds an instance variable.
pub ivar_run : {m : ℕ} {n : List ℕ} {gap : List ℕ} → IsSpaces gap → IsPlainName n →
    Run (Code m any) Breaks (piece gap k.Ivar (64 ∷ n) ∷ []) (Code m no_join)
ivar_run {m} {gap = gap} h (plain_name {b} {t} u w) s i rest c r =
    let c' : Code m any (behind_gap gap s) = code_gap gap c in (
      state_behind i (piece gap k.Ivar (64 ∷ b ∷ t)) s,
      token_flow gap k.Ivar 64 (b ∷ t) c.opens h refl
          (ivar_lexeme (behind_gap gap s) b t rest u w (breaks_no_word rest r)) refl,
      record { opens = c'.opens; brackets = c'.brackets; after = refl },
    )

-- ---- symbols, behind a space

symbol_lexeme : (s : State) (n r : List ℕ) → IsSymbolName n → Breaks r → code_lexeme (behind_gap space s) 58 (n ++ r)
    ≡ l.Token k.Sym (length (58 ∷ n))
symbol_lexeme s n r (of_name h) g =
    let w : Worded n = worded h in
    rw (w.whole, w.lower, w.size r g) (ap (l.Token k.Sym) (omega arith))
symbol_lexeme s n r (of_constant (capital {b} {t} u w)) g =
    rw ((upper_class b u).0, u, word_len t r w (breaks_no_word r g)) (ap (l.Token k.Sym) (omega arith))

-- The lexer finds a symbol.
pub symbol_run : {m : ℕ} {n : List ℕ} → IsSymbolName n →
    Run (Code m any) Breaks (piece space k.Sym (58 ∷ n) ∷ []) (Code m no_join)
symbol_run {m} {n} h s i rest c r =
    let c' : Code m any (behind_gap space s) = code_gap space c in (
      state_behind i (piece space k.Sym (58 ∷ n)) s,
      token_flow space k.Sym 58 n c.opens (refl, tt) refl (symbol_lexeme s n rest h r) refl,
      record { opens = c'.opens; brackets = c'.brackets; after = refl },
    )
