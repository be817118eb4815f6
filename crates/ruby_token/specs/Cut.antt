-- How a file is cut into tokens: at each place the longest lexeme is taken, up to the first fault.
use Rattle.std.specs.Prelude.{◌≡◌, ℕ, ◌+◌, ◌≤◌, Bool, true, false, List, [], ◌∷◌, ◌++◌, Option, Some, None, length}
use Rattle.std.specs.Prelude.{take, ◌==◌, ◌&&◌, not, if◌then◌else◌}
use Rattle.std.specs.Str.Lossy.{utf8_valid_len}
use Rattle.ruby_token.specs.declared.token.TokenKind.{TokenKind}
use Rattle.ruby_token.specs.declared.token.TokenKind.TheVariants as k
use Rattle.ruby_token.specs.declared.token.Token.{Token}
use Rattle.ruby_token.specs.declared.fault.LexKind.{LexKind}
use Rattle.ruby_token.specs.declared.fault.LexKind.TheVariants as f
use Rattle.ruby_token.specs.declared.fault.LexFault.{LexFault}
use Rattle.ruby_token.specs.declared.opens.Quote.{Quote}
use Rattle.ruby_token.specs.declared.state.State.{State}
use Rattle.ruby_token.specs.Opens.{text_at, outermost}
use Rattle.ruby_token.specs.Number.{is_in_range}
use Rattle.ruby_token.specs.State.{start, state_past, state_after}
use Rattle.ruby_token.specs.Lexemes.{What, gap, token, Is}

-- All tokens, or the tokens before the first fault, its kind and its place.
pub data Outcome : Type 0 where
  done : List Token → Outcome
  fault : List Token → LexKind → ℕ → Outcome

-- the same with these tokens before
abbrev pub put : List Token → Outcome → Outcome
put ts (done us) = done (ts ++ us)
put ts (fault us kind n) = fault (ts ++ us) kind n

-- No lexeme at this place is longer.
pub record Longest (s : State) (w : What) (t r : List ℕ) : Type 0 where
  pub is : Is s w t r
  pub longest : (w' : What) (t' r' : List ℕ) → Is s w' t' r' → t' ++ r' ≡ t ++ r → length t' ≤ length t

-- No lexeme begins here.
abbrev pub NoLexeme : State → List ℕ → Type 0
NoLexeme s bs = (w : What) (t r : List ℕ) → Is s w t r → t ++ r ≡ bs → ⊥

-- at the file's end: a fault at an open text's quote, or all is well
abbrev pub open_text : Option ℕ → Outcome
open_text None = done []
open_text (Some quote) = fault [] f.OpenText quote

-- At the end of the bytes that are UTF-8: the flag says that the file ends there. An open text is at fault, the
-- outermost
-- of several; where the file goes on, its next byte is.
abbrev pub at_end : Bool → State → ℕ → Outcome
at_end whole s n = if whole then open_text (outermost s.opens) else fault [] f.BadByte n

-- one byte is left, the file's last
abbrev pub is_last : List ℕ → Bool
is_last bs = length bs == 1

-- Where no lexeme begins: in code a byte that begins no token; in a text a backslash before a byte that it doesn't
-- escape,
-- but the file's last byte leaves its text open.
abbrev pub stuck_in : Option Quote → Bool → State → ℕ → List ℕ → Outcome
stuck_in None whole s n bs = fault [] f.BadByte n
stuck_in (Some q) whole s n bs = if whole && is_last bs then at_end whole s n else fault [] f.BadEscape n

-- how the cut ends where no lexeme begins, by the text that the place stands in
abbrev pub stuck_at : Bool → State → ℕ → List ℕ → Outcome
stuck_at whole s n bs = stuck_in (text_at s.opens) whole s n bs

-- a number that is out of range
abbrev pub is_big : TokenKind → List ℕ → Bool
is_big k.Int text = not (is_in_range text)
is_big _ text = false

-- From this state and this place on the bytes are cut so.
pub data Cut (whole : Bool) : State → ℕ → List ℕ → Outcome → Type 0 where
  ends : {s : State} {n : ℕ} → Cut whole s n [] (at_end whole s n)
  passes : {s : State} {n : ℕ} {t r bs : List ℕ} {o : Outcome} → Longest s gap t r → bs ≡ t ++ r →
      Cut whole (state_past t s) (n + length t) r o → Cut whole s n bs o
  gives : {s : State} {n : ℕ} {kind : TokenKind} {t r bs : List ℕ} {o : Outcome} → Longest s (token kind) t r →
      bs ≡ t ++ r → is_big kind t ≡ false → Cut whole (state_after kind t n s) (n + length t) r o →
      Cut whole s n bs (put (record { kind = kind; from = n; to = n + length t } ∷ []) o)
  big : {s : State} {n : ℕ} {kind : TokenKind} {t r bs : List ℕ} → Longest s (token kind) t r → bs ≡ t ++ r →
      is_big kind t ≡ true → Cut whole s n bs (fault [] f.BigNumber n)
  stuck : {s : State} {n b : ℕ} {bs : List ℕ} → NoLexeme s (b ∷ bs) →
      Cut whole s n (b ∷ bs) (stuck_at whole s n (b ∷ bs))

-- the longest front of these bytes that is UTF-8
abbrev pub utf8_front : List ℕ → List ℕ
utf8_front bytes = take (utf8_valid_len bytes) bytes

-- all of them are UTF-8
abbrev pub is_all_utf8 : List ℕ → Bool
is_all_utf8 bytes = utf8_valid_len bytes == length bytes

-- A file's bytes are cut so: into all its tokens, or into those before its first fault.
abbrev pub Lexes : List ℕ → Outcome → Type 0
Lexes bytes o = Cut (is_all_utf8 bytes) start 0 (utf8_front bytes) o

-- ---- what the calls answer

-- tokens, and the fault behind them if there is one
abbrev pub with_fault : List Token → Option LexFault → Outcome
with_fault ts None = done ts
with_fault ts (Some e) = fault ts e.kind e.at

-- this fault of this outcome, whatever the tokens before it; want of memory may come anywhere
abbrev pub IsFaultOf : Outcome → LexKind → ℕ → Type 0
IsFaultOf (done ts) kind n = ⊥
IsFaultOf (fault ts kind n) kind' n' = (kind' ≡ kind) × (n' ≡ n)

-- this fault is the outcome's, by kind and place; or it is want of memory, told at 0 whatever the outcome
abbrev pub FaultGives : LexKind → ℕ → Outcome → Type 0
FaultGives f.Memory n o = n ≡ 0
FaultGives f.BadByte n o = IsFaultOf o f.BadByte n
FaultGives f.OpenText n o = IsFaultOf o f.OpenText n
FaultGives f.BigNumber n o = IsFaultOf o f.BigNumber n
FaultGives f.BadEscape n o = IsFaultOf o f.BadEscape n
