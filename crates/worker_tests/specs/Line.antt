-- Heads of two bytes, a letter and a line end.
use Rattle.std.specs.Prelude.{◌≡◌, ℕ, ◌≤◌, ◌<◌, Bool, true, false, cond, List, [], ◌∷◌, ◌++◌, length, nat_eq, None, ⊤}
use Rattle.std.proofs.Common.{arith, refl, sym, ◌∙◌, subst}
use Rattle.connection_items.specs.declared.heads.Reading.{Reading}
use Rattle.connection_items.specs.declared.heads.Reading.TheVariants.{Whole, More, Bad, Long, Many, Memory}
use Rattle.connection_items.specs.declared.heads.Manner.{Manner}
use Rattle.connection_items.specs.declared.heads.Unreadable.{Unreadable}
use Rattle.connection_items.specs.declared.heads.Unreadable.TheVariants as unreadable
use Rattle.connection_items.specs.Exchanges.{Standing}
use Rattle.connection_items.specs.Rules.{Rules, IsLawful, IsHopeless}

-- what two bytes are, where these are the answers to: is the second one a line end, an l, an m
abbrev pub kind_of : (ends is_l is_m : Bool) → ℕ → Reading ℕ
kind_of true is_l is_m x = Whole 2 x
kind_of false true is_m x = Long
kind_of false false true x = Many
kind_of false false false x = Bad

-- what bytes are
abbrev pub head_of : List ℕ → Reading ℕ
head_of [] = More
head_of (x ∷ []) = More
head_of (x ∷ (y ∷ rest)) = kind_of (nat_eq y 10) (nat_eq y 108) (nat_eq y 109) x

-- C asks to close, B announces a body, H wants no body
abbrev pub manner_of : ℕ → Manner
manner_of letter = record { close = nat_eq letter 67; body = nat_eq letter 66; head_only = nat_eq letter 72 }

-- c where it closes, else -, and then the letter
abbrev pub response_of : ℕ → (closes head_only : Bool) → List ℕ
response_of letter closes head_only = cond closes 99 45 ∷ cond head_only [] (letter ∷ [])

-- one letter for each fault
abbrev pub refusal_of : Unreadable → List ℕ
refusal_of unreadable.Bad = 98 ∷ []
refusal_of unreadable.Long = 108 ∷ []
refusal_of unreadable.Many = 109 ∷ []

-- the letters that were served are the items, the history and the entries
abbrev pub standing_of : List ℕ → Standing ℕ ℕ ℕ
standing_of items = record {
  items = items;
  seen = items;
  entries = items;
  given = None;
  hooks = 0;
  generation = 1;
}

-- Each head's item is its letter.
abbrev pub line_rules : Rules ℕ ℕ ℕ ℕ ℕ ℕ
line_rules = record {
  reads = λ bytes reading. head_of bytes ≡ reading;
  manner = manner_of;
  response = response_of;
  refusal = refusal_of;
  limit_response = λ limit generation head_only. 102 ∷ cond head_only [] (limit ∷ []);
  around = λ reloaded hooks. hooks;
  Promise = λ old x new. x.item ≡ x.head;
  Shortfall = λ old a limit new. ⊤;
}

size_at : (a b c : Bool) (x n p : ℕ) → kind_of a b c x ≡ Whole n p → n ≡ 2
size_at true b c x n p e = cc
size_at false true c x n p e = cc
size_at false false true x n p e = cc
size_at false false false x n p e = cc

not_more_at : (a b c : Bool) (x : ℕ) → kind_of a b c x ≡ More → ⊥
not_more_at true b c x e = cc
not_more_at false true c x e = cc
not_more_at false false true x e = cc
not_more_at false false false x e = cc

hopeless_at : (a b c : Bool) (x n p : ℕ) → IsHopeless (kind_of a b c x) → kind_of a b c x ≡ Whole n p → ⊥
hopeless_at true b c x n p h e = h
hopeless_at false true c x n p h e = cc
hopeless_at false false true x n p h e = cc
hopeless_at false false false x n p h e = cc

more_is_not_whole : (n p : ℕ) → More ≡ Whole n p → ⊥
more_is_not_whole n p e = cc

line_within : (b : List ℕ) (n p : ℕ) → head_of b ≡ Whole n p → (1 ≤ n) × (n ≤ length b)
line_within [] n p e = absurd (more_is_not_whole n p e)
line_within (x ∷ []) n p e = absurd (more_is_not_whole n p e)
line_within (x ∷ (y ∷ rest)) n p e =
    let two = size_at (nat_eq y 10) (nat_eq y 108) (nat_eq y 109) x n p e in (omega arith, omega arith)

line_grows : (b c : List ℕ) (n p : ℕ) → head_of b ≡ Whole n p → head_of (b ++ c) ≡ Whole n p
line_grows [] c n p e = absurd (more_is_not_whole n p e)
line_grows (x ∷ []) c n p e = absurd (more_is_not_whole n p e)
line_grows (x ∷ (y ∷ rest)) c n p e = e

line_short : (b : List ℕ) → head_of b ≡ More → length b < 16384
line_short [] e = omega arith
line_short (x ∷ []) e = omega arith
line_short (x ∷ (y ∷ rest)) e = absurd (not_more_at (nat_eq y 10) (nat_eq y 108) (nat_eq y 109) x e)

line_hopeless : (b c : List ℕ) (r : Reading ℕ) → IsHopeless r → head_of b ≡ r →
    (n p : ℕ) → head_of (b ++ c) ≡ Whole n p → ⊥
line_hopeless [] c r h e n p w = subst IsHopeless (sym e) h
line_hopeless (x ∷ []) c r h e n p w = subst IsHopeless (sym e) h
line_hopeless (x ∷ (y ∷ rest)) c r h e n p w =
    hopeless_at (nat_eq y 10) (nat_eq y 108) (nat_eq y 109) x n p (subst IsHopeless (sym e) h) w

some_refusal : (why : Unreadable) → 1 ≤ length (refusal_of why)
some_refusal unreadable.Bad = omega arith
some_refusal unreadable.Long = omega arith
some_refusal unreadable.Many = omega arith

-- these rules are as those of any language
pub line_lawful : IsLawful line_rules
line_lawful = record {
  unique = λ b r s e f. sym e ∙ f;
  within = line_within;
  grows = line_grows;
  short = line_short;
  hopeless = line_hopeless;
  empty = refl;
  speaks = λ item close head_only. omega arith;
  refuses = some_refusal;
  declines = λ limit generation head_only. omega arith;
}
