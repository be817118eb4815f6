-- Which names there are, as bytes.
use Rattle.std.specs.Prelude.{◌≡◌, ℕ, Bool, true, List, [], ◌∷◌, ◌++◌, ◌||◌, codes, bytes_eq, ℤ, pos, negsuc, ◌<◌, ◌^◌}
use Rattle.std.specs.Char.{is_ascii_uppercase}
use Rattle.ruby_token.specs.Bytes.{Every, is_word, is_lower, is_suffix}
use Rattle.ruby_grammar.specs.Terminals.{name_terminal}

-- a small letter or `_`, then letters, digits and `_`
pub data IsPlainName : List ℕ → Type 0 where
  plain_name : {b : ℕ} {t : List ℕ} → is_lower b ≡ true → Every is_word t → IsPlainName (b ∷ t)

-- the same, and perhaps one `?` or `!`
pub data IsName : List ℕ → Type 0 where
  unmarked : {n : List ℕ} → IsPlainName n → IsName n
  suffixed : {n : List ℕ} (q : ℕ) → IsPlainName n → is_suffix q ≡ true → IsName (n ++ q ∷ [])

-- a capital, then letters, digits and `_`
pub data IsConstName : List ℕ → Type 0 where
  capital : {b : ℕ} {t : List ℕ} → is_ascii_uppercase b ≡ true → Every is_word t → IsConstName (b ∷ t)

pub data IsSymbolName : List ℕ → Type 0 where
  of_name : {n : List ℕ} → IsName n → IsSymbolName n
  of_constant : {n : List ℕ} → IsConstName n → IsSymbolName n

-- a name that is no word of Ruby's own
pub record IsMethodName (n : List ℕ) : Type 0 where
  pub spelled : IsName n
  pub free : name_terminal n ≡ 0

-- one that can be a variable
pub record IsVariableName (n : List ℕ) : Type 0 where
  pub spelled : IsPlainName n
  pub free : name_terminal n ≡ 0

-- all of these are constant names, and there is one
abbrev pub EachConst : List (List ℕ) → Type 0
EachConst [] = Unit {0}
EachConst (n ∷ ns) = IsConstName n × EachConst ns

-- A path of constant names, at least one.
abbrev pub IsPath : List (List ℕ) → Type 0
IsPath [] = ⊥
IsPath (n ∷ ns) = IsConstName n × EachConst ns

-- a number from -2^63 to 2^63 - 1
abbrev pub IsInRange : ℤ → Type 0
IsInRange (pos n) = n < 2 ^ 63
IsInRange (negsuc n) = n < 2 ^ 63

-- the name of a call with two operands
abbrev pub is_operation : List ℕ → Bool
is_operation text =
    bytes_eq text (codes "*") || bytes_eq text (codes "/") || bytes_eq text (codes "%") || bytes_eq text
    (codes "+") || bytes_eq text (codes "-")
    || bytes_eq text (codes "<") || bytes_eq text (codes "<=") || bytes_eq text (codes ">") || bytes_eq text
    (codes ">=") || bytes_eq text (codes "==")
