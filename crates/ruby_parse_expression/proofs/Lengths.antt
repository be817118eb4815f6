-- How many words are left.
use Rattle.std.proofs.Common.{◌≡◌, ℕ, ◌<◌, ◌≤◌, List, [], ◌∷◌, length, ap, arith}
use Rattle.ruby_parse_steps.proofs.WordLaws.{skip_falls}
use Rattle.ruby_grammar.specs.Words.{Word}

-- Behind a word that was taken fewer words are left.
pub word_falls : (w : Word) (ws mid : List Word) → ws ≡ w ∷ mid → length mid < length ws
word_falls w ws mid e = omega (arith, ap length e)

-- Fewer than at most so many is at most so many.
pub less_than_most : {m n k : ℕ} → m < n → n ≤ k → m ≤ k
less_than_most h g = omega arith

-- Fewer is at most as many.
pub less_is_most : {m n : ℕ} → m < n → m ≤ n
less_is_most h = omega arith

-- what stands in brackets is shorter
pub inside_falls : {a b c d : ℕ} → b < a → c ≤ b → d < c → d < a
inside_falls h g k = omega arith

-- Fewer than fewer is fewer.
pub falls : {a b c : ℕ} → b < a → a < c → b < c
falls h g = omega arith

-- As many words are at most as many.
pub same_length : (ws : List Word) → length ws ≤ length ws
same_length ws = omega arith

-- At most as many as fewer is fewer.
pub no_longer : {a b c : ℕ} → b ≤ a → a < c → b < c
no_longer h g = omega arith
