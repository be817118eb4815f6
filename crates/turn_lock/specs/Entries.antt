-- Words on histories: which numbers their entries have, and which list is a beginning of which.
use Rattle.std.specs.Prelude.{◌≡◌, ◌≢◌, ℕ, ◌≤◌, nat_le, if◌then◌else◌, List, [], ◌∷◌, ◌++◌, length}

-- a list begins with another
abbrev pub Begins : {E : Type 0} → List E → List E → Type 0
Begins {E} front log = (more : List E) × (log ≡ front ++ more)

-- the longer of two lists, and the first where they are equally long
abbrev pub longer : {E : Type 0} → List E → List E → List E
longer xs ys = if nat_le (length ys) (length xs) then xs else ys

module _ {E : Type 0} (seat_of : E → ℕ) where
  -- none of these entries has the number k
  abbrev pub NoneOf : ℕ → List E → Type 0
  NoneOf k [] = Unit {0}
  NoneOf k (e ∷ es) = (seat_of e ≢ k) × NoneOf k es

  -- the numbers of these entries are below n
  abbrev pub NoneFrom : ℕ → List E → Type 0
  NoneFrom n es = (k : ℕ) → n ≤ k → NoneOf k es

  -- the log begins with what was seen, and has no entry of the number k after that beginning
  pub record Lags (k : ℕ) (seen log : List E) : Type 0 where
    pub more : List E
    pub is : log ≡ seen ++ more
    pub none : NoneOf k more
