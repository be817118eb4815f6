-- What workers owe for the connections that they took.
use Rattle.std.specs.Prelude.{◌≡◌, ℕ, ◌+◌, List, [], ◌∷◌, Option, All, IfSome}

-- each link that is told is answered
abbrev pub TellsAnswered : {L : Type 0} → (L → Type 0) → Option (List L) → Type 0
TellsAnswered answered told = IfSome told (All answered)

-- what each closer tells is answered
abbrev pub AllTellAnswered : {C L : Type 0} → (L → Type 0) → (C → Option (List L)) → List C → Type 0
AllTellAnswered answered told closers = All (λ closer. TellsAnswered answered (told closer)) closers

-- how many links these closers got together
abbrev pub links_got : {C : Type 0} → (C → ℕ) → List C → ℕ
links_got count [] = 0
links_got count (closer ∷ closers) = count closer + links_got count closers

-- a list of the same length, with the same room
pub record SameRoom (len room len' room' : ℕ) : Type 0 where
  pub same_len : len' ≡ len
  pub same_room : room' ≡ room
