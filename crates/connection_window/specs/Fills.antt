-- A window on bytes, and how it is filled from a link.
use Rattle.std.specs.Prelude.{◌≡◌, ℕ, ◌-◌, ◌≤◌, Bool, true, false, List, [], ◌++◌, length, take, drop, Option, IfSome}
use Rattle.outside.specs.Told.{appended, prefixed}
use Rattle.connection_window.specs.declared.window.Filled.{Filled}
use Rattle.connection_window.specs.declared.window.Filled.TheVariants.{Got, End, Failed}

-- the bytes from one place up to another
abbrev pub window : List ℕ → (from to : ℕ) → List ℕ
window bytes from to = take (to - from) (drop from bytes)

-- the read that was to fill it failed
abbrev pub fill_failed : Filled → Bool
fill_failed Got = false
fill_failed End = false
fill_failed Failed = true

-- A piece of at least one byte was taken from what the link had left, counts as read there, and stands behind the
-- bytes that were in the window.
pub record TakesPiece (old new : List ℕ) (left_old left_new read_old read_new : Option (List ℕ)) : Type 0 where
  pub piece : List ℕ
  pub some : 1 ≤ length piece
  pub behind : new ≡ old ++ piece
  pub left : left_old ≡ prefixed piece left_new
  pub read : read_new ≡ appended read_old piece

-- Nothing was taken, and the window is as it was.
pub record TakesNothing (old new : List ℕ) (left_old left_new read_old read_new : Option (List ℕ)) : Type 0 where
  pub same : new ≡ old
  pub left : left_new ≡ left_old
  pub read : read_new ≡ read_old

-- Got takes a piece. End and Failed take nothing, and at End a link that tells has nothing left.
abbrev pub Fills : Filled → (old new : List ℕ) → (left_old left_new read_old read_new : Option (List ℕ)) → Type 0
Fills Got old new lo ln ro rn = TakesPiece old new lo ln ro rn
Fills End old new lo ln ro rn = TakesNothing old new lo ln ro rn × IfSome lo (λ left. left ≡ [])
Fills Failed old new lo ln ro rn = TakesNothing old new lo ln ro rn
