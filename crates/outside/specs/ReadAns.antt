-- What the answer of a read says of a source.
use Rattle.std.specs.Prelude.{◌≡◌, ◌≢◌, ℕ, ◌≤◌, Bool, true, false, List, [], Option, take, ⊤}
use Rattle.outside.specs.Told.{prefixed}
use Rattle.outside.specs.declared.answers.ReadAns.{ReadAns}
use Rattle.outside.specs.declared.answers.ReadAns.TheVariants.{Got, End, Failed}

-- the read counts as a fault
abbrev pub read_failed : ReadAns → Bool
read_failed (Got n) = false
read_failed End = false
read_failed Failed = true

-- a piece has at least one byte, and at most as many as there is room for
abbrev pub FitsRoom : ReadAns → (room : ℕ) → Type 0
FitsRoom (Got n) room = (1 ≤ n) × (n ≤ room)
FitsRoom End room = ⊤
FitsRoom Failed room = ⊤

-- Got(n) takes the first n bytes that were left, and they stand at the beginning of the slice. End and Failed take
-- nothing.
abbrev pub Takes : ReadAns → (slice : List ℕ) → (before now : Option (List ℕ)) → Type 0
Takes (Got n) slice before now = before ≡ prefixed (take n slice) now
Takes End slice before now = now ≡ before
Takes Failed slice before now = now ≡ before

-- A read that doesn't fail answers End exactly where nothing is left.
abbrev pub EndsWhereNothingIsLeft : ReadAns → (left : List ℕ) → Type 0
EndsWhereNothingIsLeft (Got n) left = left ≢ []
EndsWhereNothingIsLeft End left = left ≡ []
EndsWhereNothingIsLeft Failed left = ⊤

-- a piece has this size
abbrev pub GetsPiece : ReadAns → (size : ℕ) → Type 0
GetsPiece (Got n) size = n ≡ size
GetsPiece End size = ⊤
GetsPiece Failed size = ⊤
