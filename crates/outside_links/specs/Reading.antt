-- What the answer of a read says of the bytes that were read.
use Rattle.std.specs.Prelude.{◌≡◌, ℕ, List, Option, take}
use Rattle.outside.specs.Told.{appended}
use Rattle.outside.specs.declared.answers.ReadAns.{ReadAns}
use Rattle.outside.specs.declared.answers.ReadAns.TheVariants.{Got, End, Failed}

-- Got(n) adds the first n bytes of the slice to what was read. End and Failed add nothing.
abbrev pub Reads : ReadAns → (slice : List ℕ) → (before now : Option (List ℕ)) → Type 0
Reads (Got n) slice before now = now ≡ appended before (take n slice)
Reads End slice before now = now ≡ before
Reads Failed slice before now = now ≡ before
