-- What the answer of a write says of a sink.
use Rattle.std.specs.Prelude.{◌≡◌, ℕ, ◌≤◌, Bool, true, false, List, Option, take, ⊤}
use Rattle.outside.specs.Told.{appended}
use Rattle.outside.specs.declared.answers.WriteAns.{WriteAns}
use Rattle.outside.specs.declared.answers.WriteAns.TheVariants.{Took, Failed}

-- the write counts as a fault
abbrev pub write_failed : WriteAns → Bool
write_failed (Took n) = false
write_failed Failed = true

-- a sink takes at least one byte, and at most as many as it was offered
abbrev pub FitsOffer : WriteAns → (offered : ℕ) → Type 0
FitsOffer (Took n) offered = (1 ≤ n) × (n ≤ offered)
FitsOffer Failed offered = ⊤

-- Took(n) adds the first n bytes of the slice to what was written. Failed adds nothing.
abbrev pub Adds : WriteAns → (slice : List ℕ) → (before now : Option (List ℕ)) → Type 0
Adds (Took n) slice before now = now ≡ appended before (take n slice)
Adds Failed slice before now = now ≡ before

-- what is taken is all that was offered
abbrev pub TakesAll : WriteAns → (offered : ℕ) → Type 0
TakesAll (Took n) offered = n ≡ offered
TakesAll Failed offered = ⊤
