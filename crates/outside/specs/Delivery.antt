-- How a write of many bytes ended.
use Rattle.std.specs.Prelude.{◌≡◌, ℕ, ◌<◌, Bool, true, false, List, Option, length, take}
use Rattle.outside.specs.Told.{appended}
use Rattle.outside.specs.declared.writing.Delivery.{Delivery}
use Rattle.outside.specs.declared.writing.Delivery.TheVariants.{Whole, Failed}

-- one of the writes failed
abbrev pub delivery_failed : Delivery → Bool
delivery_failed Whole = false
delivery_failed Failed = true

-- Whole adds all of the bytes to what was written. Failed adds some of them, from the front, and not all.
abbrev pub Sends : Delivery → (bytes : List ℕ) → (before now : Option (List ℕ)) → Type 0
Sends Whole bytes before now = now ≡ appended before bytes
Sends Failed bytes before now = (n : ℕ) × (n < length bytes) × (now ≡ appended before (take n bytes))
