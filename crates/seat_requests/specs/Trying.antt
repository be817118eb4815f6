-- What the guards say of an act.
use Rattle.std.specs.Prelude.{Bool, true, false, if◌then◌else◌, Option, Some, None}
use Rattle.system_seats.specs.declared.guard.Guard.{Guard}
use Rattle.system_seats.specs.declared.guard.Guard.TheVariants.{RequestsFull, RepliesFull, GenerationsFull, KeptFull}

-- a guard that tells a limit of requests, replies, generations or kept bytes
abbrev pub is_limit : Guard → Bool
is_limit (RequestsFull most) = true
is_limit (RepliesFull bytes) = true
is_limit (GenerationsFull most) = true
is_limit (KeptFull bytes) = true
is_limit _ = false

-- an act passes all its guards, or is refused by one, which may be a limit
pub data Verdict : Type 0 where
  Passes : Verdict
  IsRefused : Verdict
  IsLimited : Verdict

-- what the first guard that is true says, if there is one
abbrev pub verdict : Option Guard → Verdict
verdict None = Passes
verdict (Some guard) = if is_limit guard then IsLimited else IsRefused
