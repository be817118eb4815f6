-- The guards of each event's row, in order.
use Rattle.std.specs.Prelude.{ℕ, ◌+◌, nat_lt, not, Option, Some, None}
use Rattle.system_seats.specs.declared.guard.Guard.{Guard}
use Rattle.system_seats.specs.declared.guard.Guard.TheVariants.{InTable, SameStamps, GenerationsFull, KeptFull}
use Rattle.system_seats.specs.declared.guard.Guard.TheVariants.{RequestsFull, RepliesFull, Running}
use Rattle.system_seats.specs.Seats.{runs_at}
use Rattle.system_seats.specs.Guards.{◌when◌else◌, share_guard, unshare_guard, yield_guard, retake_guard, seek_guard}
use Rattle.system_seats.specs.Guards.{take_guard, release_guard, resume_guard, begin_guard, end_guard, define_guard}
use Rattle.system_seats.specs.Guards.{reload_guard}
use Rattle.system_events.specs.declared.event.Cause.{Cause}
use Rattle.system_events.specs.declared.event.Cause.TheVariants.{Memory}
use Rattle.system_events.specs.declared.event.Kept.{Kept}
use Rattle.system_events.specs.declared.event.Kept.TheVariants.{Share, Unshare, Yield, Retake, Seek, Take, Release}
use Rattle.system_events.specs.declared.event.Kept.TheVariants.{Resume, Define, Reload, Begin, End, Refuse}
use Rattle.system_events.specs.declared.event.Counts.{Counts}
use Rattle.system_events.specs.Facts.{Facts, capped}
use Rattle.system_events.specs.State.{State, is_in, purpose_of, in_table, is_wanted}

infixr 2 ◌orElse◌
-- the first guard that is true, or where none of them is, the ones that follow
abbrev pub ◌orElse◌ : Option Guard → Option Guard → Option Guard
None orElse others = others
(Some guard) orElse others = Some guard

-- a sum of bytes, or the greatest number of 64 bits where it is greater
abbrev pub sum_bytes : ℕ → ℕ → ℕ
sum_bytes a b = capped (a + b)

module _ {M T V P Q R F : Type 0} (f : Facts T V P Q R F) where
  -- the kept changed bytes with one program more
  abbrev pub changed_with : Counts M T V P Q R F → P → ℕ
  changed_with c program = sum_bytes c.changed_bytes (capped (f.changed_bytes c.program program))

  -- A Reload needs other stamps than those in force, a generation below 4,096 in force, and 512 MiB of kept changed
  -- bytes at most with it.
  abbrev pub reload_limits : Counts M T V P Q R F → P → Option Guard
  reload_limits c program =
      SameStamps when f.same_stamps program c.program else
      GenerationsFull 4096 when not (nat_lt c.generation 4096) else
      KeptFull (changed_with c program) when nat_lt 536870912 (changed_with c program) else
      None

-- A request needs fewer than 100,000 before it, and less than 256 MiB of kept reply bytes.
abbrev pub request_limits : {M T V P Q R F : Type 0} → Counts M T V P Q R F → Option Guard
request_limits c =
    RequestsFull 100000 when not (nat_lt c.requests 100000) else
    RepliesFull c.reply_bytes when not (nat_lt c.reply_bytes 268435456) else
    None

module _ {M T V P Q R F : Type 0} (f : Facts T V P Q R F) where
  -- For want of memory a running request is refused, where it could end. For any other cause the seat runs none.
  abbrev pub refuse_guard : State M T V P Q R F → ℕ → Cause M T V P Q R F → Option Guard
  refuse_guard s k Memory = end_guard s.seats k
  refuse_guard s k _ = Running when runs_at s.seats k else request_limits s.counts

  -- the first guard of the row that is true
  abbrev pub guard_of : State M T V P Q R F → ℕ → Kept M T V P Q R F → Option Guard
  guard_of s k Share = share_guard s.seats k
  guard_of s k Unshare = unshare_guard s.seats k
  guard_of s k Yield = yield_guard s.seats k
  guard_of s k Retake = retake_guard s.seats k
  guard_of s k (Seek want) = seek_guard s.seats k (purpose_of want) (in_table f s want)
  guard_of s k (Take want) = take_guard s.seats k (purpose_of want) (in_table f s want) (is_wanted f s k want)
  guard_of s k Release = release_guard s.seats k
  guard_of s k Resume = resume_guard s.seats k
  guard_of s k (Define task) = define_guard s.seats k orElse InTable when is_in f task s.table else None
  guard_of s k (Reload program) = reload_guard s.seats k orElse reload_limits f s.counts program
  guard_of s k (Begin request) = begin_guard s.seats k orElse request_limits s.counts
  guard_of s k (End reply) = end_guard s.seats k
  guard_of s k (Refuse cause) = refuse_guard s k cause
