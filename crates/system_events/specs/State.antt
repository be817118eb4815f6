-- The state of a system: its history, and what follows from it.
use Rattle.std.specs.Prelude.{ℕ, Bool, true, false, ◌||◌, List, [], ◌∷◌, length, Option, Some, None, slice_get}
use Rattle.system_seats.specs.declared.guard.Purpose.{Purpose}
use Rattle.system_seats.specs.declared.guard.Purpose.TheVariants.{Load as For-Load, Unload as For-Unload}
use Rattle.system_seats.specs.Seats.{Seats, mark}
use Rattle.system_events.specs.declared.event.Counts.{Counts}
use Rattle.system_events.specs.declared.event.Want.{Want}
use Rattle.system_events.specs.declared.event.Want.TheVariants.{Load, Unload}
use Rattle.system_events.specs.declared.event.Entry.{Entry}
use Rattle.system_events.specs.declared.event.Kept.{Kept}
use Rattle.system_events.specs.declared.event.Kept.TheVariants.{Seek, Take, Begin}
use Rattle.system_events.specs.Facts.{Facts}

-- M is the matter's type; the others are those of `Facts`.
pub record State (M T V P Q R F : Type 0) : Type 0 where
  pub history : List (Entry M T V P Q R F)
  -- the lock, and for each seat the places of its running Begin and of the entry that opened its section
  pub seats : Seats
  -- the tasks that were defined since the last Reload, with their values
  pub table : List (T × V)
  pub counts : Counts M T V P Q R F

-- the place of the next entry
abbrev pub next_place : {M T V P Q R F : Type 0} → State M T V P Q R F → ℕ
next_place s = length s.history

module _ {M T V P Q R F : Type 0} where
  -- what an entry opens a section for, if it is a Seek or a Take
  abbrev pub want_of : Kept M T V P Q R F → Option (Want M T V P Q R F)
  want_of (Seek want) = Some want
  want_of (Take want) = Some want
  want_of _ = None

  -- what the entry at a place opened a section for
  abbrev pub entry_want : Option (Entry M T V P Q R F) → Option (Want M T V P Q R F)
  entry_want None = None
  entry_want (Some entry) = want_of entry.kept

  -- the want of the section that the entry at a place opened
  abbrev pub want_at : List (Entry M T V P Q R F) → Option ℕ → Option (Want M T V P Q R F)
  want_at history None = None
  want_at history (Some place) = entry_want (slice_get history place)

  -- the want of the seat's section
  abbrev pub section_want : State M T V P Q R F → ℕ → Option (Want M T V P Q R F)
  section_want s k = want_at s.history (mark s.seats k).section

  -- the request that an entry begins
  abbrev pub begun_by : Kept M T V P Q R F → Option Q
  begun_by (Begin request) = Some request
  begun_by _ = None

  -- the request that the entry at a place begins
  abbrev pub entry_request : Option (Entry M T V P Q R F) → Option Q
  entry_request None = None
  entry_request (Some entry) = begun_by entry.kept

  -- the request of the Begin at a place
  abbrev pub request_at : List (Entry M T V P Q R F) → Option ℕ → Option Q
  request_at history None = None
  request_at history (Some place) = entry_request (slice_get history place)

  -- the request that the seat runs
  abbrev pub running_request : State M T V P Q R F → ℕ → Option Q
  running_request s k = request_at s.history (mark s.seats k).running

  -- a load or an unload
  abbrev pub purpose_of : Want M T V P Q R F → Purpose
  purpose_of (Load task) = For-Load
  purpose_of Unload = For-Unload

module _ {T V P Q R F : Type 0} (f : Facts T V P Q R F) where
  -- the table has the task
  abbrev pub is_in : T → List (T × V) → Bool
  is_in task [] = false
  is_in task (pair ∷ pairs) = f.same_task pair.0 task || is_in task pairs

module _ {M T V P Q R F : Type 0} (f : Facts T V P Q R F) where
  -- a load of a task that the table has
  abbrev pub in_table : State M T V P Q R F → Want M T V P Q R F → Bool
  in_table s (Load task) = is_in f task s.table
  in_table s Unload = false

  -- two wants are the same
  abbrev pub same_want : Want M T V P Q R F → Want M T V P Q R F → Bool
  same_want (Load a) (Load b) = f.same_task a b
  same_want (Load a) Unload = false
  same_want Unload (Load b) = false
  same_want Unload Unload = true

  -- there is a want, and it is this one
  abbrev pub is_that : Want M T V P Q R F → Option (Want M T V P Q R F) → Bool
  is_that want None = false
  is_that want (Some other) = same_want other want

  -- the seat's section is this want
  abbrev pub is_wanted : State M T V P Q R F → ℕ → Want M T V P Q R F → Bool
  is_wanted s k want = is_that want (section_want s k)
