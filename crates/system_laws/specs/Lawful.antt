-- What holds in every state after a legal history, and of every legal history.
use Rattle.std.specs.Prelude.{◌≡◌, ◌≢◌, ℕ, ◌<◌, ◌⊎◌, true, false, ◌&&◌, List, [], ◌∷◌, ◌++◌, Some, None}
use Rattle.std.specs.Prelude.{is_some, slice_get}
use Rattle.share_lock.specs.declared.seat.Phase.TheVariants.{Seeking, Releasing}
use Rattle.share_lock.specs.Rows.{waits_without}
use Rattle.system_seats.specs.declared.guard.Marks.{Marks}
use Rattle.system_seats.specs.Seats.{Seats, mark, row, runs_at, is_owner, is_calm, purpose_bit}
use Rattle.system_seats.specs.Effects.{purpose_of_section}
use Rattle.system_events.specs.declared.event.Want.{Want}
use Rattle.system_events.specs.declared.event.Entry.{Entry}
use Rattle.system_events.specs.declared.event.Kept.{Kept}
use Rattle.system_events.specs.declared.event.Kept.TheVariants.{Take, Define, Reload}
use Rattle.system_events.specs.Facts.{Facts}
use Rattle.system_events.specs.State.{State, is_in, want_at, section_want, purpose_of}
use Rattle.system_events.specs.Guards.{guard_of}
use Rattle.system_events.specs.Steps.{IsNeeded}
use Rattle.system_events.specs.Legal.{after}

-- EXCLUSION AND STABILITY

-- what the seats keep of one another
pub record IsExclusive (s : Seats) : Type 0 where
  -- beside an exclusive seat no other one has shares
  pub alone : (owner k : ℕ) → is_owner s owner ≡ true → k ≢ owner → (row s k).shares ≡ 0
  -- a seat that runs has a share, or waits with a list that lacks unloads
  pub holds_on : (k : ℕ) → runs_at s k ≡ true → (0 < (row s k).shares) ⊎ (waits_without 1 (row s k) ≡ true)
  -- while a seat is exclusive for an unload, which is a section of a seat that runs nothing, no seat runs
  pub quiet : (owner k : ℕ) → is_owner s owner ≡ true → runs_at s owner ≡ false → runs_at s k ≡ false
  -- whoever waits admits loads
  pub admits_loads : (k : ℕ) → waits_without 0 (row s k) ≡ false
  -- a seat is exclusive exactly where its phase is Calm and it has a section
  pub shows : (k : ℕ) → is_owner s k ≡ (is_calm (row s k).phase && is_some (mark s k).section)
  -- a seat that seeks has a section of that purpose: a load where it runs, an unload where it doesn't
  pub seeks : (k purpose : ℕ) → (row s k).phase ≡ Seeking purpose →
      (is_some (mark s k).section ≡ true) × (purpose ≡ purpose_bit (purpose_of_section (mark s k)))
  -- a seat that waits after a release has none
  pub leaves : (k list : ℕ) → (row s k).phase ≡ Releasing list → (mark s k).section ≡ None

-- SECTIONS AND RUNS

module _ {M T V P Q R F : Type 0} where
  -- an open section was opened by an entry with its want: a load where the seat runs, an unload where it doesn't
  abbrev pub IsOpened : List (Entry M T V P Q R F) → Marks → Type 0
  IsOpened history m =
      (place : ℕ) → m.section ≡ Some place →
      (want : Want M T V P Q R F)
      × ((want_at history (Some place) ≡ Some want) × (purpose_of want ≡ purpose_of_section m))

  -- each open section was
  abbrev pub AreOpened : State M T V P Q R F → Type 0
  AreOpened s = (k : ℕ) → IsOpened s.history (mark s.seats k)

  -- the entry is no Reload
  abbrev pub IsNoReload : Kept M T V P Q R F → Type 0
  IsNoReload (Reload program) = ⊥
  IsNoReload _ = Unit {0}

  -- no Reload stands after the Begin of a request that runs
  abbrev pub AreSteady : State M T V P Q R F → Type 0
  AreSteady s =
      (k place later : ℕ) (entry : Entry M T V P Q R F) → (mark s.seats k).running ≡ Some place → place < later →
      slice_get s.history later ≡ Some entry → IsNoReload entry.kept

-- WHO MAY TAKE

module _ {M T V P Q R F : Type 0} (f : Facts T V P Q R F) where
  -- Where no seat is exclusive and none has a share, each seat that seeks a load may take it: no guard of its Take is
  -- true.
  abbrev pub MayTake : State M T V P Q R F → Type 0
  MayTake s =
      (k : ℕ) (want : Want M T V P Q R F) → s.seats.lock.exclusive ≡ None →
      ((j : ℕ) → (row s.seats j).shares ≡ 0) → (row s.seats k).phase ≡ Seeking 0 → section_want s k ≡ Some want →
      guard_of f s k (Take want) ≡ None

-- THE TABLE

module _ {T V P Q R F : Type 0} (f : Facts T V P Q R F) where
  -- each pair is known of the program
  abbrev pub AllKnown : P → List (T × V) → Type 0
  AllKnown program [] = Unit {0}
  AllKnown program (pair ∷ pairs) = (f.known program pair.0 ≡ Some pair.1) × AllKnown program pairs

  -- no task stands twice
  abbrev pub AllApart : List (T × V) → Type 0
  AllApart [] = Unit {0}
  AllApart (pair ∷ pairs) = (is_in f pair.0 pairs ≡ false) × AllApart pairs

  -- the table is part of what is known, and has no task twice
  abbrev pub IsTable : P → List (T × V) → Type 0
  IsTable program table = AllKnown program table × AllApart table

module _ {M T V P Q R F : Type 0} (f : Facts T V P Q R F) where
  -- none of the entries is a Reload
  abbrev pub NoReload : List (Entry M T V P Q R F) → Type 0
  NoReload [] = Unit {0}
  NoReload (entry ∷ entries) = IsNoReload entry.kept × NoReload entries

  -- between two Reloads no task is defined twice
  abbrev pub DefinesOnce : List (Entry M T V P Q R F) → Type 0
  DefinesOnce history =
      (before between later : List (Entry M T V P Q R F)) (j k : ℕ) (a b : T) →
      history ≡ (before ++ (record { seat = j; kept = Define a }) ∷ between)
      ++ (record { seat = k; kept = Define b }) ∷ later →
      NoReload between → f.same_task a b ≡ false

  -- each Define is of a task that the sought task needs, and that is known of the program in force
  abbrev pub DefinesNeeded : ℕ → List (Entry M T V P Q R F) → Type 0
  DefinesNeeded seats history =
      (before later : List (Entry M T V P Q R F)) (k : ℕ) (task : T) →
      history ≡ before ++ (record { seat = k; kept = Define task }) ∷ later →
      IsNeeded f (after f seats before) k task
