-- The table as a system keeps it: of each task the place of its Define, and the value.
use Rattle.std.specs.Prelude.{ℕ, zero, suc, ◌<◌, List, [], ◌∷◌, ◌++◌, length, Option, Some, None, Bool}
use Rattle.std.specs.Prelude.{false}
use Rattle.std.specs.Prelude.{if◌then◌else◌, slice_get}
use Rattle.system_events.specs.declared.event.Entry.{Entry}
use Rattle.system_events.specs.declared.event.Kept.{Kept}
use Rattle.system_events.specs.declared.event.Kept.TheVariants.{Define, Reload}
use Rattle.system_events.specs.Facts.{Facts}
use Rattle.system_core.specs.declared.fact.Fact.{Fact}

-- a task, if there is one, with this value
abbrev pub with_value : {T V : Type 0} → V → Option T → List (T × V)
with_value value None = []
with_value value (Some task) = (task, value) ∷ []

module _ {M T V P Q R F : Type 0} where
  -- the task that an entry defines
  abbrev pub defined_by : Kept M T V P Q R F → Option T
  defined_by (Define task) = Some task
  defined_by _ = None

  -- the task that the entry at a place defines
  abbrev pub entry_task : Option (Entry M T V P Q R F) → Option T
  entry_task None = None
  entry_task (Some entry) = defined_by entry.kept

  -- a fact's task
  abbrev pub fact_task : List (Entry M T V P Q R F) → Fact M T V P Q R F → Option T
  fact_task entries fact = entry_task (slice_get entries fact.place)

  -- a fact's task with its value
  abbrev pub pair_at : List (Entry M T V P Q R F) → Fact M T V P Q R F → List (T × V)
  pair_at entries fact = with_value fact.value (fact_task entries fact)

  -- the table that the facts stand for
  abbrev pub table_of : List (Entry M T V P Q R F) → List (Fact M T V P Q R F) → List (T × V)
  table_of entries [] = []
  table_of entries (fact ∷ facts) = pair_at entries fact ++ table_of entries facts

  -- the task of the fact at a place
  abbrev pub task_at : List (Entry M T V P Q R F) → List (Fact M T V P Q R F) → ℕ → Option T
  task_at entries [] i = None
  task_at entries (fact ∷ facts) zero = fact_task entries fact
  task_at entries (fact ∷ facts) (suc i) = task_at entries facts i

  -- each fact's place is one of the history
  abbrev pub IsPlaced : List (Entry M T V P Q R F) → List (Fact M T V P Q R F) → Type 0
  IsPlaced entries [] = Unit {0}
  IsPlaced entries (fact ∷ facts) = (fact.place < length entries) × IsPlaced entries facts

  -- a new fact, where there is a value
  abbrev pub new_fact : ℕ → Option V → List (Fact M T V P Q R F)
  new_fact place None = []
  new_fact place (Some value) = record { place = place; value = value } ∷ []

  -- the facts after an entry at this place
  abbrev pub facts_after :
      List (Fact M T V P Q R F) → Kept M T V P Q R F → Option V → ℕ → List (Fact M T V P Q R F)
  facts_after facts (Define task) value place = facts ++ new_fact place value
  facts_after facts (Reload program) value place = []
  facts_after facts _ value place = facts

module _ {T V P Q R F : Type 0} (f : Facts T V P Q R F) where
  -- there is a task, and it is this one
  abbrev pub names : T → Option T → Bool
  names task None = false
  names task (Some other) = f.same_task other task

  -- the value of a task of the table
  abbrev pub lookup : T → List (T × V) → Option V
  lookup task [] = None
  lookup task (pair ∷ pairs) = if f.same_task pair.0 task then Some pair.1 else lookup task pairs

  -- the number by which a task is looked up
  abbrev pub hash_of : Option T → ℕ
  hash_of None = 0
  hash_of (Some task) = f.hash task

  -- a new hash, where there is a value
  abbrev pub new_hash : T → Option V → List ℕ
  new_hash task None = []
  new_hash task (Some value) = f.hash task ∷ []

module _ {M T V P Q R F : Type 0} (f : Facts T V P Q R F) where
  -- the hashes of the facts' tasks
  abbrev pub hashes_of : List (Entry M T V P Q R F) → List (Fact M T V P Q R F) → List ℕ
  hashes_of entries [] = []
  hashes_of entries (fact ∷ facts) = hash_of f (fact_task entries fact) ∷ hashes_of entries facts

  -- the hashes after an entry
  abbrev pub hashes_after : List ℕ → Kept M T V P Q R F → Option V → List ℕ
  hashes_after hs (Define task) value = hs ++ new_hash f task value
  hashes_after hs (Reload program) value = []
  hashes_after hs _ value = hs
