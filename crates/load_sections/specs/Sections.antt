-- A load section of a seat: what it has done, and what each of its defines makes.
use Rattle.std.specs.Prelude.{◌≡◌, ℕ, List, [], ◌∷◌, ◌++◌, Option, Some, None, Bool, true, false}
use Rattle.by_need.specs.Blame.{blame}
use Rattle.by_need.specs.Order.{Load}
use Rattle.by_need.specs.Rounds.{Rules}
use Rattle.by_need_loader.specs.Failures.{cause}
use Rattle.by_need_loader.specs.Progress.{Progress, IsOn}
use Rattle.by_need_loader.specs.Runs.{Runs}
use Rattle.by_need_loader.specs.Steps.{IsReady}
use Rattle.system_seats.specs.Guards.{define_guard}
use Rattle.system_events.specs.declared.event.Want.TheVariants.{Load as Load-Want}
use Rattle.system_events.specs.declared.event.Kept.TheVariants.{Define}
use Rattle.system_events.specs.Facts.{Facts}
use Rattle.system_events.specs.State.{State, section_want}
use Rattle.system_events.specs.Legal.{IsStep}
use Rattle.system_core.specs.Tables.{lookup}
use Rattle.load_sections.specs.declared.section.Made.{Made}
use Rattle.load_sections.specs.declared.section.Made.TheVariants.{Defined, Loaded, Failed}

module _ {M T V P Q R F : Type 0} (f : Facts T V P Q R F) where
  -- the table as a function: the value of each task that it has
  abbrev pub table_at : State M T V P Q R F → T → Option V
  table_at s task = lookup f task s.table

module _ {M T V P Q R F : Type 0} where
  -- the seat is exclusive for a load of the task
  pub record IsOpenFor (s : State M T V P Q R F) (seat : ℕ) (sought : T) : Type 0 where
    pub section : section_want s seat ≡ Some (Load-Want sought)
    pub passes : define_guard s.seats seat ≡ None

module _ {M T V P Q R F E O G W N : Type 0} (f : Facts T V P Q R F) (r : Rules T V E O) (m : Runs T V E O G W N)
    (sought : T) (at_first : T → Option V) where
  -- The seat is exclusive for a load of the sought task. Since its section opened over the table `at_first` its loader
  -- has defined these values, in this order, and goes on rightly.
  pub record IsLoading (s : State M T V P Q R F) (seat : ℕ) (made : List (T × V))
      (loader : Progress T G W N) : Type 0 where
    pub section : section_want s seat ≡ Some (Load-Want sought)
    pub passes : define_guard s.seats seat ≡ None
    pub ready : IsReady loader.phase
    pub on : IsOn r m (record { wanted = sought; at_first = at_first; made = made; table = table_at f s }) loader

  -- these values are what a load of the sought task defines, in its order, up to its end
  abbrev pub HasLoaded : State M T V P Q R F → List (T × V) → Bool → Type 0
  HasLoaded s made done = Load r at_first sought made (table_at f s) done

  -- What comes of a call. Defined: a step of the seat defined this task, with the value that is known of it, and the
  -- section goes on. Loaded: the sought task is known and in the table. Failed: it stays unknown, and this is its
  -- blame. At both ends the state stays, and the section has defined what a load over the table `at_first` defines.
  abbrev pub IsMade : State M T V P Q R F → State M T V P Q R F → ℕ → List (T × V) → Progress T G W N → Made T E O →
      Type 0
  IsMade old new seat made loader (Defined task) =
      IsStep f old (record { seat = seat; kept = Define task }) new
      × ((value : V) × ((f.known old.counts.program task ≡ Some value)
      × IsLoading new seat (made ++ (task, value) ∷ []) loader))
  IsMade old new seat made loader Loaded =
      (new ≡ old) × HasLoaded old made true
      × ((value : V) × ((f.known old.counts.program sought ≡ Some value) × (table_at f old sought ≡ Some value)))
  IsMade old new seat made loader (Failed failure) =
      (new ≡ old) × HasLoaded old made false × (f.known old.counts.program sought ≡ None)
      × (blame r sought ≡ cause failure)
