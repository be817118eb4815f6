-- What a check for changed files reads, answers and enters.
use Rattle.std.specs.Prelude.{◌≡◌, ◌⊎◌, ℕ, Bool, true, false, List, [], ◌∷◌, ◌++◌, Option, Some, None, IfSome, ⊤}
use Rattle.std.specs.Prelude.{Result, Ok, Err, if◌then◌else◌}
use Rattle.outside.specs.Tree.{Given, stamps_of}
use Rattle.outside.specs.declared.files.FileEntry.{FileEntry}
use Rattle.outside.specs.declared.files.Stamp.{Stamp}
use Rattle.turn_lock.specs.Entries.{Lags, Begins}
use Rattle.system_seats.specs.declared.guard.Guard.{Guard}
use Rattle.system_seats.specs.declared.guard.Guard.TheVariants as guard
use Rattle.system_events.specs.declared.event.Entry.{Entry}
use Rattle.system_events.specs.declared.event.Kept.{Kept}
use Rattle.system_events.specs.declared.event.Kept.TheVariants.{Seek, Take, Release, Resume, Reload}
use Rattle.system_events.specs.declared.event.Want.TheVariants.{Unload}
use Rattle.system_events.specs.Facts.{Facts}
use Rattle.system_events.specs.Guards.{reload_limits}
use Rattle.system_events.specs.Legal.{after}
use Rattle.reload_matter.specs.Sources.{Sources}
use Rattle.shop_base.specs.Passes.{seat_limit, seat_of, Made, Gains}
use Rattle.reload_checks.specs.declared.answers.Checked.{Checked}
use Rattle.reload_checks.specs.declared.answers.Checked.TheVariants.{Same, Reloaded}
use Rattle.reload_checks.specs.declared.answers.ReloadFault.{ReloadFault}
use Rattle.reload_checks.specs.declared.answers.ReloadFault.TheVariants.{Tree, Program, GenerationsFull, KeptFull}
use Rattle.reload_checks.specs.declared.answers.ReloadFault.TheVariants.{Memory}

-- WHAT IS READ

-- what a tree gives that is asked for stamps
abbrev pub stamps_read : List (List ℕ × Stamp) → Given
stamps_read stamps = record { stamps = stamps; snapshot = None }

-- what a tree gives that is asked for its files
abbrev pub files_read : List FileEntry → Given
files_read files = record { stamps = stamps_of files; snapshot = Some files }

-- the stamps that were read last, if any were
abbrev pub last_stamps : List Given → Option (List (List ℕ × Stamp))
last_stamps [] = None
last_stamps (item ∷ []) = Some item.stamps
last_stamps (item ∷ more) = last_stamps more

-- the answer is that files could not be read
abbrev pub is_tree_fault : {A F : Type 0} → Result A (ReloadFault F) → Bool
is_tree_fault (Err Tree) = true
is_tree_fault _ = false

-- Why a program isn't entered: there is no memory, or the fault is this limit.
abbrev pub EntersNone : {F : Type 0} → Option Guard → ReloadFault F → Type 0
EntersNone limit (GenerationsFull n) = limit ≡ Some (guard.GenerationsFull n)
EntersNone limit (KeptFull n) = limit ≡ Some (guard.KeptFull n)
EntersNone limit Memory = ⊤
EntersNone limit _ = ⊥

module _ {P F : Type 0} (s : Sources P F) where
  -- Why stamps that were asked for lead no further: they weren't read, or they exceed a limit.
  pub data NoStamps : ReloadFault F → List Given → Type 0 where
    stamps_fail : NoStamps Tree []
    stamps_lack : NoStamps Memory []
    exceeds : (stamps : List (List ℕ × Stamp)) (fault : F) → s.limit stamps ≡ Some fault →
        NoStamps (Program fault) (stamps_read stamps ∷ [])

  -- Why files that were asked for give no program: they weren't read, there was no memory to build it, or they are at
  -- fault.
  pub data NoProgram : ReloadFault F → List Given → Type 0 where
    files_fail : NoProgram Tree []
    files_lack : NoProgram Memory []
    build_lacks : (files : List FileEntry) → NoProgram Memory (files_read files ∷ [])
    faulty : (files : List FileEntry) (fault : F) → s.Builds files (Err fault) →
        NoProgram (Program fault) (files_read files ∷ [])

-- WHAT IS ENTERED

module _ {M T V P Q R F : Type 0} where
  -- an unload is taken, where it was sought before or not
  abbrev pub opening_acts : (sought : Bool) → List (Kept M T V P Q R F)
  opening_acts sought = if sought then (Seek Unload ∷ Take Unload ∷ []) else (Take Unload ∷ [])

  -- it is released, and the seat waits for others or not
  abbrev pub closing_acts : (waited : Bool) → List (Kept M T V P Q R F)
  closing_acts waited = if waited then (Release ∷ Resume ∷ []) else (Release ∷ [])

  -- a Reload, if a program is put into force
  abbrev pub reload_acts : Option P → List (Kept M T V P Q R F)
  reload_acts None = []
  reload_acts (Some program) = Reload program ∷ []

-- an answer tells of a Reload exactly where there was one
abbrev pub TellsReload : {P F : Type 0} → Result Checked (ReloadFault F) → Option P → Type 0
TellsReload (Ok (Reloaded generation)) (Some program) = ⊤
TellsReload (Ok (Reloaded generation)) None = ⊥
TellsReload _ (Some program) = ⊥
TellsReload _ None = ⊤

module _ {M T V P Q R F : Type 0} where
  -- The events of a check that has this answer: none, or those of an unload, with a Reload where the answer tells of
  -- one.
  -- Where others run, and the files have changed: Seek, Take, Reload, Release.
  abbrev pub IsCourse : Result Checked (ReloadFault F) → List (Kept M T V P Q R F) → Type 0
  IsCourse answer acts = ((acts ≡ []) × TellsReload {P = P} answer None)
      ⊎ ((sought : Bool) × ((made : Option P) × ((waited : Bool)
      × ((acts ≡ opening_acts sought ++ (reload_acts made ++ closing_acts waited)) × TellsReload answer made))))

module _ {M T V P Q R F : Type 0} (f : Facts T V P Q R F) where
  -- What a turn of seat k made of a program that was built, and what it answers.
  pub data Tried (k : ℕ) (program : P) (before now : List (Entry M T V P Q R F)) :
      Result Checked (ReloadFault F) → Type 0 where
    -- it has the stamps of the program in force
    is_same : Lags seat_of k before now → f.same_stamps program (after f seat_limit now).counts.program ≡ true →
        Tried k program before now (Ok Same)
    -- there is no memory to enter it, or a limit is met
    not_entered : (fault : ReloadFault F) → Lags seat_of k before now →
        EntersNone (reload_limits f (after f seat_limit now).counts program) fault →
        Tried k program before now (Err fault)
    -- it is entered
    is_entered : (generation : ℕ) → Made k (Reload program) before now →
        (after f seat_limit now).counts.program ≡ program →
        generation ≡ (after f seat_limit now).counts.generation → Tried k program before now (Ok (Reloaded generation))

module _ {M T V P Q R F : Type 0} (f : Facts T V P Q R F) (s : Sources P F) where
  -- whether these are the stamps of the program in force after a history
  abbrev pub in_force : List (Entry M T V P Q R F) → List (List ℕ × Stamp) → Bool
  in_force history stamps = s.has_stamps (after f seat_limit history).counts.program stamps

  -- a turn of seat k compared these stamps, which exceed no limit, and they weren't those in force
  pub record Differs (k : ℕ) (stamps : List (List ℕ × Stamp)) (before now : List (Entry M T V P Q R F)) : Type 0 where
    pub within : s.limit stamps ≡ None
    pub lags : Lags seat_of k before now
    pub differs : in_force now stamps ≡ false

  -- They were those in force. `held` is what the tree tells then that it holds.
  pub record Agrees (k : ℕ) (held : Option (List FileEntry)) (stamps : List (List ℕ × Stamp))
      (before now : List (Entry M T V P Q R F)) : Type 0 where
    pub within : s.limit stamps ≡ None
    pub held_now : IfSome held (λ files. stamps ≡ stamps_of files)
    pub lags : Lags seat_of k before now
    pub agrees : in_force now stamps ≡ true

  -- What seat k read, answers and entered while it was exclusive, between these two histories.
  pub data Look (k : ℕ) (held : Option (List FileEntry)) (before : List (Entry M T V P Q R F)) :
      Result Checked (ReloadFault F) → List Given → List (Entry M T V P Q R F) → Type 0 where
    -- the stamps lead no further
    unread_again : (fault : ReloadFault F) (reads : List Given) → NoStamps s fault reads →
        Look k held before (Err fault) reads before
    -- they are those in force by now
    same_again : (stamps : List (List ℕ × Stamp)) (now : List (Entry M T V P Q R F)) → Agrees k held stamps before now →
        Look k held before (Ok Same) (stamps_read stamps ∷ []) now
    -- they still differ, and the files give no program
    unbuilt : (stamps : List (List ℕ × Stamp)) (fault : ReloadFault F) (reads : List Given)
        (now : List (Entry M T V P Q R F)) → Differs k stamps before now → NoProgram s fault reads →
        Look k held before (Err fault) (stamps_read stamps ∷ reads) now
    -- they still differ, and the program of the files is tried
    built : (stamps : List (List ℕ × Stamp)) (files : List FileEntry) (program : P)
        (compared now : List (Entry M T V P Q R F)) (answer : Result Checked (ReloadFault F)) →
        Differs k stamps before compared → s.Builds files (Ok program) → IfSome held (λ all. files ≡ all) →
        Tried f k program compared now answer →
        Look k held before answer (stamps_read stamps ∷ files_read files ∷ []) now

  -- The same of a whole check.
  pub data Check (k : ℕ) (held : Option (List FileEntry)) (before : List (Entry M T V P Q R F)) :
      Result Checked (ReloadFault F) → List Given → List (Entry M T V P Q R F) → Type 0 where
    -- the stamps lead no further, and no turn was taken
    unread : (fault : ReloadFault F) (reads : List Given) → NoStamps s fault reads →
        Check k held before (Err fault) reads before
    -- they are those in force
    same : (stamps : List (List ℕ × Stamp)) (now : List (Entry M T V P Q R F)) → Agrees k held stamps before now →
        Check k held before (Ok Same) (stamps_read stamps ∷ []) now
    -- they differ, and there is no memory for an unload
    unreserved : (stamps : List (List ℕ × Stamp)) (now : List (Entry M T V P Q R F)) → Differs k stamps before now →
        Check k held before (Err Memory) (stamps_read stamps ∷ []) now
    -- they differ, and an unload is taken, looks again, and is released
    unloaded : (stamps : List (List ℕ × Stamp)) (compared taken left now : List (Entry M T V P Q R F))
        (sought waited : Bool) (answer : Result Checked (ReloadFault F)) (reads : List Given) →
        Differs k stamps before compared → Gains k (opening_acts sought) compared taken →
        Look k held taken answer reads left → Gains k (closing_acts waited) left now →
        Check k held before answer (stamps_read stamps ∷ reads) now

  -- At one of the turns between these histories the stamps were those in force, and all that the seat entered after it
  -- is the release of its unload. So a Reload that came after it is another seat's.
  pub record IsFresh (k : ℕ) (stamps : List (List ℕ × Stamp)) (before now : List (Entry M T V P Q R F)) : Type 0 where
    pub at : List (Entry M T V P Q R F)
    pub begins_it : Begins before at
    pub compared : in_force at stamps ≡ true
    pub acts : List (Kept M T V P Q R F)
    pub later : Gains k acts at now
    pub only_leaves : (acts ≡ []) ⊎ ((waited : Bool) × (acts ≡ closing_acts waited))
