-- A Reload that a check entered.
use Rattle.std.specs.Prelude.{◌≡◌, ℕ, Bool, List, Option, IfSome, Result, Ok, Err, ⊤}
use Rattle.outside.specs.declared.files.FileEntry.{FileEntry}
use Rattle.system_events.specs.declared.event.Entry.{Entry}
use Rattle.system_events.specs.declared.event.Kept.TheVariants.{Reload}
use Rattle.system_events.specs.Facts.{Facts}
use Rattle.system_events.specs.Legal.{after}
use Rattle.reload_matter.specs.Sources.{Sources}
use Rattle.reload_checks.specs.declared.answers.Checked.{Checked}
use Rattle.reload_checks.specs.declared.answers.Checked.TheVariants.{Reloaded}
use Rattle.reload_checks.specs.declared.answers.ReloadFault.{ReloadFault}
use Rattle.reload_checks.specs.Checks.{opening_acts, closing_acts}
use Rattle.shop_base.specs.Passes.{seat_limit, Made, Gains}

-- what holds of the number of the generation, where the answer tells of one
abbrev pub OnReloaded : {F : Type 0} → Result Checked (ReloadFault F) → (ℕ → Type 0) → Type 0
OnReloaded (Ok (Reloaded generation)) Holds = Holds generation
OnReloaded _ Holds = ⊤

module _ {M T V P Q R F : Type 0} (f : Facts T V P Q R F) (s : Sources P F) where
  -- Seat k took an unload, put the program of these files into force, which is then the generation of this number, and
  -- left. Where the tree tells, these are the files that it holds.
  pub record HasReloaded (k : ℕ) (held : Option (List FileEntry)) (generation : ℕ)
      (before now : List (Entry M T V P Q R F)) : Type 0 where
    pub files : List FileEntry
    pub program : P
    pub builds : s.Builds files (Ok program)
    pub holds : IfSome held (λ all. files ≡ all)
    pub sought : Bool
    pub waited : Bool
    pub opened : List (Entry M T V P Q R F)
    pub entered : List (Entry M T V P Q R F)
    pub opens : Gains k (opening_acts sought) before opened
    pub reloads : Made k (Reload program) opened entered
    pub number : generation ≡ (after f seat_limit entered).counts.generation
    pub leaves : Gains k (closing_acts waited) entered now
