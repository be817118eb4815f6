-- What a check makes of the files that it reads while it is exclusive.
use Rattle.std.specs.Prelude.{◌≡◌, ℕ, List, [], ◌∷◌, Option, IfSome, Result, Ok, Err}
use Rattle.outside.specs.Tree.{Given}
use Rattle.outside.specs.declared.files.FileEntry.{FileEntry}
use Rattle.system_events.specs.declared.event.Entry.{Entry}
use Rattle.system_events.specs.Facts.{Facts}
use Rattle.reload_matter.specs.Sources.{Sources}
use Rattle.reload_checks.specs.declared.answers.Checked.{Checked}
use Rattle.reload_checks.specs.declared.answers.ReloadFault.{ReloadFault}
use Rattle.reload_checks.specs.Checks.{NoProgram, Tried, files_read}

module _ {M T V P Q R F : Type 0} (f : Facts T V P Q R F) (s : Sources P F) where
  -- Seat k reads the files: they give no program, and no turn is taken; or their program is tried.
  pub data Rebuilds (k : ℕ) (held : Option (List FileEntry)) (before : List (Entry M T V P Q R F)) :
      Result Checked (ReloadFault F) → List Given → List (Entry M T V P Q R F) → Type 0 where
    gives_none : (fault : ReloadFault F) (reads : List Given) → NoProgram s fault reads →
        Rebuilds k held before (Err fault) reads before
    gives_one : (files : List FileEntry) (program : P) (answer : Result Checked (ReloadFault F))
        (now : List (Entry M T V P Q R F)) → s.Builds files (Ok program) → IfSome held (λ all. files ≡ all) →
        Tried f k program before now answer → Rebuilds k held before answer (files_read files ∷ []) now
