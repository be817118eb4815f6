-- Applications of the Ruby profile.
use Rattle.std.specs.Prelude.{List}
use Rattle.program_places.specs.Paths.{Name, Path}
use Rattle.program_places.specs.Tasks.{EachIs}
use Rattle.program_files.specs.Files.{UsedFile}
use Rattle.program_files.specs.Owners.{OneFile}
use Rattle.program_theory.specs.Applications.{Application}
use Rattle.program_written.specs.Reads.{IsRead}
use Rattle.ruby_machine_names.specs.Profile.{profile}
use Rattle.ruby_runs.specs.Runs.{run_limits}

-- The application of these files, whose controllers' constants are named so, with the built-in methods of the profile,
-- 100,000 turns for a task, 200,000 for a request, and 1,000 frames of methods.
abbrev pub profiled : List UsedFile → (List Name → Path) → Application
profiled files controller =
    record { files = files; controller = controller; rows = profile; limits = run_limits }

-- Files as a generation has them: no two spell one constant or have one path, and each was read as the tree of a text
-- or has a first fault.
pub record AreFiles (files : List UsedFile) : Type 0 where
  pub one : OneFile files
  pub read : EachIs (λ f. IsRead f.reading) files
