-- The tasks of a file behind its own.
use Rattle.std.proofs.Common.{◌≡◌, ◌∷◌, Option, Some, None, is_some, refl}
use Rattle.ruby_types.specs.declared.request.RubyError.{RubyError}
use Rattle.ruby_types.specs.declared.request.Task.TheVariants as task
use Rattle.program_files.specs.Files.{UsedFile}
use Rattle.program_files.specs.Tasks.{tasks_by}
use Rattle.program_tasks.specs.Placed.{rest_by}

-- a file and what is behind it are its tasks by its fault
pub rest_told : (file : UsedFile) (fault : Option RubyError) →
    task.File file.path ∷ rest_by file (is_some fault) ≡ tasks_by file fault
rest_told file None = refl
rest_told file (Some error) = refl
