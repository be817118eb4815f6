use Rattle.std.proofs.Common.{◌≡◌, take}
use Rattle.program_code.specs.Codes.{task_paths}
use Rattle.program_code.proofs.file.paths_of.Given as goal

abbrev pub invariant-tasks : goal.invariant-tasks
invariant-tasks l = l.paths.items ≡ task_paths (take l.task-index l.tasks)
