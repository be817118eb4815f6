use Rattle.std.proofs.Common.{◌≡◌, ◌++◌, take}
use Rattle.program_code.specs.Codes.{faulty_codes, task_paths}
use Rattle.program_code.proofs.file.push_all_faulty.Given as goal

abbrev pub invariant-tasks : goal.invariant-tasks
invariant-tasks l = l.codes.items ≡ l.fn.codes.items ++ faulty_codes (task_paths (take l.task-index l.tasks))
