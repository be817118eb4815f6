use Rattle.program_application.proofs.Tasks.{tasks_are_tasks}
use Rattle.program_application.proofs.laws.tasks_of_files_are_tasks.Goals as goal

pub returns : goal.returns
returns c = tasks_are_tasks
