use Rattle.eager_tasks.proofs.FirstTask.{first_task}
use Rattle.eager_tasks.proofs.laws.the_first_task_of_a_file_loads_it.Goals as goal

pub returns : goal.returns
returns c = λ p number is used. first_task p is number used
