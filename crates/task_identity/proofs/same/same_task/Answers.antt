use Rattle.task_identity.proofs.SameLaws.{told_is_same}
use Rattle.task_identity.proofs.same.same_task.Goals as goal

pub returns : goal.returns
returns c = told_is_same _ _ _ c.identical_tasks.ensures.equal c.identical_tasks.ensures.told
