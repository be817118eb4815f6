use Rattle.by_need.proofs.Tables.{asked_task}
use Rattle.by_need.proofs.laws.asked_is_a_task.Goals as goal

pub returns : goal.returns
returns g c = λ t u K p m. asked_task (g.Y.Theory.rules c.args.theory.now) (g.Y.Theory.laws c.args.theory.now) t K
    u p m
