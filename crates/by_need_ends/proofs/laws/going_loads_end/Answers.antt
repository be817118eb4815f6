use Rattle.by_need_ends.proofs.Going.{going_ends}
use Rattle.by_need_ends.proofs.laws.going_loads_end.Goals as goal

pub returns : goal.returns
returns g c = going_ends (g.Y.Theory.rules c.args.theory.now) (g.Y.Theory.laws c.args.theory.now)
    (g.Y.Program.runs c.args.theory.now)
