use Rattle.by_need_ends.proofs.Ends.{whole_load_ends}
use Rattle.by_need_ends.proofs.laws.every_load_ends.Goals as goal

pub returns : goal.returns
returns g c = whole_load_ends (g.Y.Theory.rules c.args.theory.now) (g.Y.Theory.laws c.args.theory.now)
