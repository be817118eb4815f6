use Rattle.by_need.proofs.OneBlame.{blame_asks}
use Rattle.by_need.proofs.laws.ring_has_one_blame.Goals as goal

pub returns : goal.returns
returns g c = λ t u is h. blame_asks (g.Y.Theory.rules c.args.theory.now) (g.Y.Theory.laws c.args.theory.now) t is u h
