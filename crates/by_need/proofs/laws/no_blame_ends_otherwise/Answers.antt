use Rattle.by_need.proofs.Blames.{never_ended}
use Rattle.by_need.proofs.laws.no_blame_ends_otherwise.Goals as goal

pub returns : goal.returns
returns g c = λ never t o is b.
    never_ended (g.Y.Theory.rules c.args.theory.now) (g.Y.Theory.laws c.args.theory.now) never t o is b
