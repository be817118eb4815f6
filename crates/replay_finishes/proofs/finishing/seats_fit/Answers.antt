use Rattle.std.proofs.Common.{sym, subst, ◌<◌}
use Rattle.replay_finishes.proofs.finishing.seats_fit.Goals as goal

pub returns : goal.returns
returns g c = subst (λ n. c.args._seat < n) (sym c.requires.seated.places) c.requires.below
