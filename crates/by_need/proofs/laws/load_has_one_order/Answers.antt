use Rattle.by_need.proofs.OneLoad.{load_one}
use Rattle.by_need.proofs.laws.load_has_one_order.Goals as goal

pub returns : goal.returns
returns g c =
    λ t K L M ds es a b k l.
    let one = load_one (g.Y.Theory.rules c.args.theory.now) (g.Y.Theory.laws c.args.theory.now) k l in
    (one.order, one.table, one.end)
