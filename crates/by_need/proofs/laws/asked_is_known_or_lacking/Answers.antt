use Rattle.by_need.proofs.laws.asked_is_known_or_lacking.Goals as goal

pub returns : goal.returns
returns g c = λ t u K h. (g.Y.Theory.laws c.args.theory.now).asked_known t K u h
