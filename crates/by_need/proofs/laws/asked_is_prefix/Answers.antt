use Rattle.by_need.proofs.laws.asked_is_prefix.Goals as goal

pub returns : goal.returns
returns g c = λ t K L p. (g.Y.Theory.laws c.args.theory.now).prefix t K L p
