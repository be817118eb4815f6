use Rattle.by_need.proofs.laws.run_grows.Goals as goal

pub returns : goal.returns
returns g c = λ t K L p w. (g.Y.Theory.laws c.args.theory.now).grow t K L p w
