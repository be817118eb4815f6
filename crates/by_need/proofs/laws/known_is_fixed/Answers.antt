use Rattle.by_need.proofs.Rounds.{known_gives, known_takes}
use Rattle.by_need.proofs.laws.known_is_fixed.Goals as goal

pub returns : goal.returns
returns g c =
    let r = g.Y.Theory.rules c.args.theory.now in
    let l = g.Y.Theory.laws c.args.theory.now in
    λ t v is. (λ h. known_gives r l t v h, λ h. known_takes r l t v is h)
