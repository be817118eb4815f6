use Rattle.std.proofs.Common.{◌≡◌, None, ap, ◌∙◌, replicate, arith}
use Rattle.replay_seats.proofs.replay.empty_seats.Goals as goal

pub returns : goal.returns
returns g c =
    let all : c.seats.counter ≡ 64 = omega arith in
    c.seats.invariant ∙ ap (λ n. replicate n None) all
