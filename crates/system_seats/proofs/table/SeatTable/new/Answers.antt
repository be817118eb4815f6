use Rattle.std.proofs.Common.{◌≡◌, ap, ◌∙◌, replicate, arith}
use Rattle.system_seats.specs.Copies.{resting}
use Rattle.system_seats.proofs.Rest.{new_view, new_kept}
use Rattle.system_seats.proofs.table.SeatTable.new.Goals as goal

pub invariant_of-result : goal.invariant_of-result
invariant_of-result c =
    let all : c.seats.counter ≡ c.args.seats = omega arith in
    new_kept _ _ c.args.seats c.in_ok-lock.ensures (c.seats.invariant ∙ ap (λ n. replicate n resting) all)

pub returns : goal.returns
returns c =
    let all : c.seats.counter ≡ c.args.seats = omega arith in
    new_view _ _ c.args.seats c.in_ok-lock.ensures (c.seats.invariant ∙ ap (λ n. replicate n resting) all)
