use Rattle.share_lock.proofs.OtherSeats.{another_false_at, another_true_at}
use Rattle.share_lock.proofs.lock.another_is_some_other_seat.Goals as goal

pub returns-clause-found : goal.returns-clause-found
returns-clause-found c = λ test owner seat row other is passes.
    another_true_at test c.args.lock.now.rows owner seat row other is passes

pub returns-clause-none : goal.returns-clause-none
returns-clause-none c = λ test owner none seat row other is.
    another_false_at test c.args.lock.now.rows owner none seat row other is
