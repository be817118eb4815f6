use Rattle.std.proofs.Common.{sym}
use Rattle.share_lock.proofs.Sound.{IsSound-seek}
use Rattle.share_lock.proofs.lock.LockState.start_exclusive.Goals as goal

pub invariant_of-self-2 : goal.invariant_of-self-2
invariant_of-self-2 c =
    IsSound-seek _ _ c.args.seat c.args.purpose c.args.list _ c.self.view_is c.self.invariant c.requires.seat
    (sym c.if-is_exclusive.ensures) c.requires.purpose c.yield_to.ensures
