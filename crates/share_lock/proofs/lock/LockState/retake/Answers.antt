use Rattle.std.proofs.Common.{sym}
use Rattle.share_lock.proofs.Sound.{IsSound-restore}
use Rattle.share_lock.proofs.lock.LockState.retake.Goals as goal

pub invariant_of-self : goal.invariant_of-self
invariant_of-self c = IsSound-restore _ _ c.args.seat _ c.self.view_is c.self.invariant c.requires.seat
    (sym c.if-is_another_exclusive.ensures) c.restore.ensures
