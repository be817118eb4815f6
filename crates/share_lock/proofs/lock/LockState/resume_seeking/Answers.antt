use Rattle.std.proofs.Common.{sym}
use Rattle.share_lock.proofs.Sound.{IsSound-take}
use Rattle.share_lock.proofs.lock.LockState.resume_seeking.Goals as goal

pub invariant_of-self : goal.invariant_of-self
invariant_of-self c =
    IsSound-take _ _ c.args.seat c.args.purpose _ c.self.view_is c.self.invariant c.requires.seat
    (sym c.if-is_busy_for_exclusive.ensures) c.restore.ensures
