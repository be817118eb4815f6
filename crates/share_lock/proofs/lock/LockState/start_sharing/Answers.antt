use Rattle.std.proofs.Common.{sym}
use Rattle.share_lock.proofs.Sound.{IsSound-share}
use Rattle.share_lock.proofs.lock.LockState.start_sharing.Goals as goal

pub invariant_of-self : goal.invariant_of-self
invariant_of-self c = IsSound-share _ _ c.args.seat _ c.self.view_is c.self.invariant c.requires.seat c.requires.calm
    (sym c.if-refuses_share.ensures) c.share.ensures
