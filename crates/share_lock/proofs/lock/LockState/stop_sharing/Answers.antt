use Rattle.share_lock.proofs.Sound.{IsSound-unshare}
use Rattle.share_lock.proofs.lock.LockState.stop_sharing.Goals as goal

pub invariant_of-self : goal.invariant_of-self
invariant_of-self c = IsSound-unshare _ _ c.args.seat c.unshare.new.self c.self.view_is c.self.invariant
    c.requires.seat c.requires.some c.unshare.ensures
