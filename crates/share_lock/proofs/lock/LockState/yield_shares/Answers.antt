use Rattle.share_lock.proofs.Sound.{IsSound-yielded}
use Rattle.share_lock.proofs.lock.LockState.yield_shares.Goals as goal

pub invariant_of-self : goal.invariant_of-self
invariant_of-self c = IsSound-yielded _ _ c.args.seat c.args.list _ c.self.view_is c.self.invariant c.requires.seat
    c.requires.not_exclusive c.yield_to.ensures
