use Rattle.std.proofs.Common.{subst}
use Rattle.share_lock.specs.Lock.{IsSound}
use Rattle.share_lock.proofs.Sound.{exclusion}
use Rattle.share_lock.proofs.lock.exclusive_is_alone.Goals as goal

pub returns-clause-alone : goal.returns-clause-alone
returns-clause-alone c = exclusion c.args.lock.now (subst IsSound c.lock.view_is c.lock.invariant)
