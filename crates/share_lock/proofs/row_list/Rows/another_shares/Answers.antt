use Rattle.std.proofs.Common.{refl}
use Rattle.share_lock.specs.Rows.{holds_shares}
use Rattle.share_lock.proofs.Counting.{another_from_count}
use Rattle.share_lock.proofs.row_list.Rows.another_shares.Goals as goal

pub returns : goal.returns
returns c = another_from_count holds_shares _ _ _ _ _ _ _ c.self.view_is c.requires c.index.ensures c.from.ensures
    refl c.self.invariant.sharing
