use Rattle.share_lock.specs.Rows.{waits_without}
use Rattle.share_lock.proofs.Counting.{another_from_count}
use Rattle.share_lock.proofs.row_list.Rows.another_lacks.Goals as goal

pub returns : goal.returns
returns c =
    another_from_count (waits_without c.args.bit) _ _ _ _ _ _ _ c.self.view_is c.requires.seat c.index.ensures
    c.from.ensures c.lacks_bit-own.ensures
    (c.self.invariant.lacking c.args.bit c.requires.bit)
