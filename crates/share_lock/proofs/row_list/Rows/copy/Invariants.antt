use Rattle.std.proofs.Common.{◌≡◌, take}
use Rattle.share_lock.proofs.row_list.Rows.copy.Given as goal

abbrev pub invariant-rows : goal.invariant-rows
invariant-rows l = l.all ≡ take l.row-index l.row-items
