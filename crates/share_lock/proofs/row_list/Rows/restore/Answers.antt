use Rattle.std.proofs.Common.{arith}
use Rattle.std.proofs.lemmas.List.Sums.{count_by-le-length}
use Rattle.share_lock.specs.Rows.{waits_without}
use Rattle.share_lock.proofs.Counting.{IsCountOf-set}
use Rattle.share_lock.proofs.row_list.Rows.restore.Goals as goal

pub count_in-requires-clause-lacking : goal.count_in-requires-clause-lacking
count_in-requires-clause-lacking c = λ bit small.
    omega (
      arith,
      c.count_out.ensures.lacking bit small,
      c.self.invariant.lacking bit small,
      count_by-le-length (waits_without bit) c.self.inside.rows.items,
    )

pub invariant_of-self : goal.invariant_of-self
invariant_of-self c =
    IsCountOf-set _ _ _ _ _ _ _ _ c.self.view_is c.requires.seat c.index_mut-row.ensures.value c.self.invariant
    c.count_out.ensures.sharing c.count_out.ensures.lacking c.count_in.ensures.sharing c.count_in.ensures.lacking
