use Rattle.std.proofs.Common.{arith}
use Rattle.shop_desk.proofs.Acting.{rows_number}
use Rattle.shop_desk.proofs.desk.Desk.is_calm.Goals as goal

pub row-requires : goal.row-requires
row-requires g c =
    let rows = rows_number g.M.Matter.facts 64 c.self.inside.system.state c.self.invariant.after in
    omega (arith, rows, c.requires)
