use Rattle.system_seats.proofs.Acts.{yield-after}
use Rattle.system_seats.proofs.table.SeatTable.yield_share.Goals as goal

pub invariant_of-self : goal.invariant_of-self
invariant_of-self c = (yield-after _ _ _ _ _ c.args.seat _ c.self.view_is c.self.invariant c.requires.seat
    c.requires.passed c.marks-marks.ensures c.permit_begin.ensures c.put.ensures).0

pub returns : goal.returns
returns c = (yield-after _ _ _ _ _ c.args.seat _ c.self.view_is c.self.invariant c.requires.seat c.requires.passed
    c.marks-marks.ensures c.permit_begin.ensures c.put.ensures).1
