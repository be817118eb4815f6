use Rattle.system_seats.proofs.Acts.{end-after}
use Rattle.system_seats.proofs.table.SeatTable.end.Goals as goal

pub invariant_of-self : goal.invariant_of-self
invariant_of-self c = (end-after _ _ _ _ c.args.seat _ c.self.view_is c.self.invariant c.requires.seat
    c.requires.passed c.marks-marks.ensures c.put.ensures).0

pub returns : goal.returns
returns c = (end-after _ _ _ _ c.args.seat _ c.self.view_is c.self.invariant c.requires.seat c.requires.passed
    c.marks-marks.ensures c.put.ensures).1
