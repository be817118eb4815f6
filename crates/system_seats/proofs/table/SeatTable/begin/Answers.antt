use Rattle.system_seats.proofs.Acts.{begin-after}
use Rattle.system_seats.proofs.table.SeatTable.begin.Goals as goal

pub invariant_of-self : goal.invariant_of-self
invariant_of-self c = (begin-after _ _ _ _ c.args.seat _ c.args.place c.self.view_is c.self.invariant c.requires.seat
    c.requires.passed c.marks-marks.ensures c.put.ensures).0

pub returns : goal.returns
returns c = (begin-after _ _ _ _ c.args.seat _ c.args.place c.self.view_is c.self.invariant c.requires.seat
    c.requires.passed c.marks-marks.ensures c.put.ensures).1
