use Rattle.system_seats.proofs.Acts.{retake-ready, retake-after}
use Rattle.system_seats.proofs.table.SeatTable.retake.Goals as goal

pub invariant_of-self : goal.invariant_of-self
invariant_of-self c = (retake-after _ _ _ _ _ c.args.seat _ c.self.view_is c.self.invariant c.requires.seat
    c.requires.passed c.marks-marks.ensures
    (c.permit_end.ensures.resumed
    (retake-ready _ _ _ c.args.seat c.self.view_is c.self.invariant c.requires.passed).free).1 c.put.ensures).0

pub returns : goal.returns
returns c = (retake-after _ _ _ _ _ c.args.seat _ c.self.view_is c.self.invariant c.requires.seat c.requires.passed
    c.marks-marks.ensures (c.permit_end.ensures.resumed
    (retake-ready _ _ _ c.args.seat c.self.view_is c.self.invariant c.requires.passed).free).1 c.put.ensures).1
