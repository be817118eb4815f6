use Rattle.std.proofs.Common.{false}
use Rattle.system_seats.proofs.Acts.{seek-ready, seek-after}
use Rattle.system_seats.proofs.table.SeatTable.seek.Goals as goal

pub invariant_of-self : goal.invariant_of-self
invariant_of-self c = (seek-after _ _ _ _ _ c.args.seat _ c.args.purpose false c.args.place c.self.view_is
    c.self.invariant c.requires.seat c.requires.passed c.marks-marks.ensures
    (c.start.ensures.seeking
    (seek-ready _ _ _ c.args.seat c.args.purpose false c.self.view_is c.self.invariant c.requires.passed).1)
    c.put.ensures).0

pub returns : goal.returns
returns c = (seek-after _ _ _ _ _ c.args.seat _ c.args.purpose false c.args.place c.self.view_is c.self.invariant
    c.requires.seat c.requires.passed c.marks-marks.ensures
    (c.start.ensures.seeking
    (seek-ready _ _ _ c.args.seat c.args.purpose false c.self.view_is c.self.invariant c.requires.passed).1)
    c.put.ensures).1
