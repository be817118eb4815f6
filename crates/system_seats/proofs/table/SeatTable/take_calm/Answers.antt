use Rattle.std.proofs.Common.{true, false}
use Rattle.system_seats.proofs.Acts.{take-calm-ready, take-calm-after}
use Rattle.system_seats.proofs.table.SeatTable.take_calm.Goals as goal

pub invariant_of-self : goal.invariant_of-self
invariant_of-self c = (take-calm-after _ _ _ _ _ c.args.seat _ c.args.purpose false true c.args.place c.self.view_is
    c.self.invariant c.requires.seat c.requires.passed c.requires.calm c.marks-marks.ensures
    (c.start.ensures.taken (take-calm-ready _ _ _ c.args.seat c.args.purpose false true c.self.view_is
    c.self.invariant c.requires.passed c.requires.calm).1) c.put.ensures).0

pub returns : goal.returns
returns c = (take-calm-after _ _ _ _ _ c.args.seat _ c.args.purpose false true c.args.place c.self.view_is
    c.self.invariant c.requires.seat c.requires.passed c.requires.calm c.marks-marks.ensures
    (c.start.ensures.taken (take-calm-ready _ _ _ c.args.seat c.args.purpose false true c.self.view_is
    c.self.invariant c.requires.passed c.requires.calm).1) c.put.ensures).1
