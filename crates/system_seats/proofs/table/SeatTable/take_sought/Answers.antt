use Rattle.std.proofs.Common.{true, false}
use Rattle.system_seats.proofs.Acts.{take-sought-ready, take-sought-after}
use Rattle.system_seats.proofs.table.SeatTable.take_sought.Goals as goal

pub invariant_of-self : goal.invariant_of-self
invariant_of-self c = (take-sought-after _ _ _ _ _ c.args.seat _ c.args._purpose false true c.args._place
    c.self.view_is c.self.invariant c.requires.seat c.requires.passed c.requires.calm c.marks-marks.ensures
    (c.try_resume.ensures.seeking_resumed _
    (take-sought-ready _ _ _ c.args.seat c.args._purpose false true c.self.view_is c.self.invariant c.requires.passed
    c.requires.calm).0 (take-sought-ready _ _ _ c.args.seat c.args._purpose false true c.self.view_is
    c.self.invariant c.requires.passed c.requires.calm).1).1 c.put.ensures).0

pub returns : goal.returns
returns c = (take-sought-after _ _ _ _ _ c.args.seat _ c.args._purpose false true c.args._place c.self.view_is
    c.self.invariant c.requires.seat c.requires.passed c.requires.calm c.marks-marks.ensures
    (c.try_resume.ensures.seeking_resumed _
    (take-sought-ready _ _ _ c.args.seat c.args._purpose false true c.self.view_is c.self.invariant c.requires.passed
    c.requires.calm).0 (take-sought-ready _ _ _ c.args.seat c.args._purpose false true c.self.view_is
    c.self.invariant c.requires.passed c.requires.calm).1).1 c.put.ensures).1
