use Rattle.system_seats.proofs.Acts.{resume-ready, resume-after}
use Rattle.system_seats.proofs.table.SeatTable.resume.Goals as goal

pub invariant_of-self : goal.invariant_of-self
invariant_of-self c = (resume-after _ _ _ _ _ c.args.seat _ c.self.view_is c.self.invariant c.requires.seat
    c.requires.passed c.marks-marks.ensures
    (c.try_resume.ensures.releasing_resumed _
    (resume-ready _ _ _ c.args.seat c.self.view_is c.self.invariant c.requires.passed).phase
    (resume-ready _ _ _ c.args.seat c.self.view_is c.self.invariant c.requires.passed).free).1 c.put.ensures).0

pub returns : goal.returns
returns c = (resume-after _ _ _ _ _ c.args.seat _ c.self.view_is c.self.invariant c.requires.seat c.requires.passed
    c.marks-marks.ensures (c.try_resume.ensures.releasing_resumed _
    (resume-ready _ _ _ c.args.seat c.self.view_is c.self.invariant c.requires.passed).phase
    (resume-ready _ _ _ c.args.seat c.self.view_is c.self.invariant c.requires.passed).free).1 c.put.ensures).1
