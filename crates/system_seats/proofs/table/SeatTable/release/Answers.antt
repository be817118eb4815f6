use Rattle.system_seats.proofs.Acts.{release-after}
use Rattle.system_seats.proofs.table.SeatTable.release.Goals as goal

pub invariant_of-self : goal.invariant_of-self
invariant_of-self c = (release-after _ _ _ _ _ c.args.seat _ c.section_purpose-purpose.result c.self.view_is
    c.self.invariant c.requires.seat c.requires.passed c.marks-marks.ensures c.section_purpose-purpose.ensures
    c.stop.ensures c.put.ensures).0

pub returns : goal.returns
returns c = (release-after _ _ _ _ _ c.args.seat _ c.section_purpose-purpose.result c.self.view_is c.self.invariant
    c.requires.seat c.requires.passed c.marks-marks.ensures c.section_purpose-purpose.ensures c.stop.ensures
    c.put.ensures).1
