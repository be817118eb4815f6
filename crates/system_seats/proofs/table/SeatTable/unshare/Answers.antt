use Rattle.system_seats.proofs.Acts.{unshare-after}
use Rattle.system_seats.proofs.table.SeatTable.unshare.Goals as goal

pub invariant_of-self : goal.invariant_of-self
invariant_of-self c = (unshare-after _ _ _ _ _ c.args.seat _ c.self.view_is c.self.invariant c.requires.seat
    c.requires.passed c.marks-marks.ensures c.done_running.ensures c.put.ensures).0

pub returns : goal.returns
returns c = (unshare-after _ _ _ _ _ c.args.seat _ c.self.view_is c.self.invariant c.requires.seat c.requires.passed
    c.marks-marks.ensures c.done_running.ensures c.put.ensures).1
