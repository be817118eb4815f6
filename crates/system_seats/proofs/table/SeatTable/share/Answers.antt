use Rattle.system_seats.proofs.Acts.{share-ready, share-after}
use Rattle.system_seats.proofs.table.SeatTable.share.Goals as goal

pub invariant_of-self : goal.invariant_of-self
invariant_of-self c = (share-after _ _ _ _ _ c.args.seat _ c.self.view_is c.self.invariant c.requires.seat
    c.requires.passed c.marks-marks.ensures
    (c.start_running.ensures.taken
    (share-ready _ _ _ c.args.seat c.self.view_is c.self.invariant c.requires.passed).free).1 c.put.ensures).0

pub returns : goal.returns
returns c = (share-after _ _ _ _ _ c.args.seat _ c.self.view_is c.self.invariant c.requires.seat c.requires.passed
    c.marks-marks.ensures (c.start_running.ensures.taken
    (share-ready _ _ _ c.args.seat c.self.view_is c.self.invariant c.requires.passed).free).1 c.put.ensures).1
