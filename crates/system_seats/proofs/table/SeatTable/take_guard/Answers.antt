use Rattle.std.proofs.Common.{sym, ◌∙◌}
use Rattle.system_seats.specs.Seats.{row, runs_at, is_owner}
use Rattle.system_seats.proofs.Firsts.{take_first}
use Rattle.system_seats.proofs.table.SeatTable.take_guard.Goals as goal

pub returns-in-Some : goal.returns-in-Some
returns-in-Some c =
    sym (take_first c.args.purpose (row c.args.self.now c.args.seat) (runs_at c.args.self.now c.args.seat)
    (is_owner c.args.self.now c.args.seat) c.args.known c.args.wanted c.in-Some.guard _
    (sym c.own_take_guard.ensures ∙ c.in-Some.is))
