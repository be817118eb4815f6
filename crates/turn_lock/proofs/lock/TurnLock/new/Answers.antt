use Rattle.std.proofs.Common.{rules, ◌≡◌, [], ◌∷◌, Some}
use Rattle.turn_lock.proofs.Keeping.{begins}
use Rattle.turn_lock.proofs.Backing.{backed_first}
use Rattle.turn_lock.proofs.lock.TurnLock.new.Goals as goal

pub new-requires : goal.new-requires
new-requires g c = let b = g.B.Booked in let value = c.args.value in
    let items : c.push_reserved.new.self.items ≡ Some value ∷ [] = search rules in
    rw (items, c.length-seen_count.ensures, c.of-about.ensures)
    (begins b.history b.seat_of b.rows b.rest value (search rules) c.requires.rows c.requires.entries)

pub invariant_of-result-in-Ok : goal.invariant_of-result-in-Ok
invariant_of-result-in-Ok g c = let b = g.B.Booked in
    backed_first b.history b.seat_of b.rows c.args.value c.length-seen_count.result c.in-Ok.seat.me
    c.length-seen_count.ensures c.requires.entries (search rules)
