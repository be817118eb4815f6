use Rattle.system_core.proofs.Finding.{Walks, walk_left}
use Rattle.system_core.proofs.table.place_of.Given as goal

abbrev pub invariant-walk : goal.invariant-walk
invariant-walk g l = Walks g.M.Matter.facts l.places.hashes l.places.buckets l.entries l.facts l.task l.at

abbrev pub decreases-walk : goal.decreases-walk
decreases-walk g l = walk_left l.at
