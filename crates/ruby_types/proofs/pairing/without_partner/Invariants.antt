use Rattle.std.proofs.Common.{◌≡◌, ◌+◌, ℕ, take, length}
use Rattle.std.specs.Prelude.{sum_by}
use Rattle.ruby_types.specs.Pairing.{Pair, left}
use Rattle.ruby_types.proofs.pairing.without_partner.Given as goal

abbrev pub invariant-pairs : goal.invariant-pairs
invariant-pairs g l = record {
  long : length l.taken ≡ g.row.ROOM;
  sums : (told : Pair → ℕ) →
      sum_by told (take l.place l.pairs) + sum_by told (left l.taken l.others) ≡ sum_by told l.others;
}
