use Rattle.std.proofs.Common.{◌≡◌, ap, ◌∙◌, slice_index}
use Rattle.std.proofs.lemmas.List.{get_or-replicate}
use Rattle.turn_lock_tests.proofs.turns.shared_tally.Goals as goal

pub new-requires-2-clause-rows : goal.new-requires-2-clause-rows
new-requires-2-clause-rows c k from below =
    let count : slice_index c.new.result.counts k ≡ 0 = ap (λ l. slice_index l k) c.new.ensures.counts
    ∙ get_or-replicate 64 k 0 0 below in
    let room : slice_index c.new.result.room k ≡ 0 = ap (λ l. slice_index l k) c.new.ensures.room
    ∙ get_or-replicate 64 k 0 0 below in
    λ i. (count i, room i)
