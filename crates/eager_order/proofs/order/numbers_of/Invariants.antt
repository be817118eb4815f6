use Rattle.std.proofs.Common.{◌≡◌, map, take}
use Rattle.eager_order.proofs.order.numbers_of.Given as goal

abbrev pub invariant-files : goal.invariant-files
invariant-files l = l.numbers.items ≡ map (λ placed. placed.file) (take l.file-index l.placed)
