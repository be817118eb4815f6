use Rattle.std.proofs.Common.{◌≡◌, map, take, All}
use Rattle.eager_order.specs.Placed.{IsPlaced}
use Rattle.eager_order.proofs.placed.place_files.Given as goal

abbrev pub invariant-numbers : goal.invariant-numbers
invariant-numbers l = record {
  files : map (λ p. p.file) l.placed.items ≡ take l.number-index l.numbers;
  placed : All (IsPlaced l.roots l.files) l.placed.items;
}
