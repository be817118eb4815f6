use Rattle.std.proofs.Common.{◌≡◌, All}
use Rattle.shop_base.specs.Passes.{IsReady}
use Rattle.shop_tests.proofs.crew.split_many.Given as goal

abbrev pub invariant-splits : goal.invariant-splits
invariant-splits l = record {
  ready : IsReady l.shop l.first;
  first : l.first.number ≡ 0;
  others : All (IsReady l.shop) l.passes.items;
}
