use Rattle.std.proofs.Common.{◌≡◌}
use Rattle.turn_lock.specs.Entries.{Lags}
use Rattle.shop_base.specs.Passes.{seat_of, moved}
use Rattle.shop.specs.Seeking.{SeeksTask}
use Rattle.shop.proofs.shop.Shop.await_loading.Given as goal

abbrev pub invariant-tries : goal.invariant-tries
invariant-tries g l = record {
  same : l.pass ≡ moved l.fn.pass l.fn.pass.row l.pass.seen;
  lags : Lags seat_of l.fn.pass.number l.fn.pass.seen l.pass.seen;
  seeks : SeeksTask g.M.Matter.facts l.pass l.fn.task;
}
