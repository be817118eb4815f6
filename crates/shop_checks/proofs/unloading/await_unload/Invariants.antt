use Rattle.std.proofs.Common.{◌≡◌}
use Rattle.turn_lock.specs.Entries.{Lags}
use Rattle.shop_base.specs.Passes.{seat_of, moved}
use Rattle.shop_checks.proofs.unloading.await_unload.Given as goal

abbrev pub invariant-tries : goal.invariant-tries
invariant-tries g l = record {
  same : l.pass ≡ moved l.fn.pass l.fn.pass.row l.pass.seen;
  lags : Lags seat_of l.fn.pass.number l.fn.pass.seen l.pass.seen;
}
