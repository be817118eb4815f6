use Rattle.shop_base.specs.Passes.{IsReady}
use Rattle.shop_tests.proofs.crew.serve_many.Given as goal

abbrev pub invariant-requests : goal.invariant-requests
invariant-requests g l = IsReady l.shop l.pass
