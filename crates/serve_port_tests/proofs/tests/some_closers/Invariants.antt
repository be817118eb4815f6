use Rattle.std.proofs.Common.{◌≡◌, All, vec_len}
use Rattle.serve_port_tests.proofs.tests.some_closers.Given as goal

abbrev pub invariant-count : goal.invariant-count
invariant-count l = record { len : vec_len l.closers ≡ l._i; fresh : All (λ c. c.count ≡ 0) l.closers.items }
