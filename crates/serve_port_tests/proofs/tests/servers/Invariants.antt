use Rattle.std.proofs.Common.{◌≡◌, vec_len}
use Rattle.serve_port_tests.proofs.tests.servers.Given as goal

abbrev pub invariant-count : goal.invariant-count
invariant-count l = vec_len l.servers ≡ l._i
