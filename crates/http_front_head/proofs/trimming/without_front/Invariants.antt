use Rattle.std.proofs.Common.{◌≡◌, length}
use Rattle.httparse.specs.Grammar.{skip_ows}
use Rattle.http_front_head.proofs.trimming.without_front.Given as goal

abbrev pub invariant-front : goal.invariant-front
invariant-front l = skip_ows l.bytes ≡ skip_ows l.rest

abbrev pub decreases-front : goal.decreases-front
decreases-front l = length l.rest
