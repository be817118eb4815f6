use Rattle.std.proofs.Common.{◌≡◌, length, reverse}
use Rattle.httparse.specs.Grammar.{skip_ows}
use Rattle.http_front_head.proofs.trimming.without_back.Given as goal

abbrev pub invariant-back : goal.invariant-back
invariant-back l = reverse (skip_ows (reverse l.bytes)) ≡ reverse (skip_ows (reverse l.rest))

abbrev pub decreases-back : goal.decreases-back
decreases-back l = length l.rest
