use Rattle.std.proofs.Common.{refl, arith}
use Rattle.shop_checks_tests.proofs.visits.request.Goals as goal

pub end-requires-clause-reply : goal.end-requires-clause-reply
end-requires-clause-reply g c =
    λ request is. (refl, λ task asked known. let below = asked.1 in absurd (omega (arith, below)))
