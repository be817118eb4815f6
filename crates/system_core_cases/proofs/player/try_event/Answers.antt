use Rattle.std.proofs.Common.{sym, subst}
use Rattle.system_events.specs.Steps.{Condition, IsKnown, kept_of}
use Rattle.system_core_cases.specs.Letters.{letters}
use Rattle.system_core_cases.proofs.player.try_event.Goals as goal

pub apply-requires-clause-condition : goal.apply-requires-clause-condition
apply-requires-clause-condition c =
    subst (λ s. Condition letters s c.args.event.seat (kept_of c.args.event.act)) (sym c.reserve.ensures.state)
    c.requires.condition

pub apply-requires-clause-known : goal.apply-requires-clause-known
apply-requires-clause-known c =
    subst (λ s. IsKnown letters s c.args.event.act) (sym c.reserve.ensures.state) c.requires.known
