use Rattle.std.proofs.Common.{◌+◌, option_map, sym, ap, ◌∙◌}
use Rattle.system_core_cases.proofs.Conditions.{may_end}
use Rattle.system_core_cases.proofs.player.end.Goals as goal

pub try_event-requires-clause-condition : goal.try_event-requires-clause-condition
try_event-requires-clause-condition c =
    may_end c.args.system.now.state c.args.seat c.in-Some.request.now _
    (sym c.running_request.ensures ∙ ap (option_map (λ r. r.now)) c.in-Some.is)
    (λ i. (c.from.ensures ∙ c.program.ensures) i + c.number.ensures i) (sym c.if-not-has_letter.ensures)
