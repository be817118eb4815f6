use Rattle.std.proofs.Common.{Some, option_map, sym, ap, ◌∙◌, refl}
use Rattle.system_core_cases.proofs.Conditions.{may_define}
use Rattle.system_core_cases.proofs.player.define.Goals as goal

pub try_event-requires-clause-condition : goal.try_event-requires-clause-condition
try_event-requires-clause-condition c =
    may_define c.args.system.now.state c.args.seat c.in-Some-Load.sought c.args.letter
    (sym c.section_want.ensures ∙ (ap (option_map (λ want. want.now)) c.in-Some-Load.is
    ∙ ap Some c.in-Some-Load.field-0-is))
    (c.if-not-needs.ensures refl)
