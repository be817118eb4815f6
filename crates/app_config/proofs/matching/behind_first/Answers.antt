use Rattle.std.proofs.Common.{sym, ◌∙◌}
use Rattle.app_config.proofs.MatchLaws.{behind_first-found}
use Rattle.app_config.proofs.matching.behind_first.Goals as goal

pub returns-then-is_some : goal.returns-then-is_some
returns-then-is_some c =
    behind_first-found c.args.piece.now c.places.rest.now c.behind_front-found.result c.behind_front-found.ensures
    (sym c.is_some.ensures ∙ c.if-is_some.true) ∙ c.places.invariant
