use Rattle.std.proofs.Common.{sym, subst}
use Rattle.system_laws.specs.Lawful.{IsExclusive, MayTake, IsTable, AreOpened, AreSteady}
use Rattle.system_core.proofs.system.System.tells_laws.Goals as goal

pub returns-clause-right : goal.returns-clause-right
returns-clause-right g c =
    c.every_legal_history.ensures.right c.tells_legal.ensures.0 _ c.tells_legal.ensures.1.legal

pub returns-clause-exclusive : goal.returns-clause-exclusive
returns-clause-exclusive g c =
    subst (λ s. IsExclusive s.seats) (sym c.tells_legal.ensures.1.state)
    (c.every_legal_history.ensures.exclusive c.tells_legal.ensures.0 _ c.tells_legal.ensures.1.legal)

pub returns-clause-may_take : goal.returns-clause-may_take
returns-clause-may_take g c =
    subst (λ s. MayTake g.M.Matter.facts s) (sym c.tells_legal.ensures.1.state)
    (c.every_legal_history.ensures.may_take c.tells_legal.ensures.0 _ c.tells_legal.ensures.1.legal)

pub returns-clause-table : goal.returns-clause-table
returns-clause-table g c =
    subst (λ s. IsTable g.M.Matter.facts s.counts.program s.table) (sym c.tells_legal.ensures.1.state)
    (c.every_legal_history.ensures.table c.tells_legal.ensures.0 _ c.tells_legal.ensures.1.legal)

pub returns-clause-once : goal.returns-clause-once
returns-clause-once g c =
    c.every_legal_history.ensures.once c.tells_legal.ensures.0 _ c.tells_legal.ensures.1.legal

pub returns-clause-needed : goal.returns-clause-needed
returns-clause-needed g c = (
  c.tells_legal.ensures.0,
  c.every_legal_history.ensures.needed c.tells_legal.ensures.0 _ c.tells_legal.ensures.1.legal,
)

pub returns-clause-sections : goal.returns-clause-sections
returns-clause-sections g c =
    subst AreOpened (sym c.tells_legal.ensures.1.state)
    (c.every_legal_history.ensures.sections c.tells_legal.ensures.0 _ c.tells_legal.ensures.1.legal)

pub returns-clause-steady : goal.returns-clause-steady
returns-clause-steady g c =
    subst AreSteady (sym c.tells_legal.ensures.1.state)
    (c.every_legal_history.ensures.steady c.tells_legal.ensures.0 _ c.tells_legal.ensures.1.legal)
