use Rattle.system_laws.proofs.Exclusion.{tidy-exclusive}
use Rattle.system_laws.proofs.Keeps.{keeps_after}
use Rattle.system_laws.proofs.Histories.{legal-right, legal-once, legal-needed, keeps-may_take}
use Rattle.system_laws.proofs.laws.every_legal_history.Goals as goal

pub returns-clause-right : goal.returns-clause-right
returns-clause-right g c = legal-right g.M.Matter.facts g.met.M.Matter.same_is_equal

pub returns-clause-exclusive : goal.returns-clause-exclusive
returns-clause-exclusive g c = λ n h legal.
    tidy-exclusive _ (keeps_after g.M.Matter.facts g.met.M.Matter.same_is_equal n h legal).tidy

pub returns-clause-may_take : goal.returns-clause-may_take
returns-clause-may_take g c = λ n h legal.
    keeps-may_take g.M.Matter.facts g.met.M.Matter.same_is_equal _
    (keeps_after g.M.Matter.facts g.met.M.Matter.same_is_equal n h legal)

pub returns-clause-table : goal.returns-clause-table
returns-clause-table g c = λ n h legal.
    (keeps_after g.M.Matter.facts g.met.M.Matter.same_is_equal n h legal).table

pub returns-clause-once : goal.returns-clause-once
returns-clause-once g c = legal-once g.M.Matter.facts g.met.M.Matter.same_is_equal

pub returns-clause-needed : goal.returns-clause-needed
returns-clause-needed g c = legal-needed g.M.Matter.facts g.met.M.Matter.same_is_equal

pub returns-clause-sections : goal.returns-clause-sections
returns-clause-sections g c = λ n h legal.
    (keeps_after g.M.Matter.facts g.met.M.Matter.same_is_equal n h legal).sections

pub returns-clause-steady : goal.returns-clause-steady
returns-clause-steady g c = λ n h legal.
    (keeps_after g.M.Matter.facts g.met.M.Matter.same_is_equal n h legal).steady
