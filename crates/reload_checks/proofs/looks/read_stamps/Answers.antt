use Rattle.std.proofs.Common.{[], ◌∷◌, sym, ◌∙◌}
use Rattle.reload_checks.specs.Checks.{exceeds, stamps_fail, stamps_lack, stamps_read}
use Rattle.reload_checks.proofs.looks.read_stamps.Goals as goal

pub returns-in-Some-clause-refused : goal.returns-in-Some-clause-refused
returns-in-Some-clause-refused g c = (
  stamps_read c.in-Read.stamps ∷ [],
  exceeds c.in-Read.stamps c.in-Some.fault (sym c.limit.ensures ∙ c.in-Some.is),
  c.in-Read.ensures.given,
)

pub returns-in-Failed-clause-refused : goal.returns-in-Failed-clause-refused
returns-in-Failed-clause-refused g c = ([], stamps_fail, c.in-Failed.ensures.given)

pub returns-in-Memory-clause-refused : goal.returns-in-Memory-clause-refused
returns-in-Memory-clause-refused g c = ([], stamps_lack, c.in-Memory.ensures.given)
