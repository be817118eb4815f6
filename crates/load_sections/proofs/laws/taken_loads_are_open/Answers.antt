use Rattle.load_sections.proofs.Opening.{take_opens}
use Rattle.load_sections.proofs.laws.taken_loads_are_open.Goals as goal

pub returns : goal.returns
returns g c = take_opens g.M.Matter.facts g.met.M.Matter.same_is_equal
