use Rattle.load_sections.proofs.Staying.{loading_stays}
use Rattle.load_sections.proofs.laws.load_sections_stay.Goals as goal

pub returns : goal.returns
returns g c = λ theory. loading_stays g.M.Matter.facts (g.Y.Theory.rules theory) (g.Y.Program.runs theory)
