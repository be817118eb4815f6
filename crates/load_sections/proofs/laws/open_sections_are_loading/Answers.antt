use Rattle.load_sections.proofs.Opening.{open_is_loading}
use Rattle.load_sections.proofs.laws.open_sections_are_loading.Goals as goal

pub returns : goal.returns
returns g c = λ theory. open_is_loading g.M.Matter.facts g.met.M.Matter.same_is_equal (g.Y.Theory.rules theory)
    (g.Y.Theory.laws theory) (g.Y.Program.runs theory)
