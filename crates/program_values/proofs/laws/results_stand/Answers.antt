use Rattle.by_need.specs.Rounds.{known}
use Rattle.program_theory.specs.Applications.{rules_of}
use Rattle.program_values.proofs.Known.{done_stands, known_stands, part_stands}
use Rattle.program_values.proofs.laws.results_stand.Goals as goal

pub returns : goal.returns
returns c = λ app nothing_new written t params K part v e. done_stands app nothing_new written K
    (part_stands app K (known (rules_of app)) part (known_stands app nothing_new written)) t params v e
