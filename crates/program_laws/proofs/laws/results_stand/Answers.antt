use Rattle.program_application.specs.Applications.{application_of}
use Rattle.program_application.proofs.Files.{program_is_written}
use Rattle.program_index.specs.Content.{used_files}
use Rattle.program_index.specs.Controllers.{controller_of}
use Rattle.program_replies.proofs.Profiled.{profile_names_nothing_new}
use Rattle.program_values.proofs.Known.{done_stands, known_stands, part_stands}
use Rattle.program_laws.proofs.Programs.{params_stand}
use Rattle.program_laws.specs.Programs.{rules_in}
use Rattle.by_need.specs.Rounds.{known}
use Rattle.program_laws.proofs.laws.results_stand.Goals as goal

pub returns : goal.returns
returns c =
    let p = c.args.program.now in
    let t = c.args.task.now in
    let app = application_of p in
    let new = profile_names_nothing_new (used_files p) (controller_of p.config) in
    let written = program_is_written p.files p c.is_of_its_files.ensures in
    λ may K part v e. done_stands app new written K
    (part_stands app K (known (rules_in p)) part (known_stands app new written)) t (params_stand p t may) v e
