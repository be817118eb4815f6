use Rattle.program_application.specs.Applications.{application_of}
use Rattle.program_application.proofs.Files.{program_is_written}
use Rattle.program_index.specs.Content.{used_files}
use Rattle.program_index.specs.Controllers.{controller_of}
use Rattle.program_replies.proofs.Profiled.{profile_names_nothing_new}
use Rattle.program_values.proofs.Known.{guarded_alike}
use Rattle.program_laws.proofs.Programs.{params_stand}
use Rattle.program_laws.proofs.laws.no_call_names_what_is_not_there.Goals as goal

pub returns : goal.returns
returns c =
    let p = c.args.program.now in
    let t = c.args.task.now in
    λ may other K part. guarded_alike (application_of p)
    (profile_names_nothing_new (used_files p) (controller_of p.config))
    (program_is_written p.files p c.is_of_its_files.ensures) other t (params_stand p t may) K part
