use Rattle.std.proofs.Common.{refl}
use Rattle.generation_runs.proofs.Told.{ends_told, of_result}
use Rattle.generation_runs.proofs.run.ended.Goals as goal
use Rattle.program_application.specs.Applications.{application_of}

pub returns : goal.returns
returns c = of_result c.reply_of.result _ _
    (λ reply told before e. ends_told (application_of c.args.run.now.generation) c.args.run.now.request c.args.answered
    reply (λ run h. told (application_of c.args.run.now.generation) run (λ v. refl) h) before e)
    c.reply_of.ensures
