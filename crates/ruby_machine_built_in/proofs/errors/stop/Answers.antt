use Rattle.std.proofs.Common.{subst}
use Rattle.ruby_runs.specs.Doing.{error_at}
use Rattle.ruby_machine_names.specs.Steps.{here_of}
use Rattle.ruby_machine_frames.specs.Rest.{StopsWith}
use Rattle.ruby_machine_built_in.proofs.errors.stop.Goals as goal

pub returns-in-Ok : goal.returns-in-Ok
returns-in-Ok c text is =
    let here = here_of c.args.here.now in
    subst (λ t. StopsWith (error_at here c.args.class t) c.stop_with.result) (rw c.in-Ok.is at is)
    (c.stop_with.ensures (error_at here c.args.class c.in-Ok.message) c.error.ensures)
