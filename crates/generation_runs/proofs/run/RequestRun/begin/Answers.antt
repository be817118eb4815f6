use Rattle.std.proofs.Common.{◌≡◌, subst}
use Rattle.generation_runs.proofs.Told.{begun_left}
use Rattle.generation_runs.proofs.run.RequestRun.begin.Goals as goal
use Rattle.program_application.specs.Applications.{application_of}
use Rattle.program_index.specs.Content.{Content}
use Rattle.program_index.specs.Program.{index_in, nodes_in}
use Rattle.program_theory.specs.Applications.{meaning_in}
use Rattle.ruby_machine.specs.Machines.{still}
use Rattle.ruby_types.specs.declared.request.Task.TheVariants as task

pub returns : goal.returns
returns c = begun_left c.share.result c.args.generation.now c.args.request.now c.in_ok-copy_request.field-0
    c.in_ok-begin_request.field-0 c.share.ensures c.in_ok-copy_request.ensures
    (subst (λ (p : Content). still (index_in p) (nodes_in p) c.in_ok-begin_request.field-0.stage
    ≡ meaning_in (application_of p) (task.Request c.args.request.now)) c.runner.ensures c.in_ok-begin_request.ensures)
