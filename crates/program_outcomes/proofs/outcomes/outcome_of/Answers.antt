use Rattle.std.proofs.Common.{◌∙◌, ◌∷◌, ap}
use Rattle.ruby_types.specs.declared.request.Task.TheVariants as task
use Rattle.program_files.specs.Tasks.{tasks_by}
use Rattle.program_faults.specs.Read.{used}
use Rattle.program_tasks.specs.Placed.{rest_by}
use Rattle.program_tasks.proofs.TaskLaws.{rest_told}
use Rattle.program_outcomes.proofs.outcomes.outcome_of.Goals as goal

pub returns : goal.returns
returns c = record {
  fault = c.in_ok-fault.ensures;
  tasks = c.in_ok-tasks.ensures
      ∙ ap (λ b. task.File c.args.file.now.path.now ∷ rest_by (used c.args.file.now) b) c.is_some.ensures
      ∙ rest_told (used c.args.file.now) c.in_ok-fault.fault
      ∙ ap (tasks_by (used c.args.file.now)) c.in_ok-fault.ensures;
}
