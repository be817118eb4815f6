use Rattle.std.proofs.Common.{sym, subst}
use Rattle.ruby_runs.specs.BuiltIns as spec
use Rattle.ruby_runs.specs.Doing.{error_at, spent}
use Rattle.ruby_machine_names.specs.Steps.{here_of}
use Rattle.ruby_machine_frames.specs.Rest.{StopsWith}
use Rattle.ruby_machine_built_in.proofs.Answered.{raised_as_is}
use Rattle.ruby_machine_built_in.proofs.errors.raised_here.Goals as goal

pub returns-in-TurnBudget : goal.returns-in-TurnBudget
returns-in-TurnBudget c =
    let here = here_of c.args.here.now in
    subst (λ k. StopsWith (spec.raised_here here c.args.error k) c.stop_with.result) (sym c.in-TurnBudget.is)
    (c.stop_with.ensures (spent here) c.spent.ensures)

pub returns-in_default : goal.returns-in_default
returns-in_default c =
    let here = here_of c.args.here.now in
    let error = c.args.error in
    subst (λ e. StopsWith e c.stop_with-in_default.result)
    (sym (raised_as_is here error error.class c.in_default.not-TurnBudget))
    (c.stop_with-in_default.ensures (error_at here error.class error.message) c.error-in_default.ensures)
