use Rattle.std.proofs.Common.{ap, suc, sym, ◌∙◌, arith}
use Rattle.ruby_runs.specs.Runs.{const_run, run_limits}
use Rattle.ruby_machine_names.specs.Profile.{profile}
use Rattle.ruby_machine_files.specs.Files.{finish}
use Rattle.ruby_machine_frames.specs.Rest as rest
use Rattle.ruby_machine_frames.specs.declared.frames.Control.TheVariants as control
use Rattle.ruby_machine.proofs.Stops.{assigned_means, reaches_along}
use Rattle.ruby_machine.proofs.goes.run_const.Goals as goal

pub returns-in_ok-core-in-Assigned : goal.returns-in_ok-core-in-Assigned
returns-in_ok-core-in-Assigned g c =
    let i = g.P.Lookups.index c.args.program.now in
    let k = g.P.Lookups.entries c.args.program.now in
    let path = c.args.path.now in
    let core = c.in_ok-core-in-Assigned.core in
    let now = control.Eval c.in-Assigned.first in
    let before = rest.meaning i k core now in
    reaches_along i k (const_run i profile run_limits path (i.place path) run_limits.task_turns finish) before
    c.run_on.result
    (ap (λ p. const_run i profile run_limits path p run_limits.task_turns finish) c.in-Assigned.ensures
    ∙ sym (assigned_means i k c.in-Assigned.file.now c.in-Assigned.scopes.now c.in-Assigned.first core
    c.in_ok-core-in-Assigned.ensures))
    (c.run_on.ensures before (suc (rest.work core now)) ((λ j. before), omega arith))
