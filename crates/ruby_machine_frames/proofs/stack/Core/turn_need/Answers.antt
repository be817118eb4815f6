use Rattle.std.proofs.Common.{◌≡◌, ◌≤◌, ◌<◌, ◌+◌, ◌++◌, ◌∷◌, [], List, Option, Some, None, true, false, refl, ap}
use Rattle.std.proofs.Common.{sym, subst, ◌∙◌, arith}
use Rattle.std.specs.Prelude.{Ok, Err, if◌then◌else◌, codes}
use Rattle.ruby_types.specs.declared.value.Value.TheVariants as value
use Rattle.ruby_runs.specs.Bodies as bodies
use Rattle.ruby_runs.specs.BuiltIns as values
use Rattle.ruby_nodes.specs.declared.table.Node.TheVariants as nd
use Rattle.ruby_machine_names.specs.Profile.{profile}
use Rattle.ruby_machine_names.specs.Names as names
use Rattle.ruby_machine_names.specs.Steps.{here_of}
use Rattle.ruby_machine_frames.specs.declared.frames.Frame.TheVariants as frame
use Rattle.ruby_machine_frames.specs.declared.frames.Control.TheVariants as control
use Rattle.ruby_machine_frames.specs.Rest as rest
use Rattle.ruby_machine_frames.proofs.Steps as steps
use Rattle.ruby_machine_frames.proofs.Levels as levels
use Rattle.ruby_machine_frames.proofs.stack.Core.turn_need.Goals as goal

pub returns-then-spend : goal.returns-then-spend
returns-then-spend c i k =
    let m = c.args.self.now in
    steps.turn_need_kept i k m c.spend.new.self c.need.result c.need.new.self c.args.frame c.args.task
    c.if-spend.ensures (c.need.ensures i k)

pub returns-else-spend : goal.returns-else-spend
returns-else-spend c i k =
    let m = c.args.self.now in
    steps.unspent_kept i k m c.spend.new.self (λ u n. rest.needs i k (rest.with_turns m n) c.args.frame c.args.task)
    (rest.load m + 1) c.spent.result c.if-spend.ensures c.spent.ensures
