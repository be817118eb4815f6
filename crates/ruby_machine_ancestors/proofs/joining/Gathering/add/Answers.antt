use Rattle.std.proofs.Common.{refl}
use Rattle.ruby_machine_ancestors.proofs.Gathered.{new_gathers, old_gathers}
use Rattle.ruby_machine_ancestors.proofs.joining.Gathering.add.Goals as goal

pub returns-then-not-branch : goal.returns-then-not-branch
returns-then-not-branch c paths gathered =
    old_gathers c.args.path.now paths c.args.self.now
    (record { keys = c.insert.new.keys; modules = c.args.self.now.modules }) c.in_ok-insert.field-0 gathered
    c.in_ok-insert.ensures.keys c.in_ok-insert.ensures.is_new c.if-not-branch.true refl

pub returns : goal.returns
returns c paths gathered =
    new_gathers c.args.path.now paths c.args.self.now
    (record { keys = c.insert.new.keys; modules = c.push.new.modules }) c.in_ok-insert.field-0 gathered
    c.in_ok-insert.ensures.keys c.in_ok-insert.ensures.is_new c.in_ok-copy.field-0 c.in_ok-copy.ensures
    c.if-not-branch.false c.in_ok-push.ensures
