use Rattle.outside.proofs.TreeLaws.{agrees, lists_watched, stamps_watched}
use Rattle.outside.proofs.mem_tree.MemTreeTree.stamps.Goals as goal

pub returns-then-is_due-clause-same_contents : goal.returns-then-is_due-clause-same_contents
returns-then-is_due-clause-same_contents c =
    agrees c.self.inside.watched c.self.inside.given.items c.self.inside.writes c.self.invariant.2

pub returns-in-Ok-clause-watched : goal.returns-in-Ok-clause-watched
returns-in-Ok-clause-watched c = stamps_watched c.args.self.now.held c.in-Ok.stamps c.in-Ok.ensures.stamps
    c.in-Ok.ensures.watched

pub returns-then-is_due-clause-holds_watched : goal.returns-then-is_due-clause-holds_watched
returns-then-is_due-clause-holds_watched c =
    lists_watched c.self.inside.watched c.self.invariant.0 c.self.invariant.3
