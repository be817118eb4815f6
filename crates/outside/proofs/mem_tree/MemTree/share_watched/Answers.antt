use Rattle.std.proofs.Common.{ap}
use Rattle.outside.proofs.TreeLaws.{held_watched, agrees_as}
use Rattle.outside.proofs.mem_tree.MemTree.share_watched.Goals as goal

pub returns-in_err-files-in-None-clause-watched : goal.returns-in_err-files-in-None-clause-watched
returns-in_err-files-in-None-clause-watched c = held_watched c.self.inside.watched c.args.self.now.held
    (ap (λ t. t.held) c.self.view_is) c.self.invariant.0 c.files-held.ensures.rising

pub returns-in_err-copy-in-None-clause-watched : goal.returns-in_err-copy-in-None-clause-watched
returns-in_err-copy-in-None-clause-watched c = held_watched c.self.inside.watched c.args.self.now.held
    (ap (λ t. t.held) c.self.view_is) c.self.invariant.0 c.files-held.ensures.rising

pub returns-in-Some-clause-watched : goal.returns-in-Some-clause-watched
returns-in-Some-clause-watched c = held_watched c.self.inside.watched c.args.self.now.held
    (ap (λ t. t.held) c.self.view_is) c.self.invariant.0 c.files-held.ensures.rising

pub returns-in_ok-copy-in-None-clause-watched : goal.returns-in_ok-copy-in-None-clause-watched
returns-in_ok-copy-in-None-clause-watched c = held_watched c.self.inside.watched c.args.self.now.held
    (ap (λ t. t.held) c.self.view_is) c.self.invariant.0 c.files-held.ensures.rising

pub returns-in_err-files-in-None-clause-agrees : goal.returns-in_err-files-in-None-clause-agrees
returns-in_err-files-in-None-clause-agrees c =
    agrees_as c.self.inside.watched c.self.inside.given.items c.self.inside.writes c.args.self.now
    (ap (λ t. t.held) c.self.view_is) (ap (λ t. t.given) c.self.view_is) c.self.invariant.2

pub returns-in_err-copy-in-None-clause-agrees : goal.returns-in_err-copy-in-None-clause-agrees
returns-in_err-copy-in-None-clause-agrees c =
    agrees_as c.self.inside.watched c.self.inside.given.items c.self.inside.writes c.args.self.now
    (ap (λ t. t.held) c.self.view_is) (ap (λ t. t.given) c.self.view_is) c.self.invariant.2

pub returns-in-Some-clause-agrees : goal.returns-in-Some-clause-agrees
returns-in-Some-clause-agrees c = agrees_as c.self.inside.watched c.self.inside.given.items c.self.inside.writes
    c.args.self.now (ap (λ t. t.held) c.self.view_is) (ap (λ t. t.given) c.self.view_is) c.self.invariant.2

pub returns-in_ok-copy-in-None-clause-agrees : goal.returns-in_ok-copy-in-None-clause-agrees
returns-in_ok-copy-in-None-clause-agrees c =
    agrees_as c.self.inside.watched c.self.inside.given.items c.self.inside.writes c.args.self.now
    (ap (λ t. t.held) c.self.view_is) (ap (λ t. t.given) c.self.view_is) c.self.invariant.2
