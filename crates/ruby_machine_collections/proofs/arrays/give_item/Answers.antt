use Rattle.std.proofs.Common.{◌+◌, subst}
use Rattle.ruby_machine_frames.specs.Rest.{KeptFrom, load}
use Rattle.ruby_machine_collections.specs.Collecting.{items_left}
use Rattle.ruby_machine_collections.proofs.arrays.give_item.Goals as goal

pub returns : goal.returns
returns c i =
    let m = c.args.core.now in
    let k = c.args.nodes.now in
    subst (λ ds. KeptFrom i k (items_left i k c.args.more ds m) (load m + 9) c.next_item.result c.next_item.new.core)
    c.in_ok-push.ensures.ok (c.next_item.ensures i)
