use Rattle.std.proofs.Common.{◌+◌, true, subst}
use Rattle.ruby_machine_frames.specs.Rest.{KeptFrom, load}
use Rattle.ruby_machine_collections.specs.Collecting.{parts_left}
use Rattle.ruby_machine_collections.proofs.texts.give_inside.Goals as goal

pub returns : goal.returns
returns c i =
    let m = c.args.core.now in
    let k = c.args.nodes.now in
    subst (λ bs. KeptFrom i k (parts_left i k c.args.more true bs m) (load m + 9) c.next_part.result
    c.next_part.new.core) c.in_ok-push_to_s.ensures (c.next_part.ensures i)
