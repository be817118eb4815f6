use Rattle.std.proofs.Common.{◌+◌, [], false, subst}
use Rattle.ruby_machine_frames.specs.Rest.{KeptFrom, load}
use Rattle.ruby_machine_values.proofs.Beginning.{begun}
use Rattle.ruby_machine_collections.specs.Collecting.{parts_left}
use Rattle.ruby_machine_collections.proofs.texts.begin_parts.Goals as goal

pub returns-then-spend : goal.returns-then-spend
returns-then-spend c i =
    let k = c.args.nodes.now in
    let m = c.spend.new.self in
    begun i k (parts_left i k c.args.first false []) c.args.core.now m c.next_part.result c.next_part.new.core
    c.if-spend.ensures
    (subst (λ bs. KeptFrom i k (parts_left i k c.args.first false bs m) (load m + 9) c.next_part.result
    c.next_part.new.core) c.new.ensures.items (c.next_part.ensures i))
