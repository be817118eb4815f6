use Rattle.std.proofs.Common.{◌+◌, [], subst}
use Rattle.ruby_machine_frames.specs.Rest.{KeptFrom, load}
use Rattle.ruby_machine_values.proofs.Beginning.{begun, not_begun}
use Rattle.ruby_machine_collections.specs.Collecting.{pairs_left}
use Rattle.ruby_machine_collections.proofs.hashes.begin_hash.Goals as goal

pub returns-then-spend : goal.returns-then-spend
returns-then-spend c i =
    let k = c.args.nodes.now in
    let m = c.spend.new.self in
    begun i k (pairs_left i k c.args.first []) c.args.core.now m c.next_pair.result c.next_pair.new.core
    c.if-spend.ensures
    (subst (λ ps. KeptFrom i k (pairs_left i k c.args.first ps m) (load m + 9) c.next_pair.result c.next_pair.new.core)
    c.new.ensures.items (c.next_pair.ensures i))

pub returns-else-spend : goal.returns-else-spend
returns-else-spend c i =
    let k = c.args.nodes.now in
    not_begun i k (pairs_left i k c.args.first []) c.args.core.now c.spend.new.self c.spent.result c.if-spend.ensures
    c.spent.ensures
