use Rattle.std.proofs.Common.{[]}
use Rattle.ruby_machine_collections.specs.Collecting.{items_left}
use Rattle.ruby_machine_values.proofs.Beginning.{begun, not_begun}
use Rattle.ruby_machine_collections.proofs.arrays.begin_array.Goals as goal

pub returns-then-spend : goal.returns-then-spend
returns-then-spend c i =
    let k = c.args.nodes.now in
    begun i k (items_left i k c.args.first []) c.args.core.now c.spend.new.self c.next_item.result c.next_item.new.core
    c.if-spend.ensures (rw c.new.ensures at c.next_item.ensures i)

pub returns-else-spend : goal.returns-else-spend
returns-else-spend c i =
    let k = c.args.nodes.now in
    not_begun i k (items_left i k c.args.first []) c.args.core.now c.spend.new.self c.spent.result c.if-spend.ensures
    c.spent.ensures
