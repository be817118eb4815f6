use Rattle.ruby_machine_frames.proofs.Steps.{items_go, items_end}
use Rattle.ruby_machine_collections.proofs.arrays.next_item.Goals as goal

pub returns-in-Some : goal.returns-in-Some
returns-in-Some c i =
    items_go i c.args.nodes.now c.args.core.now c.push_eval.result c.push_eval.new.self c.args.more c.in-Some.first
    c.in-Some.others c.args.done c.in-Some.ensures (c.push_eval.ensures i c.args.nodes.now)

pub returns-in-None : goal.returns-in-None
returns-in-None c i =
    items_end i c.args.nodes.now c.args.core.now c.made.result c.made.new.core c.args.more c.args.done
    c.in-None.ensures (c.made.ensures i c.args.nodes.now)
