use Rattle.load_rules.proofs.Readable.{other_tree_is_not_readable}
use Rattle.load_rules.proofs.reading.read_text.Goals as goal

pub returns-in-None : goal.returns-in-None
returns-in-None c =
    other_tree_is_not_readable c.args.class.now c.args.bytes.now c.in-Ok.tree c.in-Ok.ensures.found
    c.in-None.ensures.found

pub returns-in_ok-read_fault-in-Err : goal.returns-in_ok-read_fault-in-Err
returns-in_ok-read_fault-in-Err c =
    c.in_ok-read_fault-in-Err.ensures c.args.class.now c.args.bytes.now c.in-Err.ensures.fault
