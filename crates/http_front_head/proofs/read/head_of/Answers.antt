use Rattle.http_front_head.proofs.Rows.{judged_is_head}
use Rattle.http_front_head.proofs.read.head_of.Goals as goal

pub returns-in-Found : goal.returns-in-Found
returns-in-Found c =
    judged_is_head c.args.bytes.now c.looked_at-front.result.now c.judged.result c.looked_at-front.ensures
    c.judged.ensures
