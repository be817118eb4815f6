use Rattle.http_front_head.proofs.Rows.{answer_is_within, answer_grows, answer_stays, answer_is_short, answer_has_lines}
use Rattle.http_front_head.proofs.read.read_head.Goals as goal

pub returns-clause-within : goal.returns-clause-within
returns-clause-within c = answer_is_within c.args.bytes.now c.head_of.result c.head_of.ensures

pub returns-clause-grows : goal.returns-clause-grows
returns-clause-grows c = answer_grows c.args.bytes.now c.head_of.result c.head_of.ensures

pub returns-clause-hopeless : goal.returns-clause-hopeless
returns-clause-hopeless c = answer_stays c.args.bytes.now c.head_of.result c.head_of.ensures

pub returns-clause-short : goal.returns-clause-short
returns-clause-short c = answer_is_short c.args.bytes.now c.head_of.result c.head_of.ensures

pub returns-clause-lines : goal.returns-clause-lines
returns-clause-lines c = answer_has_lines c.args.bytes.now c.head_of.result c.head_of.ensures
