use Rattle.std.proofs.Common.{arith}
use Rattle.http_front_head.proofs.ManyLines.{exceeds_line_count, cut_at_exceeds, exceeds_cut_at}
use Rattle.http_front_head.proofs.kind.is_crowded.Goals as goal

pub returns-in-None-clause-few : goal.returns-in-None-clause-few
returns-in-None-clause-few c = λ no x.
    (let many = exceeds_line_count c.args.bytes.now x in omega (arith, many, c.in-None.ensures.fewer))

pub returns-in-Some-clause-many : goal.returns-in-Some-clause-many
returns-in-Some-clause-many c = λ t.
    cut_at_exceeds c.args.bytes.now c.in-Some.end c.in-Some.ensures.place c.in-Some.ensures.there
    (c.can_go_on.ensures.none t) (c.can_go_on.ensures.may t)

pub returns-in-Some-clause-few : goal.returns-in-Some-clause-few
returns-in-Some-clause-few c = λ no x.
    (let cut = exceeds_cut_at c.args.bytes.now c.in-Some.end c.in-Some.ensures.place x in
    c.can_go_on.ensures.many no cut.0 cut.1 cut.2)
