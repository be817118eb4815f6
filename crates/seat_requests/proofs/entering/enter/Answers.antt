use Rattle.std.proofs.Common.{◌∙◌, ap, sym}
use Rattle.seat_requests.proofs.Going.{refused_by, is_refused, is_limited}
use Rattle.seat_requests.proofs.entering.enter.Goals as goal

pub returns-else-is_limit : goal.returns-else-is_limit
returns-else-is_limit g c =
    let by = refused_by g.M.Matter.facts c.reserve.new.self.state c.apply.new.self.state c.args.seat c.args.act
    c.apply.result c.in-Refused.guard c.in-Refused.event c.in-Refused.is
    (λ none. (c.apply.ensures.done none).0)
    (λ guard some. let refused = c.apply.ensures.refused guard some in (refused.0, ap (λ b. b.state) refused.1)) in
    is_refused g.M.Matter.facts c.reserve.new.self.state c.args.system.now.state c.apply.new.self.state c.args.seat
    c.args.act c.in-Refused.event.act c.in-Refused.guard c.in_ok-reserve.ensures.state by
    (sym c.is_limit.ensures ∙ c.if-is_limit.false)

pub returns-then-is_limit : goal.returns-then-is_limit
returns-then-is_limit g c =
    let by = refused_by g.M.Matter.facts c.reserve.new.self.state c.apply.new.self.state c.args.seat c.args.act
    c.apply.result c.in-Refused.guard c.in-Refused.event c.in-Refused.is
    (λ none. (c.apply.ensures.done none).0)
    (λ guard some. let refused = c.apply.ensures.refused guard some in (refused.0, ap (λ b. b.state) refused.1)) in
    is_limited g.M.Matter.facts c.reserve.new.self.state c.args.system.now.state c.apply.new.self.state c.args.seat
    c.args.act c.in-Refused.event.act c.in-Refused.guard c.in_ok-reserve.ensures.state by
    (sym c.is_limit.ensures ∙ c.if-is_limit.true)
