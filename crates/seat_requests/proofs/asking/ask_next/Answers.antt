use Rattle.std.proofs.lemmas.Result.{IfOk-weaker}
use Rattle.seat_requests.proofs.Going.{ready_goes, goes_on_program}
use Rattle.seat_requests.proofs.asking.ask_next.Goals as goal

pub returns-clause-order : goal.returns-clause-order
returns-clause-order g c = IfOk-weaker c.next.result _ _
    (λ asked goes. goes_on_program g.M.Requests.talks _ _ c.args.actor.now c.args.answered asked c.next.new.self
    c.program.ensures goes)
    c.next.ensures.order

pub returns-clause-stands : goal.returns-clause-stands
returns-clause-stands g c = IfOk-weaker c.next.result _ _
    (λ asked goes. ready_goes g.M.Matter.facts g.met.M.Matter.same_is_equal g.M.Requests.talks
    g.met.M.Requests.replies_follow c.tells_legal.ensures.0 c.args.system.now.state c.args._seat c.tells_legal.ensures.1
    c.args.actor.now c.args.answered asked c.next.new.self c.requires.ready
    (goes_on_program g.M.Requests.talks _ _ c.args.actor.now c.args.answered asked c.next.new.self c.program.ensures
    goes))
    c.next.ensures.order
