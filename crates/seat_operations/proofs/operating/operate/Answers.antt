use Rattle.std.proofs.lemmas.Result.{IfOk-weaker}
use Rattle.seat_operations.proofs.Going.{does_goes}
use Rattle.seat_operations.proofs.Moving.{does_moves}
use Rattle.seat_operations.proofs.operating.operate.Goals as goal

pub returns-clause-goes : goal.returns-clause-goes
returns-clause-goes g c = IfOk-weaker c.operate_on.result _ _
    (λ came does. does_goes g.M.Matter.facts g.met.M.Matter.same_is_equal g.M.Requests.talks g.M.Replays.words
    g.M.Reloads.sources g.met.M.Reloads.limits_refuse g.met.M.Reloads.faults_refuse c.tells_legal.ensures.0
    c.args.system.now.state c.operate_on.new.system.state c.args.files.now.held c.args.seat c.args.actor.now
    c.tells_legal.ensures.1 c.tells_laws.ensures.exclusive c.args.asked came c.requires.standing does)
    c.operate_on.ensures.does

pub returns-clause-moved : goal.returns-clause-moved
returns-clause-moved g c = IfOk-weaker c.operate_on.result _ _
    (λ came does. does_moves g.M.Matter.facts g.M.Replays.words g.M.Reloads.sources c.args.system.now.state
    c.operate_on.new.system.state c.args.files.now.held c.args.seat c.args.actor.now c.args.asked came does)
    c.operate_on.ensures.does
