use Rattle.std.proofs.Common.{sym, subst}
use Rattle.std.proofs.lemmas.Result.{IfOk-weaker}
use Rattle.replay_seats.proofs.seats.request_of.Goals as goal

pub returns-clause-begins : goal.returns-clause-begins
returns-clause-begins g c = IfOk-weaker c.request_of.result _ _ (λ request is. subst g.M.Matter.facts.IsRequest (sym is)
    (g.met.M.Replays.requests_begin c.args.target.now)) c.request_of.ensures
