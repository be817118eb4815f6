use Rattle.std.proofs.Common.{ap, ◌∙◌}
use Rattle.std.proofs.lemmas.Result.{IfOk-weaker}
use Rattle.request_actor.specs.declared.actor.Stage.TheVariants.{Shares}
use Rattle.replay_seats.proofs.seats.open_request.Goals as goal

pub returns-clause-opened : goal.returns-clause-opened
returns-clause-opened g c = IfOk-weaker c.start.result _ _ (λ opened started. record {
  stage = started.0 ∙ ap (λ q. Shares q) c.in_ok-request.ensures.request;
  shares = started.1;
}) c.start.ensures.started
