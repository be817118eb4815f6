use Rattle.connection_items.proofs.Answered.{is_answered}
use Rattle.connection_items.proofs.Complete.{complete}
use Rattle.worker.proofs.connection.serve_connection.Goals as goal

pub returns-clause-complete : goal.returns-clause-complete
returns-clause-complete g c = λ all heads rest.
    complete g.S.ServesHeads.rules g.met.S.ServesHeads.lawful _ _ _ all heads rest c.converse.ensures.conversation

pub returns-clause-answered : goal.returns-clause-answered
returns-clause-answered g c =
    is_answered g.S.ServesHeads.rules g.met.S.ServesHeads.lawful _ _ _ c.converse.ensures.conversation
