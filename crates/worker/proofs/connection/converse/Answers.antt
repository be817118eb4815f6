use Rattle.connection_items.proofs.Steps.{begun, out_of_memory}
use Rattle.worker.proofs.connection.converse.Goals as goal

pub returns-in_default-clause-conversation : goal.returns-in_default-clause-conversation
returns-in_default-clause-conversation g c =
    let rules = g.S.ServesHeads.rules in
    rw (c.from_vec.ensures, c.new-receipts.ensures.items)
    (out_of_memory rules g.met.S.ServesHeads.lawful _ _ _ (begun rules _))

pub turns-init : goal.turns-init
turns-init g c =
    record {
      going = rw (c.new-receipts.ensures.items, c.in-Ok.ensures) (begun g.S.ServesHeads.rules _);
      rest = c.requires;
    }
