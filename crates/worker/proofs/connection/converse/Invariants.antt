use Rattle.std.proofs.Common.{[]}
use Rattle.connection_items.specs.Going.{Going}
use Rattle.worker.specs.Serves.{sight}
use Rattle.worker.proofs.connection.converse.Given as goal

abbrev pub invariant-turns : goal.invariant-turns
invariant-turns g l = record {
  going : Going g.S.ServesHeads.rules
      (sight (g.S.ServesHeads.standing l.fn.server) [] (g.L.Link.was_read l.fn.link) (g.L.Link.left l.fn.link)
      (g.L.Link.was_written l.fn.link) (g.L.Link.read_faults l.fn.link) (g.L.Link.write_faults l.fn.link))
      (sight (g.S.ServesHeads.standing l.server) l.receipts.items (g.L.Link.was_read l.link) (g.L.Link.left l.link)
      (g.L.Link.was_written l.link) (g.L.Link.read_faults l.link) (g.L.Link.write_faults l.link))
      l.window;
  rest : g.S.ServesHeads.is_at_rest l.server;
}
