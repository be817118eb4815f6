use Rattle.std.proofs.Common.{◌≡◌, false}
use Rattle.connection_items.specs.Answers.{LinkIsAnswered}
use Rattle.serve_port.specs.Answered.{TellsAnswered}
use Rattle.serve_port.specs.Became.{Became}
use Rattle.serve_port.proofs.work.work.Given as goal

abbrev pub invariant-links : goal.invariant-links
invariant-links g l = record {
  parts : l.share.parts ≡ 1;
  count : g.C.Closer.count l.closer ≡ l.share.amount;
  ready : g.S.ServesHeads.is_at_rest l.server;
  became : Became (g.S.ServesHeads.standing l.fn.worker.server) (g.S.ServesHeads.standing l.server);
  answered : l.short ≡ false → TellsAnswered (λ link. LinkIsAnswered g.S.ServesHeads.rules
      (g.Q.Conn.Link.read_faults link) (g.Q.Conn.Link.write_faults link) (g.Q.Conn.Link.was_read link)
      (g.Q.Conn.Link.left link) (g.Q.Conn.Link.was_written link)) (g.C.Closer.told l.closer);
}
