use Rattle.std.proofs.Common.{◌+◌, refl, ap, sym, ◌∙◌}
use Rattle.connection_items.specs.Answers.{LinkIsAnswered}
use Rattle.serve_port.specs.Became.{became_itself, became_more}
use Rattle.serve_port.proofs.Told.{answered_more, none_told}
use Rattle.serve_port.proofs.work.work.Goals as goal

pub links-init : goal.links-init
links-init g c =
    let answered = λ (link : g.row.Q-Conn.Denot). LinkIsAnswered g.S.ServesHeads.rules
    (g.Q.Conn.Link.read_faults link) (g.Q.Conn.Link.write_faults link) (g.Q.Conn.Link.was_read link)
    (g.Q.Conn.Link.left link) (g.Q.Conn.Link.was_written link) in
    record {
      parts = c.requires.share.0;
      count = c.requires.closer ∙ sym c.requires.share.1;
      ready = c.requires.ready;
      became = became_itself (g.S.ServesHeads.standing c.args.worker.server);
      answered = λ whole. none_told answered (g.C.Closer.told c.args.worker.closer) 0 refl c.tells_nothing.ensures;
    }

pub links-preserved : goal.links-preserved
links-preserved g c =
    let answered = λ (link : g.row.Q-Conn.Denot). LinkIsAnswered g.S.ServesHeads.rules
    (g.Q.Conn.Link.read_faults link) (g.Q.Conn.Link.write_faults link) (g.Q.Conn.Link.was_read link)
    (g.Q.Conn.Link.left link) (g.Q.Conn.Link.was_written link) in
    let served = c.serve_link-fell.ensures in
    record {
      parts = c.take_next.ensures.parts ∙ c.links.invariant.parts;
      count = c.close.ensures.count ∙ ap (λ n. n + 1) c.links.invariant.count
          ∙ sym c.in-Some-take_next.ensures.some.0;
      ready = served.ready;
      became = became_more _ _ _ c.links.invariant.became served.became;
      answered = λ whole.
          let both = c.either-short.ensures whole in
          answered_more answered (g.C.Closer.told c.links.closer) (g.C.Closer.told c.close.new.self)
          c.serve_link-fell.new.link c.serve_link-fell.result c.close.ensures.told (c.links.invariant.answered both.0)
          served.answered both.1;
    }
