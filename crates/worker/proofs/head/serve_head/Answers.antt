use Rattle.worker.proofs.head.serve_head.Goals as goal

pub answer-requires-after_bounds : goal.answer-requires-after_bounds
answer-requires-after_bounds g c κs within =
    (g.S.ServesHeads.standing c.args.server.now, (c.args.parts.now, c.in-Ready.ensures.ready))
