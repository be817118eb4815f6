use Rattle.serve_port.proofs.work.serve_link.Goals as goal

pub returns-clause-answered : goal.returns-clause-answered
returns-clause-answered g c = λ whole.
    c.serve_connection-served.ensures.answered c.requires.unused.nothing_read c.requires.unused.nothing_written
    (c.fell_short.ensures whole)
