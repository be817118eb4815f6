use Rattle.std.proofs.Common.{None, Some}
use Rattle.worker_tests.proofs.Lines.{left_out, served}
use Rattle.worker_tests.proofs.line_server.LineServerServesHeads.enter.Goals as goal

pub returns-in-Ok-clause-enters : goal.returns-in-Ok-clause-enters
returns-in-Ok-clause-enters g c = λ before letter ready.
    served c.args.self.now.items c.push.new.self before letter c.args.ready (Some c.args.ready) c.in-Ok.ensures.ok
    ready.0 ready.1

pub returns-in-Err-clause-enters : goal.returns-in-Err-clause-enters
returns-in-Err-clause-enters g c = λ before letter ready.
    rw c.in-Err.ensures.err (left_out c.args.self.now.items before letter None ready.0)
