use Rattle.std.proofs.Common.{Some, refl}
use Rattle.worker_tests.specs.Line.{standing_of}
use Rattle.worker_tests.proofs.Lines.{left_out}
use Rattle.worker_tests.proofs.line_server.LineServerServesHeads.take.Goals as goal

pub returns-then-len-self-clause-takes : goal.returns-then-len-self-clause-takes
returns-then-len-self-clause-takes g c =
    left_out c.args.self.now.items (standing_of c.args.self.now.items) c.args.parts.now (Some 55) refl
