use Rattle.std.proofs.Common.{None}
use Rattle.worker_tests.proofs.Lines.{left_out}
use Rattle.worker_tests.proofs.line_server.LineServerServesHeads.abandon.Goals as goal

pub returns-clause-abandons : goal.returns-clause-abandons
returns-clause-abandons g c = λ before letter ready. left_out c.args.self.now.items before letter None ready.0
