use Rattle.ruby_runs.specs.Doing.{spent}
use Rattle.ruby_machine_names.specs.Steps.{here_of}
use Rattle.ruby_machine_frames.proofs.stack.Core.spent.Goals as goal

pub returns : goal.returns
returns c = c.stop_with.ensures (spent (here_of c.args.self.now.here)) c.spent.ensures
