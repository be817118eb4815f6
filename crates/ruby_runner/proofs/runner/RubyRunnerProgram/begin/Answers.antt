use Rattle.std.proofs.lemmas.Result.{IfOk-weaker}
use Rattle.program_index.specs.Program.{index_in, nodes_in}
use Rattle.ruby_runner.proofs.runner.RubyRunnerProgram.begin.Goals as goal

pub returns : goal.returns
returns c = IfOk-weaker c.file_task.result _ _ (λ machine e is. e)
    (c.file_task.ensures (index_in c.args.self.now) (nodes_in c.args.self.now))
