use Rattle.std.proofs.Common.{◌∙◌}
use Rattle.generation_runs.proofs.Told.{went}
use Rattle.generation_runs.proofs.run.RequestRun.go_on.Goals as goal
use Rattle.program_index.specs.Program.{index_in, nodes_in}

pub returns : goal.returns
returns c = c.told.ensures _ (went index_in nodes_in c.program.result.now c.args.self.generation
    c.args.self.machine.stage c.reach-reached.new.self.stage c.reach-reached.result
    (c.program.ensures ∙ c.runner.ensures) c.reach-reached.ensures)
