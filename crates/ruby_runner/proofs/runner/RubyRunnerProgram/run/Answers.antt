use Rattle.program_index.specs.Program.{index_in, nodes_in}
use Rattle.ruby_machine.specs.Machines.{still}
use Rattle.ruby_runner.proofs.runner.RubyRunnerProgram.run.Goals as goal

pub returns : goal.returns
returns c =
    let p = c.args.self.now in
    c.next_of.ensures (index_in p) (nodes_in p) (still (index_in p) (nodes_in p) c.args.running.stage)
    (rw c.self.view_is at c.reach-reached.ensures)
