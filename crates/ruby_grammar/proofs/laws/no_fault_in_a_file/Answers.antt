use Rattle.ruby_grammar.proofs.FaultKinds.{no_fault as law}
use Rattle.ruby_grammar.proofs.laws.no_fault_in_a_file.Goals as goal

pub returns : goal.returns
returns c = λ ws tree end at kind a b. law ws tree end at kind a b
