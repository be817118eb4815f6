use Rattle.ruby_grammar.proofs.FaultKinds.{one_fault as law}
use Rattle.ruby_grammar.proofs.laws.one_first_fault.Goals as goal

pub returns : goal.returns
returns c = λ ws end at at2 kind kind2 a b. law ws end at at2 kind kind2 a b
