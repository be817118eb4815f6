use Rattle.ruby_grammar.proofs.FaultKinds.{first_fault as law}
use Rattle.ruby_grammar.proofs.laws.what_stops_is_the_first_fault.Goals as goal

pub returns : goal.returns
returns c = λ ws end o a f. law ws end o a f
