use Rattle.ruby_grammar.proofs.Exact.{found as law}
use Rattle.ruby_grammar.proofs.laws.what_is_read_is_a_file.Goals as goal

pub returns : goal.returns
returns c = λ ws tree ms a. law ws tree ms a
