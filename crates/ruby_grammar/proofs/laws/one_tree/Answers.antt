use Rattle.ruby_grammar.proofs.Exact.{one_tree as law}
use Rattle.ruby_grammar.proofs.laws.one_tree.Goals as goal

pub returns : goal.returns
returns c = λ ws x y a b. law ws x y a b
