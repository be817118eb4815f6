use Rattle.ruby_grammar.proofs.Texts.{no_fault_in_a_text as law}
use Rattle.ruby_grammar.proofs.laws.no_fault_in_a_text.Goals as goal

pub returns : goal.returns
returns c = λ bytes tree at why a b. law bytes tree at why a b
