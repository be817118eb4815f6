use Rattle.ruby_grammar.proofs.Texts.{one_text as law}
use Rattle.ruby_grammar.proofs.laws.one_text.Goals as goal

pub returns : goal.returns
returns c = λ bytes x y a b. law bytes x y a b
