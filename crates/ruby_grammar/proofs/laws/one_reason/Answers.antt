use Rattle.ruby_grammar.proofs.Texts.{one_reason as law}
use Rattle.ruby_grammar.proofs.laws.one_reason.Goals as goal

pub returns : goal.returns
returns c = λ bytes at at2 why why2 a b. law bytes at at2 why why2 a b
