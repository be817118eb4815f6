use Rattle.ruby_grammar.proofs.Fit.{fit_of as law}
use Rattle.ruby_grammar.proofs.laws.numbers_fit.Goals as goal

pub returns : goal.returns
returns c = λ bytes ts e l. law bytes ts e l
