use Rattle.ruby_print_trees.proofs.Law.{formed_text as law}
use Rattle.ruby_print_trees.proofs.laws.each_text_is_formed.Goals as goal

pub returns : goal.returns
returns c = λ bytes tree t. law bytes tree t
