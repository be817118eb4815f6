use Rattle.script_lines.proofs.Grammar.{told_is_good}
use Rattle.script_lines.proofs.laws.told_lines_are_of_the_grammar.Goals as goal

pub returns-clause-grammar : goal.returns-clause-grammar
returns-clause-grammar c = λ left later told is. (told_is_good left later told is).grammar

pub returns-clause-fewer : goal.returns-clause-fewer
returns-clause-fewer c = λ left later told is. (told_is_good left later told is).fewer
