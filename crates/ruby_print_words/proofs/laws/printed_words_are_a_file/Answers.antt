use Rattle.ruby_print_words.proofs.Law.{formed_is_spelled as law}
use Rattle.ruby_print_words.proofs.laws.printed_words_are_a_file.Goals as goal

pub returns : goal.returns
returns c = λ tree h. law tree h
