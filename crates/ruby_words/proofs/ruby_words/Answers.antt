use Rattle.ruby_words.proofs.Rises.{words_make_a_table}
use Rattle.ruby_words.proofs.ruby_words.Goals as goal

pub unreachable-requires : goal.unreachable-requires
unreachable-requires c = words_make_a_table c.in-Err.field-0 c.in-Err.ensures.fault
