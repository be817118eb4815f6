use Rattle.ruby_print_tokens.proofs.Files.{formed_is_lexed}
use Rattle.ruby_print_tokens.proofs.laws.printed_files_are_cut_into_their_pieces.Goals as goal

pub returns : goal.returns
returns c = λ tree f. formed_is_lexed tree f
