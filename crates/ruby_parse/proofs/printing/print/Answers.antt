use Rattle.ruby_parse.proofs.Back.{result_read_back}
use Rattle.ruby_parse.proofs.printing.print.Goals as goal

pub returns-clause-read_back : goal.returns-clause-read_back
returns-clause-read_back c = result_read_back c.print.result c.args.tree.now c.print.ensures.printed
