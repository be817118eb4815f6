use Rattle.ruby_parse_statement.proofs.BlockLaws.{line_skipped, no_line}
use Rattle.ruby_parse_statement.proofs.blocks.perhaps_line.Goals as goal

pub returns-then-sees-clause-reads : goal.returns-then-sees-clause-reads
returns-then-sees-clause-reads c = line_skipped c.args.cursor.now c.skip.new.self (cc) c.skip.ensures

pub returns-else-sees-clause-reads : goal.returns-else-sees-clause-reads
returns-else-sees-clause-reads c = no_line c.args.cursor.now (cc)
