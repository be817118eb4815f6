use Rattle.std.proofs.Common.{Ok}
use Rattle.ruby_parse_statement.proofs.BlockLaws.{then_reads, line_taken}
use Rattle.ruby_parse_statement.proofs.blocks.then_or_line.Goals as goal

pub returns-then-sees-clause-reads : goal.returns-then-sees-clause-reads
returns-then-sees-clause-reads c = then_reads c.args.cursor.now c.skip.new.self c.perhaps_line.new.cursor (Ok tt)
    (cc) c.skip.ensures c.perhaps_line.ensures.reads

pub returns-else-sees-clause-reads : goal.returns-else-sees-clause-reads
returns-else-sees-clause-reads c = line_taken c.args.cursor.now c.take.new.self c.take.result
    (cc) c.take.ensures.ok c.take.ensures.passed c.take.ensures.fault c.take.ensures.stays c.take.ensures.other
