use Rattle.ruby_parse_steps.proofs.PathLaws.{top_constant, plain_constant, no_constant}
use Rattle.ruby_parse_steps.proofs.paths.constant.Goals as goal

pub returns-then-sees-clause-reads : goal.returns-then-sees-clause-reads
returns-then-sees-clause-reads c = top_constant c.args.cursor.now c.skip.new.self c.constant_from.new.cursor
    c.constant_from.result (cc) c.skip.ensures c.constant_from.ensures.reads

pub returns-then-sees-2-clause-reads : goal.returns-then-sees-2-clause-reads
returns-then-sees-2-clause-reads c = plain_constant c.args.cursor.now c.constant_from-then-sees-2.new.cursor
    c.constant_from-then-sees-2.result (cc) (cc) c.constant_from-then-sees-2.ensures.reads

pub returns-else-sees-2-clause-reads : goal.returns-else-sees-2-clause-reads
returns-else-sees-2-clause-reads c = no_constant c.args.cursor.now (cc) (cc)
